-- The test of agreement is true exactly where two states agree.
use Rattle.std.proofs.Common.{◌≡◌, ℕ, zero, suc, ◌+◌, ◌-◌, ◌*◌, ◌<◌, ◌≤◌, Bool, true, false, not, ◌==◌, ◌||◌, nat_lt, nat_eq, List, [], ◌∷◌}
use Rattle.std.proofs.Common.{◌++◌, length, if◌then◌else◌, refl, sym, ◌∙◌, ap, subst, arith, lit<, eq-eqb, eqb-true, Option, Some, None}
use Rattle.std.specs.Prelude.{IfSome, IsTrue, option_map, slice_index}
use Rattle.std.specs.Bool.{Decides}
use Rattle.std.specs.Cmp.Lexicographic.{pointwise_decides}
use Rattle.std.specs.List.{list_all, range_with_len}
use Rattle.std.specs.Option.{option_eq}
use Rattle.std.proofs.Math.ListN.{get_or-eq_default}
use Rattle.std.proofs.lemmas.Bool.{and_from, and_parts, le-ltb, ltb-true, ltb-false}
use Rattle.std.proofs.lemmas.Bool.Decides.{Decides-and, Decides-eqb, Decides-like}
use Rattle.mx_words.specs.declared.perm.Perm.{Perm}
use Rattle.mx_words.specs.declared.perm.Perm.TheVariants as P
use Rattle.mx_words.specs.declared.perm.Access.TheVariants as A
use Rattle.mx_words.specs.Rights.{allows, number, same}
use Rattle.mx_words.specs.Newest.{at, map}
use Rattle.mx_words.proofs.ElementLaws as elements
use Rattle.mx_words.proofs.OverlayLaws.{length-map_of}
use Rattle.mx_words.proofs.RangeTests.{all_pass, each_passes}
use Rattle.mx_words.proofs.RunLaws.{same_eq}
use Rattle.mx_model.specs.declared.values.Gate.{Gate}
use Rattle.mx_model.specs.Agreement.{Agrees, Standing, Runs, Waits, Ended, standing, target_at}
use Rattle.mx_model.specs.Gates.{gate_at, is_at}
use Rattle.mx_model.specs.Reads.{Reads, reads, flat_reads, grants_of, map_in}
use Rattle.mx_model.specs.State.{Core, State, Flat, hart_at, module_at}
use Rattle.mx_model.specs.Valid.{IsFlat}
use Rattle.mx_model.proofs.JoinLaws.{all-first, all-second}
use Rattle.mx_model.proofs.ListLaws.{all-at, all-find, found-passes}
use Rattle.mx_laws.specs.Comparison.{AreFit, IsBounded, agrees, same_flag, same_if_read, same_right, same_standing, same_target, same_word}

-- tests on standings, flags, permissions and targets
pub decides-standing : (a b : Standing) → Decides (same_standing a b) (a ≡ b)
decides-standing Runs Runs = (λ e. refl, λ p. refl)
decides-standing Runs Waits = (λ e. absurd (let q : ⊥ = cc in q), λ p. absurd (let q : ⊥ = cc in q))
decides-standing Runs Ended = (λ e. absurd (let q : ⊥ = cc in q), λ p. absurd (let q : ⊥ = cc in q))
decides-standing Waits Runs = (λ e. absurd (let q : ⊥ = cc in q), λ p. absurd (let q : ⊥ = cc in q))
decides-standing Waits Waits = (λ e. refl, λ p. refl)
decides-standing Waits Ended = (λ e. absurd (let q : ⊥ = cc in q), λ p. absurd (let q : ⊥ = cc in q))
decides-standing Ended Runs = (λ e. absurd (let q : ⊥ = cc in q), λ p. absurd (let q : ⊥ = cc in q))
decides-standing Ended Waits = (λ e. absurd (let q : ⊥ = cc in q), λ p. absurd (let q : ⊥ = cc in q))
decides-standing Ended Ended = (λ e. refl, λ p. refl)

pub decides-flag : (a b : Bool) → Decides (same_flag a b) (a ≡ b)
decides-flag true true = (λ e. refl, λ p. refl)
decides-flag true false = (λ e. sym e, λ p. sym p)
decides-flag false true = (λ e. e, λ p. p)
decides-flag false false = (λ e. refl, λ p. refl)

pub decides-right : (p q : Perm) → Decides (same p q) (p ≡ q)
decides-right p q = (same_eq p q, λ e. eq-eqb (number p) (number q) (ap number e))

pub decides-target : (o p : Option ℕ) → Decides (option_eq nat_eq o p) (o ≡ p)
decides-target None None = (λ e. refl, λ p. refl)
decides-target None (Some y) = (λ e. absurd (let q : ⊥ = cc in q), λ p. absurd (let q : ⊥ = cc in q))
decides-target (Some x) None = (λ e. absurd (let q : ⊥ = cc in q), λ p. absurd (let q : ⊥ = cc in q))
decides-target (Some x) (Some y) = Decides-like (nat_eq x y) (λ e. ap (λ (n : ℕ). Some n) e) (λ e. let q : x ≡ y = cc in q)
    (Decides-eqb x y)

-- a test of all elements
all-from : (p : Gate → Bool) (xs : List Gate) → ((x : Gate) → p x ≡ true) → list_all p xs ≡ true
all-from p [] k = refl
all-from p (x ∷ xs) k = and_from (p x) (list_all p xs) (k x) (all-from p xs k)

-- a fact of the words of RAM that holds outside RAM anyway
decides-words : (p : ℕ → Bool) (size : ℕ) (W : ℕ → Type 0) → ((i : ℕ) → Decides (p i) (W i)) → ((i : ℕ) → size ≤ i → W i) →
    Decides (list_all p (range_with_len 0 size)) ((i : ℕ) → W i)
decides-words p size W d out = (
  λ e i. elim (nat_lt i size) as (λ b. nat_lt i size ≡ b → W i) [
    | true ↦ λ t. let l = ltb-true i size t in (d i).0 (each_passes p 0 size e i (omega arith) (omega (arith, l)))
    | false ↦ λ t. out i (ltb-false i size t)
  ] refl,
  λ k. all_pass p 0 size (λ i _ _. (d i).1 (k i)),
)

-- four tests, and a test that is asked where another holds
pub decides-four : (p : ℕ → Bool) (W : ℕ → Type 0) → ((k : ℕ) → Decides (p k) (W k))
    → Decides (list_all p (0 ∷ 1 ∷ 2 ∷ 3 ∷ [])) ((k : ℕ) → k < 4 → W k)
decides-four p W d = (
  each,
  λ f.
      and_from (p 0) _ ((d 0).1 (f 0 (lit< tt))) (and_from (p 1) _ ((d 1).1 (f 1 (lit< tt)))
      (and_from (p 2) _ ((d 2).1 (f 2 (lit< tt))) (and_from (p 3) true ((d 3).1 (f 3 (lit< tt))) refl))),
)
  where
    each : list_all p (0 ∷ 1 ∷ 2 ∷ 3 ∷ []) ≡ true → (k : ℕ) → k < 4 → W k
    each e zero l = (d 0).0 (and_parts (p 0) _ e).0
    each e (suc zero) l = (d 1).0 (and_parts (p 1) _ (and_parts (p 0) _ e).1).0
    each e (suc (suc zero)) l = (d 2).0 (and_parts (p 2) _ (and_parts (p 1) _ (and_parts (p 0) _ e).1).1).0
    each e (suc (suc (suc zero))) l = (d 3).0 (and_parts (p 3) _ (and_parts (p 2) _ (and_parts (p 1) _ (and_parts (p 0) _ e).1).1).1).0
    each e (suc (suc (suc (suc k)))) l = absurd (let q : ⊥ = omega (arith, l) in q)

pub decides-where : (b x : Bool) (W : Type 0) → Decides x W → Decides (not b || x) (IsTrue b → W)
decides-where true x W d = (λ e p. d.0 e, λ f. d.1 (f refl))
decides-where false x W d = (λ e p. absurd (let q : ⊥ = cc in q), λ f. refl)

-- the bytes of a word that a domain may read
abbrev pub SameBytes : Core → Core → ℕ → Type 0
SameBytes c e word = (k : ℕ) → k < 4 → slice_index c.ram (4 * word + k) ≡ slice_index e.ram (4 * word + k)

pub decides-bytes : (r : Reads) (c e : Core) (d word : ℕ) → Decides (same_if_read r c e d word) (IsTrue (allows (r.perm d word) A.Read)
    → SameBytes c e word)
decides-bytes r c e d word = decides-where (allows (r.perm d word) A.Read) (same_word c e word) (SameBytes c e word)
    (decides-four (λ k. slice_index c.ram (4 * word + k) == slice_index e.ram (4 * word + k))
    (λ k. slice_index c.ram (4 * word + k) ≡ slice_index e.ram (4 * word + k))
    (λ k. Decides-eqb (slice_index c.ram (4 * word + k)) (slice_index e.ram (4 * word + k))))

-- the targets of a domain's gates: where no gate stands there is none in either
module _ (c e : Core) (d : ℕ) where
  abbrev same_at : Gate → Bool
  same_at g = same_target c e d g.word

  word-of : (i : ℕ) (g : Gate) → is_at d i g ≡ true → g.word ≡ i
  word-of i g t = eqb-true g.word i (and_parts (g.domain == d) (g.word == i) t).1

  target-tested : (i : ℕ) (g : Gate) → same_at g ≡ true → is_at d i g ≡ true → target_at c d i ≡ target_at e d i
  target-tested i g t s =
      let n = word-of i g s in
      subst (λ (w : ℕ). target_at c d w ≡ target_at e d w) n ((decides-target (target_at c d g.word) (target_at e d g.word)).0 t)

  target-found : (i : ℕ) (o p : Option Gate) → gate_at c.gates d i ≡ o → gate_at e.gates d i ≡ p →
      IfSome o (λ g. same_at g ≡ true) → IfSome p (λ g. same_at g ≡ true) → IfSome o (λ g. is_at d i g ≡ true)
      → IfSome p (λ g. is_at d i g ≡ true) →
      target_at c d i ≡ target_at e d i
  target-found i None None f g s t a b = ap (option_map (λ (x : Gate). x.target)) (f ∙ sym g)
  target-found i None (Some y) f g s t a b = target-tested i y t b
  target-found i (Some x) p f g s t a b = target-tested i x s a

  targets-same : list_all same_at (c.gates ++ e.gates) ≡ true → (i : ℕ) → target_at c d i ≡ target_at e d i
  targets-same t i =
      let all = elements.each_passes same_at (c.gates ++ e.gates) t in
      target-found i (gate_at c.gates d i) (gate_at e.gates d i) refl refl
      (all-find (λ g. same_at g ≡ true) (is_at d i) c.gates (all-first (λ g. same_at g ≡ true) c.gates e.gates all))
      (all-find (λ g. same_at g ≡ true) (is_at d i) e.gates (all-second (λ g. same_at g ≡ true) c.gates e.gates all))
      (found-passes (is_at d i) c.gates) (found-passes (is_at d i) e.gates)

  decides-gates : Decides (list_all same_at (c.gates ++ e.gates)) ((i : ℕ) → target_at c d i ≡ target_at e d i)
  decides-gates = (
    targets-same,
    λ k. all-from same_at (c.gates ++ e.gates) (λ g.
        (decides-target (target_at c d g.word) (target_at e d g.word)).1 (k g.word)),
  )

-- a right outside RAM
out-of-ram : (r : Reads) (c : Core) (q : Reads) (e : Core) → AreFit r c q e → (d i : ℕ) → c.size ≤ i → r.perm d i ≡ q.perm d i
out-of-ram r c q e a d i l = a.first.outside d i l ∙ sym (a.second.outside d i (subst (λ (n : ℕ). n ≤ i) a.words l))

unread-outside : (r : Reads) (c : Core) (q : Reads) (e : Core) → AreFit r c q e → (d i : ℕ) → c.size ≤ i →
    IsTrue (allows (r.perm d i) A.Read) → SameBytes c e i
unread-outside r c q e a d i l p =
    let n : allows P.None A.Read ≡ true = subst (λ (x : Perm). allows x A.Read ≡ true) (a.first.outside d i l) p in
    absurd (let q : ⊥ = cc in q)

-- no test is left
decides-none : Decides true (Unit {0})
decides-none = (λ n. tt, λ n. refl)

-- the test
pub agrees-decides : (r q : Reads) (c e : Core) (h : ℕ) → AreFit r c q e → Decides (agrees r c q e h) (Agrees r c q e h)
agrees-decides r q c e h a =
    let x = hart_at c h in
    let y = hart_at e h in
    let d = x.domain in
    Decides-like (agrees r c q e h)
    (λ p. record {
      same_standing = p.0;
      same_pc = p.1.0;
      same_regs = p.1.1.0;
      same_domain = p.1.1.1.0;
      same_map = p.1.1.1.1.0;
      same_death = p.1.1.1.1.1.0;
      same_gates = p.1.1.1.1.1.1.0;
      same_bytes = p.1.1.1.1.1.1.1.0;
    })
    (λ s. (s.same_standing, (s.same_pc, (s.same_regs, (s.same_domain, (s.same_map, (s.same_death, (s.same_gates, (s.same_bytes, tt)))))))))
    (Decides-and _ _ (decides-standing (standing x.status) (standing y.status))
    (Decides-and _ _ (Decides-eqb x.pc y.pc)
    (Decides-and _ _ (pointwise_decides Decides-eqb x.regs y.regs)
    (Decides-and _ _ (Decides-eqb x.domain y.domain)
    (Decides-and _ _ (decides-words (same_right r q d) c.size (λ i. r.perm d i ≡ q.perm d i) (λ i. decides-right (r.perm d i) (q.perm d i))
    (out-of-ram r c q e a d))
    (Decides-and _ _ (decides-flag (module_at c d).dead (module_at e d).dead)
    (Decides-and _ _ (decides-gates c e d)
    (Decides-and _ _ (decides-words (same_if_read r c e d) c.size (λ i. IsTrue (allows (r.perm d i) A.Read)
    → SameBytes c e i) (decides-bytes r c e d) (unread-outside r c q e a d))
    decides-none))))))))

-- no right outside RAM
pub bounded-state : (s : State) → IsBounded (reads s) s.core
bounded-state s = record {
  outside = λ d word l. ap (λ (b : Bool). if b then at (grants_of s.grants d) word else P.None) (le-ltb word s.core.size l);
}

pub bounded-flat : (f : Flat) → IsFlat f → IsBounded (flat_reads f) f.core
bounded-flat f p = record {
  outside = λ d word l.
      let size = f.core.size in
      let count : length (map_in size f.maps d) ≡ size = all-at (λ (m : List Perm). length m ≡ size) f.maps (map [] size) p.whole_maps
      (length-map_of [] size) (d - 1) in
      get_or-eq_default (map_in size f.maps d) P.None (subst (λ (n : ℕ). n ≤ word) (sym count) l);
}

-- What a domain sees of two states is decided by tests: of all, and after a turn of what was touched.
use Rattle.std.proofs.Common.{◌≡◌, ℕ, ◌+◌, ◌*◌, ◌<◌, Bool, true, false, ◌==◌, ◌&&◌, ◌||◌, [], ◌∷◌, ◌++◌, refl, sym, ◌∙◌, subst}
use Rattle.std.proofs.Common.{lit<, eq-eqb}
use Rattle.std.specs.Prelude.{IsTrue}
use Rattle.std.specs.Bool.{Decides}
use Rattle.std.specs.Cmp.Lexicographic.{pointwise_decides}
use Rattle.std.specs.List.{list_all, range_with_len}
use Rattle.std.proofs.lemmas.Bool.{and_from, and_parts}
use Rattle.std.proofs.lemmas.Bool.Decides.{Decides-and, Decides-eqb, Decides-like}
use Rattle.mx_words.specs.declared.perm.Perm.{Perm}
use Rattle.mx_words.specs.declared.perm.Access.TheVariants as A
use Rattle.mx_words.specs.FirstFit.{Area}
use Rattle.mx_words.specs.Rights.{allows, same}
use Rattle.mx_words.proofs.OverlayLaws.{covers_from, covers_in}
use Rattle.mx_words.proofs.RangeTests.{all_pass, each_passes}
use Rattle.mx_model.specs.declared.values.Gate.{Gate}
use Rattle.mx_model.specs.Agreement.{Agrees, standing, target_at}
use Rattle.mx_model.specs.Reads.{Reads}
use Rattle.mx_model.specs.State.{Core, Hart, Running, module_at}
use Rattle.mx_laws.specs.Comparison.{AreFit, agrees, same_if_read, same_right, same_standing, same_target}
use Rattle.mx_laws.proofs.ComparisonLaws.{agrees-decides, decides-standing, decides-flag, decides-right, decides-target}
use Rattle.mx_laws.proofs.ComparisonLaws.{SameBytes, decides-bytes, decides-where}
use Rattle.mx_touched.specs.Touched.{Touched, is_among}
use Rattle.mx_touched.specs.Rest.{AreSameHarts, LeavesAll}
use Rattle.mx_touched.specs.Views.{AreSameViews, same_death, same_hart, same_touched, same_views, sees_same, words_of}

-- two harts
pub decides-hart : (x y : Hart) → Decides (same_hart x y) (AreSameHarts x y)
decides-hart x y =
    Decides-like (same_hart x y)
    (λ p. record { standing = p.0; pc = p.1.0; regs = p.1.1.0; domain = p.1.1.1.0 })
    (λ s. (s.standing, (s.pc, (s.regs, (s.domain, tt)))))
    (Decides-and _ _ (decides-standing (standing x.status) (standing y.status))
    (Decides-and _ _ (Decides-eqb x.pc y.pc)
    (Decides-and _ _ (pointwise_decides Decides-eqb x.regs y.regs)
    (Decides-and _ _ (Decides-eqb x.domain y.domain) decides-none))))
  where
    decides-none : Decides true (Unit {0})
    decides-none = (λ n. tt, λ n. refl)

-- a word as a domain sees it
record SameWord (r : Reads) (c : Core) (q : Reads) (e : Core) (d word : ℕ) : Type 0 where
  right : r.perm d word ≡ q.perm d word
  bytes : IsTrue (allows (r.perm d word) A.Read) → SameBytes c e word

decides-word : (r : Reads) (c : Core) (q : Reads) (e : Core) (d word : ℕ) →
    Decides (sees_same r c q e d word) (SameWord r c q e d word)
decides-word r c q e d word =
    Decides-like (sees_same r c q e d word) (λ p. record { right = p.0; bytes = p.1 }) (λ s. (s.right, s.bytes))
    (Decides-and _ _ (decides-right (r.perm d word) (q.perm d word))
    (decides-bytes r c e d word))

-- the words of an area
decides-among : (test : ℕ → Bool) (W : ℕ → Type 0) (area : Area) → ((w : ℕ) → Decides (test w) (W w)) →
    Decides (list_all test (words_of area)) ((w : ℕ) → is_among area w ≡ true → W w)
decides-among test W area d = (
  λ e w m.
      let p = covers_from area.first area.count w m in
      (d w).0 (each_passes test area.first area.count e w p.0 p.1),
  λ k. all_pass test area.first area.count (λ w low high. (d w).1 (k w (covers_in area.first area.count w low high))),
)

-- what was touched, as a domain sees it
record SeesTouched (r : Reads) (c : Core) (q : Reads) (e : Core) (d : ℕ) (t : Touched) : Type 0 where
  bytes : (w : ℕ) → is_among t.bytes w ≡ true → SameWord r c q e d w
  rights : (w : ℕ) → is_among t.rights w ≡ true → SameWord r c q e d w
  gates : (w : ℕ) → is_among t.gates w ≡ true → target_at c d w ≡ target_at e d w
  death : t.death ≡ true → (module_at c d).dead ≡ (module_at e d).dead

decides-touched : (r : Reads) (c : Core) (q : Reads) (e : Core) (d : ℕ) (t : Touched) →
    Decides (same_touched r c q e d t) (SeesTouched r c q e d t)
decides-touched r c q e d t =
    Decides-like (same_touched r c q e d t)
    (λ p. record { bytes = p.0.0.0; rights = p.0.0.1; gates = p.0.1; death = p.1 })
    (λ s. (((s.bytes, s.rights), s.gates), s.death))
    (Decides-and _ _ (Decides-and _ _ (Decides-and _ _
    (decides-among (sees_same r c q e d) (SameWord r c q e d) t.bytes (decides-word r c q e d))
    (decides-among (sees_same r c q e d) (SameWord r c q e d) t.rights (decides-word r c q e d)))
    (decides-among (same_target c e d) (λ w. target_at c d w ≡ target_at e d w) t.gates
    (λ w. decides-target (target_at c d w) (target_at e d w))))
    (decides-where t.death (same_death c e d) ((module_at c d).dead ≡ (module_at e d).dead)
    (decides-flag (module_at c d).dead (module_at e d).dead)))

-- the same before and beside what was touched: the same after
module _ (r : Reads) (c : Core) (q : Reads) (e : Core) (u : Reads) (f : Core) (v : Reads) (g : Core) (s t : Touched) (h d : ℕ)
    (a : AreSameViews r c q e d) (k : LeavesAll s r c u f h) (m : LeavesAll t q e v g h) where
  right-beside : (w : ℕ) → is_among s.rights w ≡ false → is_among t.rights w ≡ false → u.perm d w ≡ v.perm d w
  right-beside w i j = k.rights.rights d w i ∙ a.map w ∙ sym (m.rights.rights d w j)

  word-beside : (w : ℕ) → is_among s.rights w ≡ false → is_among t.rights w ≡ false → is_among s.bytes w ≡ false →
      is_among t.bytes w ≡ false → SameWord u f v g d w
  word-beside w i j x y = record {
    right = right-beside w i j;
    bytes = λ b n l.
        k.rest.bytes w x n l
        ∙ a.bytes w (subst (λ (p : Perm). IsTrue (allows p A.Read)) (k.rights.rights d w i) b) n l
        ∙ sym (m.rest.bytes w y n l);
  }

  module _ (x : SeesTouched u f v g d s) (y : SeesTouched u f v g d t) where
    word-after : (w : ℕ) → SameWord u f v g d w
    word-after w = by (is_among s.rights w) (is_among t.rights w) (is_among s.bytes w) (is_among t.bytes w) refl refl refl refl
      where
        by : (b1 b2 b3 b4 : Bool) → is_among s.rights w ≡ b1 → is_among t.rights w ≡ b2 → is_among s.bytes w ≡ b3 →
            is_among t.bytes w ≡ b4 → SameWord u f v g d w
        by true b2 b3 b4 e1 e2 e3 e4 = x.rights w e1
        by false true b3 b4 e1 e2 e3 e4 = y.rights w e2
        by false false true b4 e1 e2 e3 e4 = x.bytes w e3
        by false false false true e1 e2 e3 e4 = y.bytes w e4
        by false false false false e1 e2 e3 e4 = word-beside w e1 e2 e3 e4

    gate-after : (w : ℕ) → target_at f d w ≡ target_at g d w
    gate-after w = by (is_among s.gates w) (is_among t.gates w) refl refl
      where
        by : (b1 b2 : Bool) → is_among s.gates w ≡ b1 → is_among t.gates w ≡ b2 → target_at f d w ≡ target_at g d w
        by true b2 e1 e2 = x.gates w e1
        by false true e1 e2 = y.gates w e2
        by false false e1 e2 = k.rest.gates d w e1 ∙ a.gates w ∙ sym (m.rest.gates d w e2)

    death-after : (module_at f d).dead ≡ (module_at g d).dead
    death-after = by s.death t.death refl refl
      where
        by : (b1 b2 : Bool) → s.death ≡ b1 → t.death ≡ b2 → (module_at f d).dead ≡ (module_at g d).dead
        by true b2 e1 e2 = x.death e1
        by false true e1 e2 = y.death e2
        by false false e1 e2 = k.rest.death e1 d ∙ a.death ∙ sym (m.rest.death e2 d)

    views-after : AreSameViews u f v g d
    views-after = record {
      map = λ i. (word-after i).right;
      death = death-after;
      gates = gate-after;
      bytes = λ i b. (word-after i).bytes b;
    }

sees-all : (r : Reads) (c : Core) (q : Reads) (e : Core) (d : ℕ) (t : Touched) → AreSameViews r c q e d →
    SeesTouched r c q e d t
sees-all r c q e d t a = record {
  bytes = λ w m. record { right = a.map w; bytes = a.bytes w };
  rights = λ w m. record { right = a.map w; bytes = a.bytes w };
  gates = λ w m. a.gates w;
  death = λ m. a.death;
}

pub touched-decide : (r : Reads) (c : Core) (q : Reads) (e : Core) (u : Reads) (f : Core) (v : Reads) (g : Core) (s t : Touched) (h d : ℕ) →
    AreSameViews r c q e d → LeavesAll s r c u f h → LeavesAll t q e v g h →
    Decides (same_touched u f v g d s && same_touched u f v g d t) (AreSameViews u f v g d)
touched-decide r c q e u f v g s t h d a k m = (
  λ b.
      let p = and_parts (same_touched u f v g d s) (same_touched u f v g d t) b in
      views-after r c q e u f v g s t h d a k m ((decides-touched u f v g d s).0 p.0) ((decides-touched u f v g d t).0 p.1),
  λ n.
      and_from (same_touched u f v g d s) (same_touched u f v g d t)
      ((decides-touched u f v g d s).1 (sees-all u f v g d s n)) ((decides-touched u f v g d t).1 (sees-all u f v g d t n)),
)

-- all that a domain sees: as a hart in it would agree
all-both : (p q : ℕ → Bool) (n : ℕ) → list_all p (range_with_len 0 n) ≡ true → list_all q (range_with_len 0 n) ≡ true →
    list_all (λ w. p w && q w) (range_with_len 0 n) ≡ true
all-both p q n a b =
    all_pass (λ w. p w && q w) 0 n (λ w low high. and_from (p w) (q w) (each_passes p 0 n a w low high) (each_passes q 0 n b w low high))

all-first : (p q : ℕ → Bool) (n : ℕ) → list_all (λ w. p w && q w) (range_with_len 0 n) ≡ true → list_all p (range_with_len 0 n) ≡ true
all-first p q n a = all_pass p 0 n (λ w low high. (and_parts (p w) (q w) (each_passes (λ w. p w && q w) 0 n a w low high)).0)

all-second : (p q : ℕ → Bool) (n : ℕ) → list_all (λ w. p w && q w) (range_with_len 0 n) ≡ true → list_all q (range_with_len 0 n) ≡ true
all-second p q n a = all_pass q 0 n (λ w low high. (and_parts (p w) (q w) (each_passes (λ w. p w && q w) 0 n a w low high)).1)

module _ (r : Reads) (c : Core) (q : Reads) (e : Core) (d : ℕ) (a : AreFit r c q e) where
  abbrev watcher : Hart
  watcher = record { regs = []; pc = 0; domain = d; frames = []; status = Running }

  abbrev first : Core
  first = record c { harts = watcher ∷ [] }

  abbrev second : Core
  second = record e { harts = watcher ∷ [] }

  watched : Decides (agrees r first q second 0) (Agrees r first q second 0)
  watched = agrees-decides r q first second 0 (record {
    words = a.words;
    first = record { outside = a.first.outside };
    second =
        record { outside = a.second.outside };
  })

  abbrev rights : ℕ → Bool
  rights = same_right r q d

  abbrev read : ℕ → Bool
  read = same_if_read r c e d

  abbrev death : Bool
  death = same_death c e d

  abbrev gates : Bool
  gates = list_all (λ (g : Gate). same_target c e d g.word) (c.gates ++ e.gates)

  abbrev Parts : Type 0
  Parts = (list_all rights (range_with_len 0 c.size) ≡ true) × (death ≡ true) × (gates ≡ true)
      × (list_all read (range_with_len 0 c.size) ≡ true)

  agrees-parts : agrees r first q second 0 ≡ true → Parts
  agrees-parts t =
      let p1 = (and_parts (d == d) _ t).1 in
      let p2 = and_parts (list_all rights (range_with_len 0 c.size)) _ p1 in
      let p3 = and_parts death _ p2.1 in
      let p4 = and_parts gates _ p3.1 in
      let p5 = and_parts (list_all read (range_with_len 0 c.size)) true p4.1 in
      (p2.0, p3.0, p4.0, p5.0)

  agrees-from : Parts → agrees r first q second 0 ≡ true
  agrees-from p =
      and_from (d == d) _ (eq-eqb d d refl) (and_from (list_all rights (range_with_len 0 c.size)) _ p.0
      (and_from death _ p.1 (and_from gates _ p.2 (and_from (list_all read (range_with_len 0 c.size)) true p.3 refl))))

  pub views-decides : Decides (same_views r c q e d) (AreSameViews r c q e d)
  views-decides = (
    λ t.
        let p = and_parts (list_all (sees_same r c q e d) (range_with_len 0 c.size) && death) gates t in
        let o = and_parts (list_all (sees_same r c q e d) (range_with_len 0 c.size)) death p.0 in
        let s = watched.0 (agrees-from (all-first rights read c.size o.0, o.1, p.1, all-second rights read c.size o.0)) in
        record { map = s.same_map; death = s.same_death; gates = s.same_gates; bytes = s.same_bytes },
    λ s.
        let p = agrees-parts (watched.1 (record {
          same_standing = refl;
          same_pc = refl;
          same_regs = refl;
          same_domain = refl;
          same_map = s.map;
          same_death = s.death;
          same_gates = s.gates;
          same_bytes = s.bytes;
        })) in
        and_from (list_all (sees_same r c q e d) (range_with_len 0 c.size) && death) gates
        (and_from (list_all (sees_same r c q e d) (range_with_len 0 c.size)) death (all-both rights read c.size p.0 p.3) p.1) p.2,
  )

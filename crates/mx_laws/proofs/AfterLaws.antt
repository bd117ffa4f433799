-- Twins agree after a turn without a border, for each hart for which they agreed before.
use Rattle.std.proofs.Common.{◌≡◌, ℕ, zero, suc, ◌+◌, ◌-◌, ◌*◌, ◌/◌, ◌%◌, Bool, true, false, ◌==◌, nat_lt, List, [], ◌∷◌, length, get_or}
use Rattle.std.proofs.Common.{set, refl, sym, ◌∙◌, ap, subst, arith, eqb-true, if◌then◌else◌, Option, None}
use Rattle.std.proofs.lemmas.Bool.{eqb-false}
use Rattle.std.proofs.lemmas.List.{length-set}
use Rattle.std.specs.Prelude.{IsTrue}
use Rattle.mx_words.specs.declared.perm.Perm.{Perm}
use Rattle.mx_words.specs.declared.perm.Perm.TheVariants as P
use Rattle.mx_words.specs.declared.perm.Access.TheVariants as A
use Rattle.mx_words.specs.Bytes.{put_at}
use Rattle.mx_words.specs.Newest.{at}
use Rattle.mx_words.specs.Rights.{allows, perm_at}
use Rattle.mx_model.specs.declared.values.Gate.{Gate}
use Rattle.mx_model.specs.Agreement.{Agrees, agree, flat_agree, standing, target_at}
use Rattle.mx_model.specs.Effect.{next}
use Rattle.mx_model.specs.Gates.{gate_target}
use Rattle.mx_model.specs.Reads.{Reads, Change, reads, flat_reads, grants_of, map_in}
use Rattle.mx_model.specs.Run.{turn, flat_turn, made_of, flat_made, after, flat_after, grants_after, maps_after}
use Rattle.mx_model.specs.State.{Core, Hart, Module, State, Flat, hart_at, module_at, no_module}
use Rattle.mx_model.specs.Turn.{Action, Runs, Made, turned}
use Rattle.mx_model.proofs.KeepLaws.{size-turned}
use Rattle.mx_laws.specs.Twins.{AreFreeTwins, free_twins, flat_free_twins}
use Rattle.mx_laws.proofs.TurnParts.{IsAlike}
use Rattle.mx_laws.proofs.TwinLaws.{IsLeftFree, action_in, store_of, hart_then, pc_of, regs_of, left-twin, left-other}

-- a byte that is the same in two lists of one length is the same after one store in both
set-same : (xs ys : List ℕ) (k v j : ℕ) → length xs ≡ length ys → get_or xs j 0 ≡ get_or ys j 0
    → get_or (set xs k v) j 0 ≡ get_or (set ys k v) j 0
set-same [] [] k v j l e = e
set-same [] (y ∷ ys) k v j l e = absurd (let q : ⊥ = omega (arith, l) in q)
set-same (x ∷ xs) [] k v j l e = absurd (let q : ⊥ = omega (arith, l) in q)
set-same (x ∷ xs) (y ∷ ys) zero v zero l e = refl
set-same (x ∷ xs) (y ∷ ys) zero v (suc j) l e = e
set-same (x ∷ xs) (y ∷ ys) (suc k) v zero l e = e
set-same (x ∷ xs) (y ∷ ys) (suc k) v (suc j) l e = set-same xs ys k v j (omega (arith, l)) e

put-same : (size : ℕ) (xs ys : List ℕ) (k n j : ℕ) → length xs ≡ length ys → get_or xs j 0 ≡ get_or ys j 0 →
    get_or (put_at xs k size n) j 0 ≡ get_or (put_at ys k size n) j 0
unfolding put_at
put-same zero xs ys k n j l e = e
put-same (suc size) xs ys k n j l e =
    put-same size (set xs k (n % 256)) (set ys k (n % 256)) (k + 1) (n / 256) j
    (length-set xs k (n % 256) ∙ l ∙ sym (length-set ys k (n % 256))) (set-same xs ys k (n % 256) j l e)

-- what agreement says of two harts
record SameHarts (x y : Hart) : Type 0 where
  standing : standing x.status ≡ standing y.status
  pc : x.pc ≡ y.pc
  regs : x.regs ≡ y.regs
  domain : x.domain ≡ y.domain

harts-agree : (r : Reads) (c : Core) (q : Reads) (e : Core) (h : ℕ) → Agrees r c q e h → SameHarts (hart_at c h) (hart_at e h)
harts-agree r c q e h a = record { standing = a.same_standing; pc = a.same_pc; regs = a.same_regs; domain = a.same_domain }

harts-alike : (x y v w : Hart) → SameHarts x y → IsAlike x v → IsAlike y w → SameHarts v w
harts-alike x y v w s a b = record {
  standing = sym a.standing ∙ s.standing ∙ b.standing;
  pc = sym a.pc ∙ s.pc ∙ b.pc;
  regs = sym a.regs ∙ s.regs ∙ b.regs;
  domain = sym a.domain ∙ s.domain ∙ b.domain;
}

regs-after : (x y : Hart) (a : Action) → x.regs ≡ y.regs → regs_of x a ≡ regs_of y a
regs-after x y (Runs regs pc) e = refl
regs-after x y action e = e

pc-after : (x y : Hart) (a : Action) → x.pc ≡ y.pc → pc_of x a ≡ pc_of y a
pc-after x y (Runs regs pc) e = refl
pc-after x y action e = ap next e

harts-after : (x y : Hart) (a : Action) → SameHarts x y → SameHarts (hart_then x a) (hart_then y a)
harts-after x y a s = record { standing = refl; pc = pc-after x y a s.pc; regs = regs-after x y a s.regs; domain = s.domain }

-- a module, and the target of a gate, by the list in which they stand
abbrev pub module_in : List Module → ℕ → Module
module_in modules d = get_or modules (d - 1) no_module

-- hart g after a turn of hart h in both
module _ (r : Reads) (c : Core) (q : Reads) (e : Core) (h g : ℕ) (t : AreFreeTwins r c q e h) (a : Agrees r c q e g) where
  abbrev first : Core
  first = (turned r c h).core

  abbrev second : Core
  second = (turned q e h).core

  action : Action
  action = action_in r c h (hart_at c h)

  left : IsLeftFree r c h action
  unfolding action
  left = left-twin r c q e h t

  right : IsLeftFree q e h action
  unfolding action
  right = left-other r c q e h t

  -- its domain stays, and it is the same in both
  domain-stays : (b : Bool) → (g == h) ≡ b → (hart_at first g).domain ≡ (hart_at c g).domain
  domain-stays true n =
      let same : g ≡ h = eqb-true g h n in
      subst (λ (i : ℕ). (hart_at first i).domain ≡ (hart_at c i).domain) (sym same) (ap (λ (x : Hart). x.domain) left.own)
  domain-stays false n = sym (left.others g (eqb-false g h n)).domain

  same-harts : (b : Bool) → (g == h) ≡ b → SameHarts (hart_at first g) (hart_at second g)
  same-harts true n =
      let same : g ≡ h = eqb-true g h n in
      subst (λ (i : ℕ). SameHarts (hart_at first i) (hart_at second i)) (sym same)
      (subst (λ (y : Hart). SameHarts (hart_at first h) y) (sym right.own)
      (subst (λ (x : Hart). SameHarts x (hart_then (hart_at e h) action)) (sym left.own)
      (harts-after (hart_at c h) (hart_at e h) action (harts-agree r c q e h t.twins.agreement))))
  same-harts false n =
      harts-alike (hart_at c g) (hart_at e g) (hart_at first g) (hart_at second g) (harts-agree r c q e g a)
      (left.others g (eqb-false g h n)) (right.others g (eqb-false g h n))

  same-byte : (j : ℕ) → get_or c.ram j 0 ≡ get_or e.ram j 0 → get_or first.ram j 0 ≡ get_or second.ram j 0
  same-byte j n =
      let s = store_of action in
      ap (λ (xs : List ℕ). get_or xs j 0) left.ram ∙ put-same s.size c.ram e.ram s.place s.value j t.twins.bytes n
      ∙ sym (ap (λ (xs : List ℕ). get_or xs j 0) right.ram)

  -- agreement afterwards, where the permissions stay
  pub agrees-after : (u v : Reads) → ((d i : ℕ) → u.perm d i ≡ r.perm d i) → ((d i : ℕ) → v.perm d i ≡ q.perm d i)
      → Agrees u first v second g
  agrees-after u v m n =
      let d = (hart_at c g).domain in
      let s = same-harts (g == h) refl in
      let stays : d ≡ (hart_at first g).domain = sym (domain-stays (g == h) refl) in
      record {
        same_standing = s.standing;
        same_pc = s.pc;
        same_regs = s.regs;
        same_domain = s.domain;
        same_map = λ i. subst (λ (k : ℕ). u.perm k i ≡ v.perm k i) stays (m d i ∙ a.same_map i ∙ sym (n d i));
        same_death = subst (λ (k : ℕ). (module_at first k).dead ≡ (module_at second k).dead) stays
            (ap (λ (ms : List Module). (module_in ms d).dead) left.modules ∙ a.same_death
            ∙ sym (ap (λ (ms : List Module). (module_in ms d).dead) right.modules));
        same_gates = λ i. subst (λ (k : ℕ). target_at first k i ≡ target_at second k i) stays
            (ap (λ (gs : List Gate). gate_target gs d i) left.gates ∙ a.same_gates i
            ∙ sym (ap (λ (gs : List Gate). gate_target gs d i) right.gates));
        same_bytes = λ i p k l. same-byte (4 * i + k)
            (a.same_bytes i (subst (λ (x : Perm). IsTrue (allows x A.Read)) (m d i)
            (subst (λ (k : ℕ). IsTrue (allows (u.perm k i) A.Read)) (sym stays) p)) k l);
      }

-- a turn that changes no right leaves what is answered of permissions
reads-after : (s : State) (m : Made) → m.core.size ≡ s.core.size → m.change ≡ None → (d i : ℕ)
    → (reads (after s m)).perm d i ≡ (reads s).perm d i
reads-after s m n k d i =
    ap (λ (size : ℕ). if nat_lt i size then at (grants_of (grants_after s.grants m.change) d) i else P.None) n
    ∙ ap (λ (o : Option Change). if nat_lt i s.core.size then at (grants_of (grants_after s.grants o) d) i else P.None) k

flat-reads-after : (s : Flat) (m : Made) → m.core.size ≡ s.core.size → m.change ≡ None → (d i : ℕ) →
    (flat_reads (flat_after s m)).perm d i ≡ (flat_reads s).perm d i
flat-reads-after s m n k d i =
    ap (λ (size : ℕ). perm_at (map_in size (maps_after s.maps m.change) d) i) n
    ∙ ap (λ (o : Option Change). perm_at (map_in s.core.size (maps_after s.maps o) d) i) k

pub agree-after : (s t : State) (h g : ℕ) → free_twins s t h → agree s t g → agree (turn s h) (turn t h) g
agree-after s t h g f a =
    agrees-after (reads s) s.core (reads t) t.core h g f a (reads (turn s h)) (reads (turn t h))
    (reads-after s (made_of s h) (size-turned (reads s) s.core h) (left-twin (reads s) s.core (reads t) t.core h f).change)
    (reads-after t (made_of t h) (size-turned (reads t) t.core h) (left-other (reads s) s.core (reads t) t.core h f).change)

pub flat-agree-after : (s t : Flat) (h g : ℕ) → flat_free_twins s t h → flat_agree s t g → flat_agree (flat_turn s h) (flat_turn t h) g
flat-agree-after s t h g f a =
    agrees-after (flat_reads s) s.core (flat_reads t) t.core h g f a (flat_reads (flat_turn s h)) (flat_reads (flat_turn t h))
    (flat-reads-after s (flat_made s h) (size-turned (flat_reads s) s.core h)
    (left-twin (flat_reads s) s.core (flat_reads t) t.core h f).change)
    (flat-reads-after t (flat_made t h) (size-turned (flat_reads t) t.core h)
    (left-other (flat_reads s) s.core (flat_reads t) t.core h f).change)

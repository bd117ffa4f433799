-- Twin runs: as long as the turns are of harts of a set that meet no border, two runs share what these harts see.
use Rattle.std.proofs.Common.{◌≡◌, ℕ, zero, suc, ◌+◌, ◌%◌, ◌≤◌, Bool, true, false, ◌==◌, ◌||◌, List, [], ◌∷◌, ◌++◌, length, refl}
use Rattle.std.proofs.Common.{sym, ◌∙◌, ap, subst, arith, eqb-true}
use Rattle.std.specs.Prelude.{fold}
use Rattle.std.specs.List.{AllByRecursion}
use Rattle.std.proofs.lemmas.Bool.{eqb-false}
use Rattle.std.proofs.lemmas.List.{length-append}
use Rattle.std.proofs.lemmas.List.Sums.{fold-append}
use Rattle.mx_model.specs.Agreement.{standing}
use Rattle.mx_model.specs.Checks.{is_halted}
use Rattle.mx_model.specs.Reads.{reads}
use Rattle.mx_model.specs.Run.{Schedule, all_halted, hart_of, is_over, is_stopped, run, turn}
use Rattle.mx_model.specs.State.{Core, Hart, Status, Running, State, hart_at}
use Rattle.mx_model.proofs.KeepLaws.{keeps-turned, size-turned}
use Rattle.mx_model.proofs.ListLaws.{all-append, length-put_at}
use Rattle.mx_laws.specs.Twins.{AreTwins, IsRunning, MakeOneStore, Store, free_twins, stored}
use Rattle.mx_laws.proofs.AfterLaws.{agree-after}
use Rattle.mx_laws.proofs.QuietLaws.{halted-each}
use Rattle.mx_laws.proofs.TwinLaws.{IsLeftFree, action_in, border-twins, left-twin, store-twins}
use Rattle.mx_runs.specs.TwinRuns.{AreFreeTurns, AreTwinStates, GoAlike, IsFreeTurn}
use Rattle.mx_runs.proofs.AlignedTurns.{straight-action}
use Rattle.mx_runs.proofs.RunMoments.{one-more}

-- both schedules name the same hart, and go on
pub same-hart : (schedule : Schedule) (c e : Core) → c.turns ≡ e.turns → length c.harts ≡ length e.harts →
    hart_of schedule c ≡ hart_of schedule e
same-hart x c e p q = grind arith

goes-on : (schedule : Schedule) (s : State) (h : ℕ) → is_over schedule s.core.turns ≡ false → IsRunning s.core h →
    is_stopped schedule s ≡ false
goes-on schedule s h e p =
    elim (all_halted s.core) as (λ b. all_halted s.core ≡ b → b || is_over schedule s.core.turns ≡ false) [
      | true ↦ λ t.
          let k : true ≡ false = sym (halted-each s.core.harts h t) ∙ ap (λ (x : Status). is_halted x) p in
          absurd (cc)
      | false ↦ λ t. e
    ] refl

running-too : (x y : Status) → x ≡ Running → standing x ≡ standing y → y ≡ Running
running-too x x1 e f = grind arith

twins-of : (set : ℕ → Bool) (u v : State) (g : ℕ) → AreTwinStates set u v → set g ≡ true →
    AreTwins (reads u) u.core (reads v) v.core g
twins-of set u v g t i = search (arith, t.aligned, t.agreement)

-- one free turn of hart h in both
module _ (set : ℕ →
    Bool) (u v : State) (h : ℕ) (t : AreTwinStates set u v) (i : set h ≡ true) (f : free_twins u v h) where
  left : IsLeftFree (reads u) u.core h (action_in (reads u) u.core h (hart_at u.core h))
  left = left-twin (reads u) u.core (reads v) v.core h f

  one-store : MakeOneStore (reads u) u.core (reads v) v.core h
  one-store = store-twins (reads u) (reads v) u.core v.core h f

  aligned-after : (g : ℕ) → set g ≡ true → (b : Bool) → (g == h) ≡ b → (hart_at (turn u h).core g).pc % 4 ≡ 0
  aligned-after g j true e =
      let x = hart_at u.core h in
      subst (λ (k : ℕ). (hart_at (turn u h).core k).pc % 4 ≡ 0) (sym (eqb-true g h e))
      (subst (λ (y : Hart). y.pc % 4 ≡ 0) (sym left.own) (straight-action (reads u) u.core h x (t.aligned h i)))
  aligned-after g j false e = subst (λ (pc : ℕ). pc % 4 ≡ 0) (left.others g (eqb-false g h e)).pc (t.aligned g j)

  twins-after : AreTwinStates set (turn u h) (turn v h)
  twins-after =
      let store = one-store.store in
      let k = keeps-turned (reads u) u.core h in
      let l = keeps-turned (reads v) v.core h in
      record {
        words = size-turned (reads u) u.core h ∙ t.words ∙ sym (size-turned (reads v) v.core h);
        bytes =
            cc (
              one-store.first,
              length-put_at store.size u.core.ram store.place store.value,
              t.bytes,
              length-put_at store.size v.core.ram
                  store.place store.value,
              one-store.second,
            );
        harts = k.harts ∙ t.harts ∙ sym l.harts;
        turns = k.turns ∙ ap (λ (n : ℕ). n + 1) t.turns ∙ sym l.turns;
        aligned = λ g j. aligned-after g j (g == h) refl;
        agreement = λ g j. agree-after u v h g f (t.agreement g j);
      }

-- a store of at most four bytes
abbrev IsFew : Store → Type 0
IsFew store = store.size ≤ 4

-- what two runs of n turns have come to
record HaveGone (set : ℕ → Bool) (s t : State) (n : ℕ) (u v : State) : Type 0 where
  twins : AreTwinStates set u v
  stores : List Store
  count : length stores ≡ n
  few : AllByRecursion IsFew stores
  first : u.core.ram ≡ fold stored s.core.ram stores
  second : v.core.ram ≡ fold stored t.core.ram stores

ram-more : (old : List ℕ) (stores : List Store) (store : Store) (now after : List ℕ) → now ≡ fold stored old stores →
    after ≡ stored now store →
    after ≡ fold stored old (stores ++ store ∷ [])
ram-more old stores store now after p q = q ∙ ap (λ (xs : List ℕ). stored xs store) p
    ∙ sym (fold-append stored old stores (store ∷ []))

gone-turn : (set : ℕ → Bool) (s t : State) (n : ℕ) (u v : State) (h : ℕ) → HaveGone set s t n u v → set h ≡ true →
    free_twins u v h →
    HaveGone set s t (suc n) (turn u h) (turn v h)
gone-turn set s t n u v h p i f =
    let one = store-twins (reads u) (reads v) u.core v.core h f in
    record {
      twins = twins-after set u v h p.twins i f;
      stores = p.stores ++ one.store ∷ [];
      count = let k = length-append p.stores (one.store ∷ []) in omega (arith, k);
      few = all-append IsFew p.stores one.store p.few one.few;
      first = ram-more s.core.ram p.stores one.store u.core.ram (turn u h).core.ram p.first one.first;
      second = ram-more t.core.ram p.stores one.store v.core.ram (turn v h).core.ram p.second one.second;
    }

-- the next turn of both runs
gone-more : (set : ℕ → Bool) (schedule : Schedule) (s t : State) (m : ℕ) →
    HaveGone set s t m (run schedule m s) (run schedule m t) →
    IsFreeTurn set schedule (run schedule m s) →
    HaveGone set s t (suc m) (run schedule (m + 1) s) (run schedule (m + 1) t)
gone-more set schedule s t m p f =
    let u = run schedule m s in
    let v = run schedule m t in
    let h = hart_of schedule u.core in
    let same : h ≡ hart_of schedule v.core = same-hart schedule u.core v.core p.twins.turns p.twins.harts in
    let agreed = p.twins.agreement h f.inside in
    let over : is_over schedule v.core.turns ≡ false = sym (ap (λ (n : ℕ). is_over schedule n) p.twins.turns)
    ∙ f.named in
    let running : IsRunning v.core h =
    running-too (hart_at u.core h).status (hart_at v.core h).status f.running agreed.same_standing in
    let first : run schedule (m + 1) s ≡ turn u h = one-more schedule m s (goes-on schedule u h f.named f.running) in
    let second : run schedule (m + 1) t ≡ turn v h =
    one-more schedule m t (goes-on schedule v h over running) ∙ ap (λ (g : ℕ). turn v g) (sym same) in
    let gone = gone-turn set s t m u v h p f.inside (search (arith, twins-of, p.twins)) in
    subst (λ (x : State). HaveGone set s t (suc m) x (run schedule (m + 1) t)) (sym first)
    (subst (λ (y : State). HaveGone set s t (suc m) (turn u h) y) (sym second) gone)

gone : (set : ℕ → Bool) (schedule : Schedule) (s t : State) (n : ℕ) → AreTwinStates set s t →
    AreFreeTurns set schedule s n →
    HaveGone set s t n (run schedule n s) (run schedule n t)
gone set schedule s t zero p f = record { twins = p; stores = []; count = refl; few = tt; first = refl; second = refl }
gone set schedule s t (suc m) p f =
    let next : m + 1 ≡ suc m = omega arith in
    subst (λ (k : ℕ). HaveGone set s t (suc m) (run schedule k s) (run schedule k t)) next
    (gone-more set schedule s t m (gone set schedule s t m p (λ k l. f k (omega (arith, l)))) (f m (omega arith)))

pub twins-run : (set : ℕ → Bool) (schedule : Schedule) (s t : State) (n : ℕ) → AreTwinStates set s t →
    AreFreeTurns set schedule s n →
    GoAlike set s t n (run schedule n s) (run schedule n t)
twins-run set schedule s t n p f =
    let q = gone set schedule s t n p f in
    search (arith, border-twins, (run schedule n s).core, (run schedule n t).core, twins-of, q.twins)

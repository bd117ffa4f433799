-- Turns of one hart in two machines, and rows of them.
use Rattle.std.proofs.Common.{◌≡◌, ℕ, zero, suc, ◌+◌, ◌/◌, ◌%◌, Bool, true, false, if◌then◌else◌, refl, sym, ◌∙◌, ap, subst, arith}
use Rattle.mx_model.specs.declared.values.TurnKind.TheVariants as T
use Rattle.mx_model.specs.Agreement.{agree, border}
use Rattle.mx_model.specs.Checks.{is_halted}
use Rattle.mx_model.specs.Reads.{flat_reads, reads}
use Rattle.mx_model.specs.Run.{all_halted, flat_kind, flat_turn, kind}
use Rattle.mx_model.specs.State.{Flat, State, flat, hart_at}
use Rattle.mx_model.specs.Valid.{IsValid}
use Rattle.mx_model.proofs.KeepLaws.{keeps-turned}
use Rattle.mx_laws.specs.Twins.{AreTwins, IsRunning, free_twins}
use Rattle.mx_laws.proofs.AfterLaws.{agree-after}
use Rattle.mx_laws.proofs.TurnParts.{there}
use Rattle.mx_laws.proofs.TwinLaws.{border-twins, ran-free, store-twins, standing-running as running-too}
use Rattle.mx_touched.specs.Pairs.{ArePair, fails, is_compared}
use Rattle.mx_touched.proofs.Going.{border-kind, halted-holds, halted-turn, pair-turn}
use Rattle.mx_twin.specs.declared.twin.TwinEnd.{TwinEnd}
use Rattle.mx_twin.specs.declared.twin.TwinEnd.TheVariants as E
use Rattle.mx_twin.specs.Turns.{AreAlike, AreTwinTurns}
use Rattle.mx_twin.specs.Twins.{IsAtBorder, next_hart, turns_on, twins, twins_from}

module _ (s t : State) (h : ℕ) (v : IsValid s.core) (w : IsValid t.core) (a : AreAlike (flat s) (flat t)) (k : agree s t h)
    (e : IsRunning s.core h) where
  are-twins : AreTwins (reads s) s.core (reads t) t.core h
  are-twins =
      let first = v.ram_count in
      let second = w.ram_count in
      let words : s.core.size ≡ t.core.size = a.words in
      record {
        words = words;
        bytes = omega (arith, first, second, words);
        aligned = (v.harts h (there s.core h (ap is_halted e))).pc.aligned;
        agreement = k;
      }

  one-border : border (reads s) s.core h ≡ border (reads t) t.core h
  one-border = border-twins (reads s) (reads t) s.core t.core h are-twins

  second-runs : IsRunning t.core h
  second-runs = running-too (hart_at s.core h).status (hart_at t.core h).status e k.same_standing

  pub twin-turns : AreTwinTurns s t h (kind s h) (kind t h)
  twin-turns =
      let first = ran-free (reads s) s.core h e in
      let second = ran-free (reads t) t.core h second-runs in
      record {
        same = one-border;
        free = λ n.
            let free : free_twins s t h = record { twins = are-twins; running = e; free = n } in
            record {
              ran = (first.1 n, second.1 (sym one-border ∙ n));
              store = store-twins (reads s) (reads t) s.core t.core h free;
              agreement = agree-after s t h h free k;
            };
        stopped = λ n. (λ r. n (first.0 r), λ r. n (one-border ∙ second.0 r));
      }

pub alike-turn : (f g : Flat) (h : ℕ) → AreAlike f g → AreAlike (flat_turn f h) (flat_turn g h)
alike-turn f g h a =
    let x = keeps-turned (flat_reads f) f.core h in
    let y = keeps-turned (flat_reads g) g.core h in
    record {
      harts = x.harts ∙ a.harts ∙ sym y.harts;
      modules = x.modules ∙ a.modules ∙ sym y.modules;
      words = x.size ∙ a.words
          ∙ sym y.size;
    }

-- a turn more, and the last one
module _ (d quantum made : ℕ) (f g : Flat) where
  abbrev hart : ℕ
  hart = next_hart quantum made f

  abbrev by_fails : ℕ → Bool → TwinEnd
  by_fails n b =
      elim b [
        | true ↦ E.Ended (made + 1) hart (flat_kind f hart)
        | false ↦ twins_from d quantum n (made + 1) (flat_turn f hart) (flat_turn g hart)
      ]

  pub twins-on : (n m : ℕ) → m ≡ suc n → fails d (flat_turn f hart) (flat_turn g hart) ≡ false →
      twins_from d quantum m made f g ≡ twins_from d quantum n (made + 1) (flat_turn f hart) (flat_turn g hart)
  twins-on n m e k = ap (λ (i : ℕ). twins_from d quantum i made f g) e ∙ ap (by_fails n) k

  pub twins-stop : (n m : ℕ) → m ≡ suc n → fails d (flat_turn f hart) (flat_turn g hart) ≡ true →
      twins_from d quantum m made f g ≡ E.Ended (made + 1) hart (flat_kind f hart)
  twins-stop n m e k = ap (λ (i : ℕ). twins_from d quantum i made f g) e ∙ ap (by_fails n) k

-- all harts are halted in both
pub halted-agreed : (d quantum n made : ℕ) (f g : Flat) → ArePair f g → all_halted f.core ≡ true → all_halted g.core ≡ true →
    twins_from d quantum n made f g ≡ E.Agreed
halted-agreed d quantum zero made f g p a b = refl
halted-agreed d quantum (suc n) made f g p a b =
    let h = next_hart quantum made f in
    let q = pair-turn f g h p in
    let x = halted-turn f h a in
    let y = halted-turn g h b in
    twins-on d quantum made f g n (suc n) refl (halted-holds d (flat_turn f h) (flat_turn g h) q x y)
    ∙ halted-agreed d quantum n (made + 1) (flat_turn f h) (flat_turn g h) q x y

-- the answer is at a border
module _ (d quantum : ℕ) (f g : Flat) where
  ended-at : (made n : ℕ) (u v : Flat) → n ≡ suc made → ArePair u v → fails d u v ≡ false → u ≡ turns_on quantum made f
      → v ≡ turns_on quantum made g →
      fails d (flat_turn u (next_hart quantum made u)) (flat_turn v (next_hart quantum made u)) ≡ true →
      IsAtBorder d quantum f g (E.Ended n (next_hart quantum made u) (flat_kind u (next_hart quantum made u)))
  ended-at made n u v i p k x y e =
      let h = next_hart quantum made u in
      subst (λ (m : ℕ). IsAtBorder d quantum f g (E.Ended m h (flat_kind u h))) (sym i)
      (λ (c : is_compared d (turns_on quantum made f) (turns_on quantum made g) h ≡ true).
      border-kind d h u v p k (ap (λ (z : Flat). is_compared d z v h) x ∙ ap (λ (z : Flat). is_compared d (turns_on quantum made f) z h) y
      ∙ c) e)

  border-from : (n made : ℕ) (u v : Flat) → ArePair u v → fails d u v ≡ false → u ≡ turns_on quantum made f → v ≡ turns_on quantum made g →
      IsAtBorder d quantum f g (twins_from d quantum n made u v)
  border-from zero made u v p k x y = tt
  border-from (suc n) made u v p k x y =
      let h = next_hart quantum made u in
      let same : next_hart quantum made u ≡ next_hart quantum made v = ap (λ (m : ℕ). made / quantum % m) p.harts in
      let one : made + 1 ≡ suc made = omega arith in
      elim (fails d (flat_turn u h) (flat_turn v h)) as (λ b. fails d (flat_turn u h) (flat_turn v h) ≡ b →
      IsAtBorder d quantum f g (by_fails d quantum made u v n b)) [
        | true ↦ λ e. ended-at made (made + 1) u v one p k x y e
        | false ↦ λ e. border-from n (made + 1) (flat_turn u h) (flat_turn v h) (pair-turn u v h p) e
            (ap (λ (z : Flat). flat_turn z (next_hart quantum made z)) x ∙ ap (λ (m : ℕ). turns_on quantum m f) (sym one))
            (ap (λ (m : ℕ). flat_turn v m) same ∙ ap (λ (z : Flat). flat_turn z (next_hart quantum made z)) y
            ∙ ap (λ (m : ℕ). turns_on quantum m g) (sym one))
      ] refl

  pub at-border : (steps : ℕ) → ArePair f g → IsAtBorder d quantum f g (twins d quantum steps f g)
  at-border steps p =
      elim (fails d f g) as (λ b. fails d f g ≡ b → IsAtBorder d quantum f g
      (if b then E.Ended 0 0 T.Idle else twins_from d quantum steps 0 f g)) [
        | true ↦ λ e. tt
        | false ↦ λ e. border-from steps 0 f g p e refl refl
      ] refl

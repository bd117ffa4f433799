-- Turns of one hart in a row: what holds after some of them, and after one more.
use Rattle.std.proofs.Common.{◌≡◌, ◌≢◌, ℕ, ◌+◌, ◌<◌, ◌⊎◌, inl, inr, Bool, false, set, refl, sym, ap, ◌∙◌, arith, get_or, get_or-set_same}
use Rattle.std.proofs.lemmas.Bool.{cases_eq}
use Rattle.mx_model.specs.declared.values.TurnKind.{TurnKind}
use Rattle.mx_model.specs.declared.values.TurnKind.TheVariants as T
use Rattle.mx_model.specs.Events.{Events}
use Rattle.mx_model.specs.Reads.{Reads, flat_reads}
use Rattle.mx_model.specs.Run.{flat_kind, flat_made, flat_turn}
use Rattle.mx_model.specs.State.{Core, Flat}
use Rattle.mx_model.specs.Turn.{turned}
use Rattle.mx_model.specs.Valid.{IsValid}
use Rattle.mx_model.proofs.KeepLaws.{keeps-turned}
use Rattle.mx_coherence.specs.Coherence.{AreWhole, flat_coherent}
use Rattle.mx_machine.specs.declared.hart.Hart.{Hart}
use Rattle.mx_machine.specs.Actions.{after_instruction, counted, effect_for, heard, outcome_for, perm_for}
use Rattle.mx_machine.specs.Harts.{no_held_hart, hart_among}
use Rattle.mx_machine.specs.Held.{Held, meaning}
use Rattle.mx_machine.specs.Made.{IsMade, core_in}
use Rattle.mx_machine.specs.Rows.{HasRunOn}
use Rattle.mx_machine.specs.Steps.{instructed}
use Rattle.mx_machine.specs.Ties.{Fits, IsWhole, MayRun, RunsAlive}
use Rattle.mx_machine.specs.Turning.{IsStretch, turns_of}
use Rattle.mx_machine.proofs.InstructLaws.{runs-instruction}
use Rattle.mx_machine.proofs.StepLaws.{told-is, turn-is, whole-is}
use Rattle.mx_core.specs.Exec.{regs_after}

-- one more turn
pub turns-more : (h : ℕ) (f : Flat) (n : ℕ) → turns_of h f (n + 1) ≡ flat_turn (turns_of h f n) h
turns-more h f n = search arith

-- a hart that runs in a live domain does so after an instruction
pub alive-instruction : (m : Held) (h : ℕ) (returns : Bool) → MayRun m h → get_or m.dead (hart_among m.harts h).domain false ≡ false →
    RunsAlive (after_instruction h returns m) h
alive-instruction m h returns r alive =
    let x = hart_among m.harts h in
    let regs = regs_after (perm_for m x) m.parts.ram x.regs x.pc returns (effect_for m x) in
    let y : Hart = instructed regs (outcome_for m h returns) x in
    let own : hart_among (set m.harts h y) h ≡ y = get_or-set_same m.harts h y no_held_hart r.act.there in
    let n = runs-instruction m h returns r in
    record { there = n.act.there; runs = n.runs; alive = ap (λ (z : Hart). get_or m.dead z.domain false) own ∙ alive }

pub alive-now : (m n : Held) (h : ℕ) → RunsAlive m h → n ≡ heard h (counted m) → get_or n.dead (hart_among n.harts h).domain false ≡ false
alive-now m n h r is = ap (λ (k : Held). get_or k.dead (hart_among k.harts h).domain false) is ∙ r.alive

pub run-none : (m : Held) (h : ℕ) → IsWhole m → HasRunOn (meaning m) h 0 m
run-none m h w = record { whole = w; at = refl; ran = λ i below. absurd ((omega arith)); steps = omega arith }

-- a turn counts
pub turn-steps : (m k : Held) (h : ℕ) (events : Events) (answer : TurnKind) → IsMade m k events answer (flat_made (meaning m) h)
    → k.steps ≡ m.steps + 1
turn-steps m k h events answer i = ap (λ (c : Core). c.turns) i.core ∙ (keeps-turned (flat_reads (meaning m)) (core_in m) h).turns

module _ (f : Flat) (h n : ℕ) (m k : Held) (events : Events) (answer : TurnKind) (r : HasRunOn f h n m)
    (i : IsMade m k events answer (flat_made (meaning m) h)) where
  abbrev pub Law : Type 0
  Law = (q : Reads) (c : Core) (g : ℕ) → IsValid c → IsValid (turned q c g).core

  abbrev pub Stays : Type 0
  Stays = (e : Flat) (g : ℕ) → IsValid e.core → AreWhole e → flat_coherent e → flat_coherent (flat_turn e g)

  -- one more, the last or not
  pub run-turn : meaning k ≡ flat_turn (turns_of h f n) h
  run-turn = turn-is m k h events answer i ∙ ap (λ (g : Flat). flat_turn g h) r.at

  pub run-kind : answer ≡ flat_kind (turns_of h f n) h
  run-kind = i.kind ∙ ap (λ (g : Flat). flat_kind g h) r.at

  pub run-stretch : (most : ℕ) → n < most → (answer ≡ T.Ran → n + 1 ≡ most)
      → IsStretch f h most (meaning k) events (record { ran = n; last = answer })
  run-stretch most below full = grind (arith, told-is, run-turn, run-kind)

  pub run-more : Law → Stays → Fits k → answer ≡ T.Ran → HasRunOn f h (n + 1) k
  run-more law stays fits is = record {
    whole = whole-is m k h events answer i law stays r.whole fits;
    at = run-turn ∙ sym (turns-more h f n);
    ran = λ j below. by j below (cases_eq j n);
    steps = omega (arith, turn-steps m k h events answer i, r.steps);
  }
    where
      by : (j : ℕ) → j < n + 1 → (j ≡ n) ⊎ (j ≢ n) → flat_kind (turns_of h f j) h ≡ T.Ran
      by j below (inl e) = ap (λ s. flat_kind (turns_of h f s) h) e ∙ sym run-kind ∙ is
      by j below (inr ne) = r.ran j (omega (arith, below, ne))

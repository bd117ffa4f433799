-- A step of a machine is a turn of the abstract machine, and keeps the machine whole.
use Rattle.std.proofs.Common.{◌≡◌, ◌↔◌, ℕ, sym, ap, subst, ◌∙◌, arith}
use Rattle.mx_model.specs.declared.values.TurnKind.{TurnKind}
use Rattle.mx_model.specs.declared.values.TurnKind.TheVariants as T
use Rattle.mx_model.specs.Agreement.{Ended}
use Rattle.mx_model.specs.Events.{Events}
use Rattle.mx_model.specs.Reads.{Reads, flat_reads}
use Rattle.mx_model.specs.Run.{flat_kind, flat_made, flat_turn, made_of}
use Rattle.mx_model.specs.State.{Core, Flat, State, flat}
use Rattle.mx_model.specs.Turn.{Made, turned}
use Rattle.mx_model.specs.Valid.{IsValid}
use Rattle.mx_model.proofs.FlatLaws.{flat-turn, made-flat}
use Rattle.mx_laws.specs.After.{core_after, kind_of, standing_at}
use Rattle.mx_coherence.specs.Coherence.{AreWhole, flat_coherent}
use Rattle.mx_machine.specs.Held.{Held, meaning}
use Rattle.mx_machine.specs.Made.{IsMade, core_in}
use Rattle.mx_machine.specs.Ties.{Fits, IsWhole}
use Rattle.mx_machine.specs.Turning.{IsTold, IsTurn, KeepsBytes}
use Rattle.mx_machine.proofs.StaleLaws.{whole-maps}

module _ (m n : Held) (h : ℕ) (events : Events) (answer : TurnKind) (i : IsMade m n events answer (flat_made (meaning m) h)) where
  pub turn-is : meaning n ≡ flat_turn (meaning m) h
  turn-is = search arith

  pub told-is : IsTold (flat_made (meaning m) h) events
  told-is = record { bytes = i.console; note = i.note }

  pub whole-is : ((r : Reads) (c : Core) (g : ℕ) → IsValid c → IsValid (turned r c g).core) →
      ((f : Flat) (g : ℕ) → IsValid f.core → AreWhole f → flat_coherent f → flat_coherent (flat_turn f g)) → IsWhole m → Fits n → IsWhole n
  whole-is law stays w f = record {
    valid = subst (λ (c : Core). IsValid c) (sym i.core) (law (flat_reads (meaning m)) (core_in m) h w.valid);
    coherent = subst (λ (g : Flat). flat_coherent g) (sym turn-is) (stays (meaning m) h w.valid (whole-maps m w.fits) w.coherent);
    fits = f;
  }

  -- a turn in which the hart rests or waits on
  pub bytes-is : ((r : Reads) (c : Core) (g : ℕ) → standing_at c g ≡ Ended → (core_after r c g).ram ≡ c.ram) →
      ((r : Reads) (c : Core) (g : ℕ) → kind_of r c g ≡ T.Waited → (core_after r c g).ram ≡ c.ram) →
      ((r : Reads) (c : Core) (g : ℕ) → (kind_of r c g ≡ T.Idle) ↔ (standing_at c g ≡ Ended)) → KeepsBytes answer (meaning m) (meaning n)
  bytes-is halted waits idle x = search arith

-- a turn of the flat state is one of each state of which it is the flat state
pub is-turn : (f g : Flat) (h : ℕ) (events : Events) (answer : TurnKind) → g ≡ flat_turn f h → IsTold (flat_made f h) events
    → answer ≡ flat_kind f h →
    (s : State) → f ≡ flat s → IsTurn s h g events answer
is-turn f g h events answer t o k s e =
    let made : flat_made f h ≡ made_of s h = ap (λ (x : Flat). flat_made x h) e ∙ sym (made-flat s h) in
    record {
      turn = t ∙ ap (λ (x : Flat). flat_turn x h) e ∙ sym (flat-turn s h);
      told = record { bytes = o.bytes ∙ ap (λ (d : Made). d.console) made; note = o.note ∙ ap (λ (d : Made). d.note) made };
      kind = k ∙ ap (λ (d : Made). d.kind) made;
    }

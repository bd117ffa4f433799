-- A call of `step`, as a turn of the abstract machine, and one of `run_on`, as turns of it.
use Rattle.std.specs.Prelude.{◌≡◌, ◌⊎◌, ℕ, zero, suc, ◌+◌, ◌<◌}
use Rattle.mx_model.specs.declared.values.TurnKind.{TurnKind}
use Rattle.mx_model.specs.declared.values.TurnKind.TheVariants as T
use Rattle.mx_model.specs.Events.{Events}
use Rattle.mx_model.specs.Run.{flat_kind, flat_made, flat_turn, kind, made_of, turn}
use Rattle.mx_model.specs.State.{Flat, State, flat}
use Rattle.mx_model.specs.Turn.{Made}
use Rattle.mx_machine.specs.declared.views.Stretch.{Stretch}

-- events are the console bytes and the note that a turn appends, and no others
pub record IsTold (m : Made) (events : Events) : Type 0 where
  pub bytes : events.bytes ≡ m.console
  pub note : events.note ≡ m.note

-- a turn of hart h in a state: the flat state afterwards, what is appended, and what the turn was
pub record IsTurn (s : State) (h : ℕ) (new : Flat) (events : Events) (answer : TurnKind)
    : Type 0 where
  pub turn : new ≡ flat (turn s h)
  pub told : IsTold (made_of s h) events
  pub kind : answer ≡ kind s h

-- a turn in which the hart is halted or waits on changes no byte
abbrev pub KeepsBytes : TurnKind → Flat → Flat → Type 0
KeepsBytes answer old new = (answer ≡ T.Idle) ⊎ (answer ≡ T.Waited) → new.core.ram ≡ old.core.ram

-- the flat state after so many turns of hart h
abbrev pub turns_of : ℕ → Flat → ℕ → Flat
turns_of h f zero = f
turns_of h f (suc n) = flat_turn (turns_of h f n) h

-- turns of hart h in a row, at most so many: those before the last carry out an instruction each, and events and answer are the last one's
pub record IsStretch (f : Flat) (h most : ℕ) (new : Flat) (events : Events)
    (answer : Stretch) : Type 0 where
  pub few : answer.ran < most
  pub ran : (i : ℕ) → i < answer.ran → flat_kind (turns_of h f i) h ≡ T.Ran
  pub turn : new ≡ flat_turn (turns_of h f answer.ran) h
  pub told : IsTold (flat_made (turns_of h f answer.ran) h) events
  pub kind : answer.last ≡ flat_kind (turns_of h f answer.ran) h
  -- fewer than so many are made only where the last doesn't just carry out an instruction
  pub full : answer.last ≡ T.Ran → answer.ran + 1 ≡ most

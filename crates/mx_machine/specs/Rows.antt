-- Turns of one hart in a row: what holds after some of them, and what the rest of a row comes to.
use Rattle.std.specs.Prelude.{◌≡◌, ℕ, ◌+◌, ◌<◌, false, IfSome, Option, Some, None}
use Rattle.mx_check.specs.Harts.{at_hart, kept_at}
use Rattle.mx_check.specs.Looks.{hits_all}
use Rattle.mx_isa.specs.declared.inst.Inst.{Inst}
use Rattle.mx_core.specs.declared.outcome.Outcome.{Outcome}
use Rattle.mx_core.specs.Bus.{load_at}
use Rattle.mx_core.specs.Exec.{HasCause}
use Rattle.mx_core.specs.Memo.{quick}
use Rattle.mx_model.specs.declared.values.TurnKind.TheVariants as T
use Rattle.mx_model.specs.Effect.{effect as effect_of_inst}
use Rattle.mx_model.specs.Events.{Events, no_events}
use Rattle.mx_model.specs.Run.{flat_kind}
use Rattle.mx_model.specs.State.{Flat}
use Rattle.mx_machine.specs.declared.views.Stretch.{Stretch}
use Rattle.mx_machine.specs.declared.window.Window.{Window}
use Rattle.mx_machine.specs.Actions.{after_instruction, after_unfetched, counted, effect_for, outcome_for}
use Rattle.mx_machine.specs.Harts.{hart_among}
use Rattle.mx_machine.specs.Held.{Held, meaning}
use Rattle.mx_machine.specs.Steps.{Stops}
use Rattle.mx_machine.specs.Ties.{IsWhole, RunsAlive}
use Rattle.mx_machine.specs.Turning.{IsStretch, turns_of}
use Rattle.mx_machine.specs.Windows.{IsOpen, IsWindow}

-- after n turns of hart h from a flat state, each of which carried out an instruction
pub record HasRunOn (f : Flat) (h n : ℕ) (m : Held) : Type 0 where
  pub whole : IsWhole m
  pub at : meaning m ≡ turns_of h f n
  pub ran : (i : ℕ) → i < n → flat_kind (turns_of h f i) h ≡ T.Ran
  pub steps : m.steps ≡ f.core.turns + n

-- so many turns of hart h more are counted, and the fetches of their instructions, which its place 0 answered
abbrev pub tallied : ℕ → ℕ → Held → Held
tallied h n m = record m {
  parts = record m.parts {
    harts = at_hart h (hits_all n (hart_among m.harts h).domain) m.parts.harts;
  };
  steps = m.steps + n;
}

-- no other domain is kept for hart h than its own
abbrev pub NamesOwn : Held → ℕ → Type 0
NamesOwn m h =
    IfSome (kept_at m.parts.harts h).domain (λ d. d ≡ (hart_among m.harts h).domain)

-- an instruction of hart h inside a window, which its row carries out, in a turn that isn't counted yet, nor its fetch
pub record IsQuick (old : Held) (h : ℕ) (outcome : Outcome) (new : Held) : Type 0 where
  pub opened : IsOpen old h (hart_among old.harts h).pc
  pub inst : Inst
  pub known : quick (load_at old.parts.ram (hart_among old.harts h).pc 4) ≡ Some inst
  pub effect : effect_for old (hart_among old.harts h)
      ≡ effect_of_inst inst (hart_among old.harts h).regs (hart_among old.harts h).pc
  pub answered : outcome ≡ outcome_for old h false
  pub after : new ≡ after_unfetched h old
  pub caused : HasCause outcome

-- the same, where there is one
abbrev pub IsQuickTurn : Held → ℕ → Option Outcome → Held → Type 0
IsQuickTurn old h None new = new ≡ old
IsQuickTurn old h (Some outcome) new = IsQuick old h outcome new

-- n turns of hart h inside a window, each of which carried out an instruction
pub record IsRowTo (old : Held) (h n : ℕ) (w : Window) (new : Held) : Type 0 where
  pub whole : IsWhole new
  pub alive : RunsAlive new h
  pub opened : IsWindow new h w
  pub counted : new.steps ≡ old.steps + n
  pub run : (f : Flat) (k : ℕ) → HasRunOn f h k old → HasRunOn f h (k + n) new

-- a turn of hart h inside a window whose instruction answered but to go on, which isn't followed yet
pub record EndsBy (m : Held) (h : ℕ) (outcome : Outcome) (new : Held) : Type 0 where
  pub whole : IsWhole m
  pub alive : RunsAlive m h
  pub opened : IsOpen m h (hart_among m.harts h).pc
  pub answered : outcome ≡ outcome_for (counted m) h false
  pub after : new ≡ after_instruction h false (counted m)
  pub stops : Stops outcome

-- n turns of hart h inside a window, and one more where an instruction ended them
abbrev pub IsRow : Held → ℕ → ℕ → Window → Held → Option Outcome → Type 0
IsRow old h n w new None = IsRowTo old h n w new
IsRow old h n w new (Some outcome) =
    (m : Held) × (IsRowTo old h n w m × EndsBy m h outcome new)

-- the rest of a row of hart h, of which n turns were made: up to `room` of them, or fewer where one ended it
abbrev pub RunsTo : Held → ℕ → ℕ → ℕ → Held → Events → Option Stretch → Type 0
RunsTo old h n room new events None =
    (events ≡ no_events) × ((f : Flat) → HasRunOn f h n old → HasRunOn f h room new)
RunsTo old h n room new events (Some row) =
    (f : Flat) (most : ℕ) → room < most → HasRunOn f h n old → IsStretch f h most (meaning new) events row

-- What a turn adds beside the state, and which turns add nothing and end no hart.
-- The rules: docs/MACHINE.md, "One turn".
use Rattle.std.specs.Prelude.{◌≡◌, ℕ, Bool, true, false, List, [], ◌∷◌, fold, None}
use Rattle.mx_model.specs.declared.values.TurnKind.{TurnKind}
use Rattle.mx_model.specs.declared.values.TurnKind.TheVariants as T
use Rattle.mx_model.specs.Run.{all_halted, kind, turn}
use Rattle.mx_model.specs.State.{Core, State, Flat}
use Rattle.mx_model.specs.Turn.{Made}
use Rattle.mx_laws.specs.After.{standing_at}

-- whether a turn of a kind may change a right or an owner, add a console byte or a note, or stop or wake its hart
abbrev pub may_tell : TurnKind → Bool
may_tell T.Trapped = true
may_tell T.Called = true
may_tell kind = false

-- a turn makes no change of rights, no give, no console byte and no note
pub record AddsNothing (m : Made) : Type 0 where
  pub change : m.change ≡ None
  pub give : m.give ≡ None
  pub console : m.console ≡ []
  pub note : m.note ≡ None

-- a later state has the rights, owners, console bytes and notes of an earlier one
pub record AddedNothing (s t : State) : Type 0 where
  pub grants : t.grants ≡ s.grants
  pub gives : t.gives ≡ s.gives
  pub console : t.console ≡ s.console
  pub notes : t.notes ≡ s.notes

-- so a flat one
pub record SameRights (f g : Flat) : Type 0 where
  pub maps : g.maps ≡ f.maps
  pub owners : g.owners ≡ f.owners

-- each hart runs, waits or is halted as before; so all are halted exactly where they were
abbrev pub SameStandings : Core → Core → Type 0
SameStandings c e = (g : ℕ) → standing_at e g ≡ standing_at c g

abbrev pub SameEnd : Core → Core → Type 0
SameEnd c e = all_halted e ≡ all_halted c

-- the state after turns of these harts in order, and that each of these turns is quiet
abbrev pub row : List ℕ → State → State
row harts s = fold turn s harts

abbrev pub AreQuiet : List ℕ → State → Type 0
AreQuiet [] s = Unit {0}
AreQuiet (h ∷ hs) s = (may_tell (kind s h) ≡ false) × AreQuiet hs (turn s h)

-- what a row of quiet turns leaves
pub record IsLeftByRow (s t : State) : Type 0 where
  pub added : AddedNothing s t
  pub standings : SameStandings s.core t.core
  pub end : SameEnd s.core t.core

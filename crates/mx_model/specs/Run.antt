-- Turns of the abstract machine and of its flat states, and runs by a schedule.
-- The rules: docs/MACHINE.md, "Which hart makes a turn".
use Rattle.std.specs.Prelude.{option_to_list, ℕ, zero, suc, ◌/◌, ◌%◌, Bool, true, false, ◌||◌, nat_le, List, ◌++◌, length, slice_index}
use Rattle.std.specs.Prelude.{Option, Some, None}
use Rattle.std.specs.List.{list_all}
use Rattle.mx_words.specs.declared.perm.Perm.{Perm}
use Rattle.mx_words.specs.Changes.{changed_maps, granted_all}
use Rattle.mx_words.specs.Newest.{Grant, Give, laid}
use Rattle.mx_model.specs.Checks.{is_halted}
use Rattle.mx_model.specs.declared.values.TurnKind.{TurnKind}
use Rattle.mx_model.specs.Reads.{Change, reads, flat_reads}
use Rattle.mx_model.specs.State.{Core, Hart, State, Flat}
use Rattle.mx_model.specs.Turn.{Made, turned}

-- the grants, and the maps, after a change of rights if there is one
abbrev pub grants_after : List (List Grant) → Option Change → List (List Grant)
grants_after grants None = grants
grants_after grants (Some c) = granted_all c.first c.count c.given grants

abbrev pub maps_after : List (List Perm) → Option Change → List (List Perm)
maps_after maps None = maps
maps_after maps (Some c) = changed_maps c.first c.count c.given maps

-- the owners after a give if there is one
abbrev pub owners_after : List ℕ → Option Give → List ℕ
owners_after owners None = owners
owners_after owners (Some give) = laid give owners

-- the state after what a turn made
abbrev pub after : State → Made → State
after s m = record {
  core = m.core;
  grants = grants_after s.grants m.change;
  gives = s.gives ++ option_to_list m.give;
  console = s.console ++ m.console;
  notes = s.notes ++ option_to_list m.note;
}

abbrev pub flat_after : Flat → Made → Flat
flat_after f m = record {
  core = m.core;
  maps = maps_after f.maps m.change;
  owners = owners_after f.owners m.give;
}

-- what a turn of hart h makes of a state, and of a flat state
abbrev pub made_of : State → ℕ → Made
made_of s h = turned (reads s) s.core h

abbrev pub flat_made : Flat → ℕ → Made
flat_made f h = turned (flat_reads f) f.core h

-- the next state
abbrev pub turn : State → ℕ → State
turn s h = after s (made_of s h)

-- the next flat state
abbrev pub flat_turn : Flat → ℕ → Flat
flat_turn f h = flat_after f (flat_made f h)

-- what the turn was
abbrev pub kind : State → ℕ → TurnKind
kind s h = (made_of s h).kind

abbrev pub flat_kind : Flat → ℕ → TurnKind
flat_kind f h = (flat_made f h).kind

-- which hart makes each turn: the harts take `quantum` turns each in order, or the bytes of a schedule file name them
pub data Schedule : Type 0 where
  ByQuantum : (quantum : ℕ) → Schedule
  ByBytes : (bytes : List ℕ) → Schedule

-- the hart that makes the turn after `turns` others
abbrev pub hart_of : Schedule → Core → ℕ
hart_of (ByQuantum quantum) c = c.turns / quantum % length c.harts
hart_of (ByBytes bytes) c = slice_index bytes c.turns

-- whether the schedule names no hart for the turn after `turns` others
abbrev pub is_over : Schedule → ℕ → Bool
is_over (ByQuantum quantum) turns = false
is_over (ByBytes bytes) turns = nat_le (length bytes) turns

-- whether all harts are halted
abbrev pub all_halted : Core → Bool
all_halted c = list_all (λ (hart : Hart). is_halted hart.status) c.harts

-- whether a run makes no further turn, whatever number was asked
abbrev pub is_stopped : Schedule → State → Bool
is_stopped schedule s = all_halted s.core || is_over schedule s.core.turns

-- at most n further turns by a schedule: fewer where it ends or all harts are halted
abbrev pub run : Schedule → ℕ → State → State
run schedule zero s = s
run schedule (suc n) s =
    elim (is_stopped schedule s)
    [ true ↦ s | false ↦ run schedule n (turn s (hart_of schedule s.core)) ]

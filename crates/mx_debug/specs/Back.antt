-- Where a run stops when one goes back in it.
use Rattle.std.specs.Prelude.{ℕ, zero, suc, ◌+◌, ◌-◌, Bool, false, not, ◌==◌, ◌&&◌, nat_lt, List, Option, Some, None, if◌then◌else◌}
use Rattle.mx_model.specs.declared.values.Note.{Note}
use Rattle.mx_model.specs.declared.values.TurnKind.{TurnKind}
use Rattle.mx_model.specs.declared.values.TurnKind.TheVariants as T
use Rattle.mx_model.specs.Run.{kind}
use Rattle.mx_debug.specs.declared.back.Seeking.{Seeking}
use Rattle.mx_debug.specs.declared.stop.Stop.{Stop}
use Rattle.mx_debug.specs.declared.stop.Stop.TheVariants as S
use Rattle.mx_debug.specs.Session.{Looked, breaks_at, ends_at, faults_at, is_idle, is_trapped, next_at, note_at, state_at}

-- what a search backward is asked: the addresses of the breakpoints, and the hart that goes back a turn, if one does
pub record Sought : Type 0 where
  pub breaks : List ℕ
  pub hart : Option ℕ

-- whether a turn of this hart is one that is asked; one in which nothing happens never is
abbrev pub is_sought : Option ℕ → ℕ → TurnKind → Bool
is_sought None h turn = false
is_sought (Some hart) h turn = (hart == h) && not (is_idle turn)

-- the next turn there is
abbrev pub is_sought_at : Looked → Option ℕ → ℕ → Bool
is_sought_at q hart k = is_sought hart (next_at q k) (kind (state_at q k) (next_at q k))

-- why one who goes back stops before the next turn there: it stands at a breakpoint, it traps, or it is the turn that is asked
abbrev pub stop_back : Looked → Sought → ℕ → Option Stop
stop_back q a k =
    if ends_at q k then None
    else if breaks_at q a.breaks k then Some (S.Breaks (next_at q k))
    else if faults_at q k then Some (S.Faults (next_at q k) (note_at q k))
    else if is_sought_at q a.hart k then Some (S.Steps (next_at q k))
    else None

-- the greatest number of turns, of so many from one on, at which it stops, and why
abbrev pub last_stop : Looked → Sought → ℕ → ℕ → Option (ℕ × Stop)
last_stop q a low zero = None
last_stop q a low (suc n) = elim (stop_back q a (low + n)) [
  | Some stop ↦ Some (low + n, stop)
  | None ↦ last_stop q a low n
]

-- where nothing stops it, the run begins, or it pauses after so many turns
abbrev pub bottom : ℕ → ℕ × Stop
bottom low = if low == 0 then (0, S.Begins) else (low, S.Pauses)

abbrev pub found_by : Looked → Sought → ℕ → ℕ → ℕ × Stop
found_by q a low k = elim (last_stop q a low (k - low)) [
  | Some found ↦ found
  | None ↦ bottom low
]

-- backward from there: the greatest number of turns below at which it stops, among so many
abbrev pub backward : Looked → Sought → ℕ → ℕ → ℕ × Stop
backward q a turns k = found_by q a (k - turns) k

-- what the code asks
abbrev pub sought_by : Seeking → Sought
sought_by seeking = record { breaks = seeking.breaks.now; hart = seeking.hart }

-- the last stop after turns of a hart in a row, of which those before the last carried out an instruction each and
-- the last began at a breakpoint or not, and noted this
abbrev pub row_back : Option ℕ → ℕ → ℕ → Bool → ℕ → TurnKind → Option Note → Option (ℕ × Stop) → Option (ℕ × Stop)
row_back hart h made stood ran last noted before =
    if stood then Some (made + ran, S.Breaks h)
    else if is_trapped last then Some (made + ran, S.Faults h noted)
    else if is_sought hart h last then Some (made + ran, S.Steps h)
    else if nat_lt 0 ran && is_sought hart h T.Ran then Some (made + ran - 1, S.Steps h)
    else before

-- What the machine keeps of its harts, and the harts that they are in the state, with what the checker keeps of each.
use Rattle.std.specs.Prelude.{ℕ, ◌+◌, Bool, true, false, List, [], ◌∷◌, replicate, slice_index_or, slice_set, Option, Some, None}
use Rattle.mx_words.specs.Hearing.{nobody}
use Rattle.mx_check.specs.declared.flight.Flight.{Flight}
use Rattle.mx_check.specs.Harts.{Kept, kept_at}
use Rattle.mx_model.specs.declared.values.Call.{Call}
use Rattle.mx_model.specs.State.{Status, Running, Waiting, Halted}
use Rattle.mx_model.specs.State.{Hart as Seen}
use Rattle.mx_model.specs.Turn.{call_of}
use Rattle.mx_machine.specs.declared.hart.Hart.{Hart}
use Rattle.mx_machine.specs.declared.hart.Progress.{Progress}
use Rattle.mx_machine.specs.declared.hart.Progress.TheVariants as G

-- a hart that isn't there is halted
abbrev pub no_held_hart : Hart
no_held_hart =
    record { regs = replicate 32 0; pc = 0; domain = 0; frames = []; progress = G.Halted None }

-- hart h, and the harts after a step of hart h
abbrev pub hart_among : List Hart → ℕ → Hart
hart_among harts h = slice_index_or harts h no_held_hart

abbrev pub stepped : ℕ → (Hart → Hart) → List Hart → List Hart
stepped h step harts = slice_set harts h (step (hart_among harts h))

-- a hart of the state, with a status
abbrev pub seen_with : Status → Hart → Seen
seen_with status x =
    record { regs = x.regs; pc = x.pc; domain = x.domain; frames = x.frames; status = status }

-- the call that the registers of hart h make
abbrev pub own_call : ℕ → Hart → Call
own_call h x = call_of h (seen_with Running x)

-- the harts that have heard a call in flight
abbrev pub hearers : Option Flight → List Bool
hearers None = nobody
hearers (Some f) = f.heard

-- the status of a hart with such a call of its own, if it waits
abbrev pub status_by : Call → Option Flight → Progress → Status
status_by call flight G.Running = Running
status_by call flight G.Waiting = Waiting call (hearers flight)
status_by call flight (G.Halted code) = Halted code

-- hart h of the state: a waiting hart's call is that of its registers, and the checker keeps who has heard it
abbrev pub seen : ℕ → Hart → Kept → Seen
seen h x k = seen_with (status_by (own_call h x) k.flight x.progress) x

-- the harts of the state from hart h on
abbrev pub seen_from : ℕ → List Hart → List Kept → List Seen
seen_from h [] kept = []
seen_from h (x ∷ xs) kept = seen h x (kept_at kept h) ∷ seen_from (h + 1) xs kept

-- whether a hart is halted, and whether it waits
abbrev pub is_halted : Progress → Bool
is_halted G.Running = false
is_halted G.Waiting = false
is_halted (G.Halted code) = true

abbrev pub is_waiting : Progress → Bool
is_waiting G.Running = false
is_waiting G.Waiting = true
is_waiting (G.Halted code) = false

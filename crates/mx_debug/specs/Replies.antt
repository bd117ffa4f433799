-- What each packet is answered.
use Rattle.std.specs.Prelude.{ℕ, ◌+◌, ◌-◌, ◌&&◌, Bool, true, false, ◌==◌, List, [], ◌∷◌, ◌++◌, length, codes, nat_lt, Option, Some, None}
use Rattle.std.specs.Prelude.{if◌then◌else◌}
use Rattle.std.specs.List.{list_any, remove}
use Rattle.mx_packets.specs.declared.request.Object.{Object}
use Rattle.mx_packets.specs.declared.request.Object.TheVariants as O
use Rattle.mx_packets.specs.declared.request.Request.{Request}
use Rattle.mx_packets.specs.declared.request.Request.TheVariants as R
use Rattle.mx_packets.specs.declared.request.Thread.{Thread}
use Rattle.mx_packets.specs.declared.request.Thread.TheVariants as T
use Rattle.mx_packets.specs.Frames.{cut}
use Rattle.mx_packets.specs.Streams.{sent}
use Rattle.mx_model.specs.State.{Core, Flat, flat}
use Rattle.mx_debug_texts.specs.declared.document.Document.{Document}
use Rattle.mx_debug_texts.specs.declared.document.Document.TheVariants as D
use Rattle.mx_debug_texts.specs.Documents.{Known, document_text}
use Rattle.mx_debug.specs.declared.stop.Step.{Step}
use Rattle.mx_debug.specs.declared.stop.Stop.{Stop}
use Rattle.mx_debug.specs.declared.stop.Stop.TheVariants as S
use Rattle.mx_debug.specs.Back.{Sought, backward}
use Rattle.mx_debug.specs.Looks.{shows_to}
use Rattle.mx_debug.specs.Session.{Asked, Looked, Session, forward, found_of, is_past, most_turns, next_of, state_at, stopped}
use Rattle.mx_debug.specs.Texts.{document_by, document_said, memory_text, ok, pairs, register_of, registers_of, stop_text, supported}
use Rattle.mx_debug.specs.Texts.{target_text, thread_name, threads_text, ways, window_text, wrong}

-- what is said to a packet, the session after it, and whether it is left
pub record Reply : Type 0 where
  pub said : List ℕ
  pub session : Session
  pub leaves : Bool

-- an answer was said, and the session goes on
abbrev pub told : Session → List ℕ → Reply
told s text = record { said = sent text; session = s; leaves = false }

-- a packet is answered by a text, and the session goes on
abbrev pub answered : Session → List ℕ → Reply
answered s text = record { said = sent (cut text); session = s; leaves = false }

-- what is looked at: a machine, what is known of its boot, and whose turn is next
pub record View : Type 0 where
  pub flat : Flat
  pub known : Known
  pub next : Option ℕ

abbrev pub view_of : Looked → Session → View
view_of q s = record { flat = flat (state_at q s.made); known = q.known; next = next_of q s.made }

-- by the hart of a thread, where it is there
abbrev pub by_hart : Core → Session → ℕ → Reply → Reply
by_hart c s h reply = if nat_lt h (length c.harts) then reply else answered s wrong

-- a hart is chosen
abbrev pub show_hart : Core → Session → Thread → Reply
show_hart c s T.Any = answered s ok
show_hart c s (T.Hart h) = by_hart c s h (answered (record s { shown = h }) ok)
show_hart c s T.Wrong = answered s wrong

abbrev pub follow_hart : Core → Session → Thread → Reply
follow_hart c s T.Any = answered s ok
follow_hart c s (T.Hart h) = by_hart c s h (answered (record s { followed = h }) ok)
follow_hart c s T.Wrong = answered s wrong

-- whether there is a hart
abbrev pub find_hart : Core → Session → Thread → Reply
find_hart c s T.Any = answered s ok
find_hart c s (T.Hart h) = by_hart c s h (answered s ok)
find_hart c s T.Wrong = answered s wrong

-- a breakpoint is set or not: at most 1024 are
abbrev pub most_breaks : ℕ
most_breaks = 1024

abbrev pub set_break : Session → ℕ → Reply
set_break s a =
    if list_any (λ b. b == a) s.breaks then answered s ok
    else if nat_lt (length s.breaks) most_breaks then answered (record s { breaks = s.breaks ++ a ∷ [] }) ok
    else answered s wrong

-- the first place of an address, or the number of addresses where it isn't among them
abbrev pub place_at : ℕ → List ℕ → ℕ
place_at a [] = 0
place_at a (b ∷ more) = if b == a then 0 else 1 + place_at a more

abbrev pub without : ℕ → List ℕ → List ℕ
without a breaks =
    if nat_lt (place_at a breaks) (length breaks) then remove breaks (place_at a breaks) else breaks

abbrev pub clear_break : Session → ℕ → Reply
clear_break s a = answered (record s { breaks = without a s.breaks }) ok

-- want of memory
abbrev pub want : List ℕ
want = codes "E0c"

-- what is said of a stop before it: of a fault, of the run's end and of its begin
abbrev pub document_of : ℕ × Stop → Option Document
document_of found = document_by found.0 found.1

abbrev pub noted_by : Flat → Known → Option Document → List ℕ
noted_by f k None = []
noted_by f k (Some document) = document_said (document_text f k document)

abbrev pub noted_said : Looked → ℕ × Stop → List ℕ
noted_said q found = noted_by (flat (state_at q found.0)) q.known (document_of found)

-- a stop, after what is said of it
abbrev pub stop_said : Looked → ℕ → ℕ × Stop → List ℕ
stop_said q kept found = noted_said q found ++ sent (cut (stop_text kept found.1))

-- the run stops there
abbrev pub stands_at : Looked → Session → ℕ × Stop → Reply
stands_at q s found = record { said = stop_said q s.shown found; session = stopped s found; leaves = false }

-- the run goes on, and what it shows on the console is said before anything else
abbrev pub after_shown : Looked → Session → ℕ × Stop → Reply → Reply
after_shown q s found r = record {
  said = shows_to q s.told s.made found ++ r.said;
  session = r.session;
  leaves = r.leaves;
}

-- by whether memory is wanting where one boots again, since the turn that stopped the run was made: then it stands behind that turn
abbrev pub behind : Session → ℕ × Stop → Session
behind s found = record (stopped s (found.0 + 1, found.1)) { broke = false; faulted = false }

abbrev pub settled : Looked → Bool → Session → ℕ × Stop → Reply
settled q wanting s found =
    if wanting && is_past q found.0 then told (behind s found) want else stands_at q s found

abbrev pub go_on : Looked → Bool → Session → Option Step → Reply
go_on q wanting s step =
    after_shown q s (found_of q s step) (settled q wanting s (found_of q s step))

-- the run goes back, by booting again: where memory is wanting nothing changes
abbrev pub sought_of : Session → Option ℕ → Sought
sought_of s hart = record { breaks = s.breaks; hart = hart }

abbrev pub back_to : Looked → Bool → Session → ℕ × Stop → Reply
back_to q wanting s found = if wanting then told s want else stands_at q s found

abbrev pub go_back : Looked → Bool → Session → Option ℕ → Reply
go_back q wanting s hart = back_to q wanting s (backward q (sought_of s hart) most_turns s.made)

-- to the state after so many turns, past all breakpoints and faults: forward as far as the run goes, or by booting again
abbrev pub past_all : Asked
past_all = record { breaks = []; faults = false; step = None }

abbrev pub run_to : Looked → Session → ℕ × Stop → Reply
run_to q s found = after_shown q s found (stands_at q s found)

abbrev pub go_to : Looked → Bool → Session → ℕ → Reply
go_to q wanting s n =
    if nat_lt q.most n then told s wrong
    else if nat_lt n s.made then back_to q wanting s (n, S.Pauses)
    else run_to q s (forward q past_all (n - s.made) s.made false false)

-- a step of a thread's hart, in a range
abbrev pub thread_hart : Core → ℕ → Thread → Option ℕ
thread_hart c followed T.Any = Some followed
thread_hart c followed (T.Hart h) = if nat_lt h (length c.harts) then Some h else None
thread_hart c followed T.Wrong = None

abbrev pub step_of : Looked → Bool → Session → Option ℕ → ℕ → ℕ → Reply
step_of q wanting s None first end = told s wrong
step_of q wanting s (Some h) first end = go_on q wanting s (Some (record { hart = h; first = first; end = end }))

abbrev pub step_by : Looked → Bool → Session → Thread → ℕ → ℕ → Reply
step_by q wanting s thread first end =
    step_of q wanting s (thread_hart (state_at q s.made).core s.followed thread) first end

-- answers that look at nothing
abbrev pub fixed_text : Request → List ℕ
fixed_text R.Extend = ok
fixed_text R.End = ok
fixed_text R.Change = wrong
fixed_text R.Wrong = wrong
fixed_text R.Ways = ways
fixed_text R.Supported = supported
fixed_text R.Attached = codes "1"
fixed_text R.MoreThreads = codes "l"
fixed_text request = []

-- what is said of a hart, as pairs of digits
abbrev pub about_hart : View → Option ℕ → List ℕ
about_hart v None = wrong
about_hart v (Some h) = pairs (document_text v.flat v.known (D.Hart h v.next))

abbrev pub there : Core → Thread → Option ℕ
there c T.Any = None
there c (T.Hart h) = if nat_lt h (length c.harts) then Some h else None
there c T.Wrong = None

-- the text of an object
abbrev pub object_text : View → Object → List ℕ
object_text v O.Target = target_text
object_text v O.Threads = document_text v.flat v.known (D.Threads v.next)
object_text v O.File = document_text v.flat v.known D.File
object_text v O.Libraries = document_text v.flat v.known D.Libraries
object_text v O.Memory = document_text v.flat v.known D.Memory

-- answers that look at the state and the session
abbrev pub look_text : View → Session → Request → List ℕ
look_text v s R.Why = stop_text s.shown s.stop
look_text v s R.Registers = registers_of v.flat.core s.shown s.made
look_text v s (R.Register n) = register_of v.flat.core s.shown s.made n
look_text v s (R.Memory address count) = memory_text v.flat.core address count
look_text v s R.Current = codes "QC" ++ thread_name s.shown
look_text v s R.Threads = threads_text (length v.flat.core.harts)
look_text v s (R.About thread) = about_hart v (there v.flat.core thread)
look_text v s (R.Part object at count) = window_text (object_text v object) at count
look_text v s request = fixed_text request

-- answers that leave the run where it is
abbrev pub still_reply : View → Session → Request → Reply
still_reply v s R.NoAcks = answered (record s { acknowledges = false }) ok
still_reply v s (R.Show thread) = show_hart v.flat.core s thread
still_reply v s (R.Follow thread) = follow_hart v.flat.core s thread
still_reply v s (R.IsThere thread) = find_hart v.flat.core s thread
still_reply v s (R.Set address) = set_break s address
still_reply v s (R.Clear address) = clear_break s address
still_reply v s request = answered s (look_text v s request)

-- the reply to each packet, by whether memory is wanting
abbrev pub reply : Looked → Bool → Session → Request → Reply
reply q wanting s R.Go = go_on q wanting s None
reply q wanting s (R.Step thread) = step_by q wanting s thread 0 0
reply q wanting s (R.Range thread first end) = step_by q wanting s thread first end
reply q wanting s R.StepBack = go_back q wanting s (Some s.followed)
reply q wanting s R.GoBack = go_back q wanting s None
reply q wanting s (R.After n) = go_to q wanting s n
reply q wanting s R.Leave = record { said = sent ok; session = s; leaves = true }
reply q wanting s R.Kill = record { said = []; session = s; leaves = true }
reply q wanting s request = still_reply (view_of q s) s request

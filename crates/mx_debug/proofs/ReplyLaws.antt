-- Replies by whether memory is wanting.
use Rattle.std.proofs.Common.{◌≡◌, ◌≢◌, ℕ, ◌-◌, ◌<◌, ◌≤◌, nat_lt, arith, Bool, true, false, not, ◌&&◌, List, Result, Ok, Err, IfOk, refl}
use Rattle.std.proofs.Common.{sym, ap, subst, ◌∙◌, if◌then◌else◌}
use Rattle.std.proofs.lemmas.Bool.Decides.{nat_tests}
use Rattle.mx_model.specs.State.{Flat, flat}
use Rattle.mx_debug_texts.specs.Documents.{Known}
use Rattle.mx_packets.specs.declared.request.Request.{Request}
use Rattle.mx_packets.specs.declared.request.Request.TheVariants as R
use Rattle.mx_packets.specs.declared.request.Thread.{Thread}
use Rattle.mx_packets.specs.Lines.{SpeaksOrFails}
use Rattle.mx_packets.specs.Streams.{sent}
use Rattle.mx_debug.specs.declared.course.Course.{Course}
use Rattle.mx_debug.specs.declared.reply.Next.{Next}
use Rattle.mx_debug.specs.declared.stop.Stop.{Stop}
use Rattle.mx_debug.specs.declared.stop.Stop.TheVariants as S
use Rattle.mx_debug.specs.Ended.{Replies, leaves_by}
use Rattle.mx_debug.specs.Looks.{IsAt, IsPast, IsRunBy, IsRunOf}
use Rattle.mx_debug.specs.Replies.{Reply, back_to, document_of, go_to, noted_by, noted_said, past_all, reply, run_to, still_reply, told}
use Rattle.mx_debug.specs.Replies.{view_of}
use Rattle.mx_debug.specs.Session.{Asked, Looked, Session, ends_at, faults_at, forward, is_past, state_at}
use Rattle.mx_debug.specs.Texts.{wrong}
use Rattle.mx_turns.specs.Running.{schedule_of}

pub run_by : (q : Looked) (course : Course) → IsRunOf q course → IsRunBy q (schedule_of course.schedule) course.most.count
run_by q course is = record { schedule = is.schedule; most = is.most }

both_are : (x y : Bool) → x ≡ false → y ≡ true → (not x && y) ≡ true
both_are false true e f = refl
both_are true y e f = absurd (cc (e))
both_are false false e f = absurd (cc (f))

-- a search that made the turn past its stop
pub past_is : (q : Looked) (a : Asked) (made : ℕ) (stop : Stop) (to : ℕ × Stop) → (made, stop) ≡ to → IsPast q a to → is_past q made ≡ true
past_is q a made stop to e p = subst (λ (t : ℕ × Stop). is_past q t.0 ≡ true) (sym e)
    (both_are (ends_at q to.0) (faults_at q to.0) p.going p.traps)

-- an answer was said
pub told_replies : {L E : Type 0} (says : L → List ℕ → L → Type 0) (room : L
    → ℕ) (q : Looked) (t s : Session) (text : List ℕ) (machine : Flat) (l m : L) (result : Result Next E)
    → SpeaksOrFails says room l (sent text) m result → IfOk result (λ next. leaves_by next ≡ false) → s ≡ t → IsAt q t.made machine
    → Replies says room q (told t text) s machine l m result
told_replies says room q t s text machine l m (Ok next) said goes same at =
    record { session = same; leaves = goes; place = at; said = said }
told_replies says room q t s text machine l m (Err e) said goes same at = said

not_more : (n most : ℕ) → n ≤ most → nat_lt most n ≡ false
not_more n most few = grind (arith, nat_tests)

is_less : (n k : ℕ) → n < k → nat_lt n k ≡ true
is_less n k less = grind (arith, nat_tests)

-- to the state after so many turns
abbrev gone : Looked → Bool → Session → ℕ → Bool → Bool → Reply
gone q w s n x y =
    if x then told s wrong
    else if y then back_to q w s (n, S.Pauses)
    else run_to q s (forward q past_all (n - s.made) s.made false false)

pub goes_back : (q : Looked) (w : Bool) (s : Session) (n : ℕ) → n ≤ q.most → n < s.made → go_to q w s n ≡ back_to q w s (n, S.Pauses)
goes_back q w s n few less = ap (λ x. gone q w s n x (nat_lt n s.made)) (not_more n q.most few)
    ∙ ap (gone q w s n false) (is_less n s.made less)

pub goes_on : (q : Looked) (w : Bool) (s : Session) (n : ℕ) → n ≤ q.most → s.made ≤ n
    → go_to q w s n ≡ run_to q s (forward q past_all (n - s.made) s.made false false)
goes_on q w s n few up = ap (λ x. gone q w s n x (nat_lt n s.made)) (not_more n q.most few) ∙ ap (gone q w s n false) (not_more s.made n up)

-- what is told of a stop, by a machine that stands there
pub noted_is : (q : Looked) (found : ℕ × Stop) (f : Flat) (known : Known) → f ≡ flat (state_at q found.0) → known ≡ q.known
    → noted_by f known (document_of found) ≡ noted_said q found
noted_is q found f known at is = ap (λ (g : Flat). noted_by g known (document_of found)) at
    ∙ ap (λ (k : Known). noted_by (flat (state_at q found.0)) k (document_of found)) is

-- a request that leaves the run where it is, and the session in force
pub record IsStill (request : Request) : Type 0 where
  pub go : request ≢ R.Go
  pub step : (thread : Thread) → request ≢ R.Step thread
  pub range : (thread : Thread) (first end : ℕ) → request ≢ R.Range thread first end
  pub step_back : request ≢ R.StepBack
  pub go_back : request ≢ R.GoBack
  pub after : (n : ℕ) → request ≢ R.After n
  pub leave : request ≢ R.Leave
  pub kill : request ≢ R.Kill

pub still_is : (q : Looked) (w : Bool) (s : Session) (request : Request) → IsStill request
    → reply q w s request ≡ still_reply (view_of q s) s request
still_is q w s R.Why h = refl
still_is q w s R.Extend h = refl
still_is q w s R.NoAcks h = refl
still_is q w s (R.Show thread) h = refl
still_is q w s (R.Follow thread) h = refl
still_is q w s (R.IsThere thread) h = refl
still_is q w s R.Registers h = refl
still_is q w s (R.Register n) h = refl
still_is q w s (R.Memory address count) h = refl
still_is q w s R.Change h = refl
still_is q w s (R.Set address) h = refl
still_is q w s (R.Clear address) h = refl
still_is q w s R.Go h = absurd (h.go refl)
still_is q w s (R.Step thread) h = absurd (h.step thread refl)
still_is q w s (R.Range thread first end) h = absurd (h.range thread first end refl)
still_is q w s R.StepBack h = absurd (h.step_back refl)
still_is q w s R.GoBack h = absurd (h.go_back refl)
still_is q w s (R.After n) h = absurd (h.after n refl)
still_is q w s R.Ways h = refl
still_is q w s R.End h = refl
still_is q w s R.Supported h = refl
still_is q w s R.Attached h = refl
still_is q w s R.Threads h = refl
still_is q w s R.MoreThreads h = refl
still_is q w s R.Current h = refl
still_is q w s (R.About thread) h = refl
still_is q w s (R.Part object at count) h = refl
still_is q w s R.Leave h = absurd (h.leave refl)
still_is q w s R.Kill h = absurd (h.kill refl)
still_is q w s R.Wrong h = refl
still_is q w s R.Unknown h = refl

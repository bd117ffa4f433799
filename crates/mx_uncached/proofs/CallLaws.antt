-- A served call when its caches are forgotten.
use Rattle.std.proofs.Common.{◌≡◌, ℕ, Bool, true, false, not, List, [], ◌∷◌, drop, refl, ◌∙◌, ap, nat_lt, if◌then◌else◌, Option, Some, None}
use Rattle.std.proofs.Common.{unwrap_or}
use Rattle.std.specs.Option.{option_map_or}
use Rattle.mx_words.specs.Announced.{is_announced}
use Rattle.mx_words.specs.Caches.{Cache}
use Rattle.mx_words.specs.FirstRow.{first_row}
use Rattle.mx_model.specs.declared.values.Call.{Call}
use Rattle.mx_model.specs.declared.values.Note.TheVariants as N
use Rattle.mx_model.specs.declared.values.TurnKind.TheVariants as T
use Rattle.mx_model.specs.Checks.{arg, call_range, drops, looked_all}
use Rattle.mx_model.specs.Effect.{next}
use Rattle.mx_model.specs.Reads.{reads}
use Rattle.mx_model.specs.Serve.{Served, Service, Exit, Write, Grant, RevokeAll, Transfer, Alloc, Free, AddGate, RemoveGate, AddReturnGate}
use Rattle.mx_model.specs.Serve.{Query, Self, Exchange, Unknown, alloc_from, answers, arg_word, bytes_at, code, ended, exchange_from}
use Rattle.mx_model.specs.Serve.{exchanged, judged, look_of, served_by, service, write_from, write_looks, written_out}
use Rattle.mx_model.specs.State.{Core, Hart, State, hart_at}
use Rattle.mx_model.specs.Table.{bytes_outside, is_word, new_block, tests}
use Rattle.mx_model.specs.Turn.{answered, done, halted, made, served, with_regs}
use Rattle.mx_model.proofs.TurnCases.{looked_all-caches}
use Rattle.mx_uncached.specs.Plain.{Plain}
use Rattle.mx_uncached.specs.Calls.{answer, does, exchange, sight}
use Rattle.mx_uncached.specs.Calls.{serve as plain_serve}
use Rattle.mx_uncached.specs.Forgetting.{plain}
use Rattle.mx_uncached.proofs.LeafLaws.{at, ends, gave, noted, quiet, told}

-- a served call, done by its hart
abbrev done_at : State → ℕ → Hart → Served → Plain
done_at s h hart x = ends s (done h hart x)

-- the same, whether its hart ends
abbrev done_by : State → ℕ → Hart → Served → Core → Bool → Plain
done_by s h hart x c stop = ends s (record (made T.Called (
    if stop then halted h hart (Some x.a0) c
    else with_regs h hart (answered hart x.a0 x.a1) (next hart.pc) c)) {
      change = x.change;
      give = x.give;
      console = x.console;
      note = if stop then Some (N.Exit c.turns h hart.domain x.a0) else None;
    })

-- what the caller drops at the end is forgotten
drops-none : (s : State) (c e : Core) (h : ℕ) (hart : Hart) (call : Call) (x : Served) →
    done_by s h hart x (drops call.hart (call_range c call) x.core) x.stop ≡ done_by s h hart x x.core x.stop
drops-none s c e h hart call x =
    elim x.stop as
    (λ b. done_by s h hart x (drops call.hart (call_range c call) x.core) b
    ≡ done_by s h hart x x.core b) [ true ↦ refl | false ↦ refl ]

ended-done : (s : State) (c : Core) (h : ℕ) (hart : Hart) (call : Call) (x : Served) →
    done_at s h hart (ended c call x) ≡ done_at s h hart x
ended-done s c h hart call x =
    elim (is_announced call.number) as
    (λ b. done_at s h hart (if b then record x { core = drops call.hart (call_range c call) x.core } else x)
    ≡ done_at s h hart x) [
      | true ↦ drops-none s c c h hart call x
      | false ↦ refl
    ]

-- a refusal
refused : (s : State) (c : Core) (h n : ℕ) → done_at s h (hart_at c h) (answers c (code n)) ≡ answer h (code n) (at s c)
refused s c h n = quiet _

-- a call's tests, and what it comes to where none fails
judged-done : (s : State) (c : Core) (h : ℕ) (o : Option ℕ) (x : Served) (p : Plain) → done_at s h (hart_at c h) x ≡ p →
    done_at s h (hart_at c h) (judged c o x) ≡ option_map_or (λ n. answer h (code n) (at s c)) o p
judged-done s c h None x p e = e
judged-done s c h (Some n) x p e = refused s c h n

alloc-done : (s : State) (c : Core) (h : ℕ) (call : Call) (first : ℕ) (o : Option ℕ) (p : Plain) →
    done_at s h (hart_at c h) (alloc_from c call first None) ≡ p →
    done_at s h (hart_at c h) (alloc_from c call first o) ≡ option_map_or (λ n. answer h (code n) (at s c)) o p
alloc-done s c h call first None p e = e
alloc-done s c h call first (Some n) p e = refused s c h n

-- a state's core with other caches
abbrev pub cached : State → List Cache → Core
cached s k = record s.core { caches = k }

-- call 2, whose looks are forgotten
wrote : (s : State) (k : List Cache) (h : ℕ) (call : Call) →
    done_at s h (hart_at s.core h) (written_out (reads s) (cached s k) call)
    ≡ option_map_or (λ n. answer h (code n) (plain s))
    (first_row (drop 2 (tests Write (sight (plain s)) call)))
    (does Write h call (plain s))
wrote s k h call =
    let r = reads s in
    let c = cached s k in
    let test = first_row (drop 2 (tests Write (sight (plain s)) call)) in
    ap (λ (x : Core). done_at s h (hart_at s.core h)
    (judged x test (record (answers x (arg call 1)) { console = bytes_at s.core (arg call 0) (arg call 1) })))
    (looked_all-caches r call.hart (write_looks r call) c)
    ∙ judged-done s (cached s (looked_all r call.hart (write_looks r call) c).caches) h test
    (record (answers (cached s (looked_all r call.hart (write_looks r call) c).caches)
    (arg call 1)) { console = bytes_at s.core (arg call 0) (arg call 1) }) _ (told _)

write-done : (s : State) (k : List Cache) (h : ℕ) (call : Call) (long outside : Bool) →
    done_at s h (hart_at s.core h) (write_from (reads s) (cached s k) call (first_row ((long, 11) ∷ (outside, 1) ∷ [])))
    ≡ option_map_or (λ n. answer h (code n) (plain s))
    (first_row ((long, 11) ∷ (outside, 1) ∷ drop 2 (tests Write (sight (plain s)) call)))
    (does Write h call (plain s))
write-done s k h call true outside = refused s (cached s k) h 11
write-done s k h call false true = refused s (cached s k) h 1
write-done s k h call false false = wrote s k h call

-- call 13, whose look is forgotten
swapped : (s : State) (k : List Cache) (h : ℕ) (call : Call) →
    done_at s h (hart_at s.core h) (exchanged (reads s) (cached s k) call)
    ≡ option_map_or (λ n. answer h (code n) (plain s))
    (first_row (drop 1 (tests Exchange (sight (plain s)) call))) (exchange h call (plain s))
swapped s k h call =
    let r = reads s in
    let looks = look_of call.domain (arg_word call) ∷ [] in
    let test = first_row (drop 1 (tests Exchange (sight (plain s)) call)) in
    judged-done s (cached s (looked_all r call.hart looks (cached s k)).caches) h test _ _ (quiet _)

exchange-done : (s : State) (k : List Cache) (h : ℕ) (call : Call) (outside : Bool) →
    done_at s h (hart_at s.core h) (exchange_from (reads s) (cached s k) call (first_row ((outside, 1) ∷ [])))
    ≡ option_map_or (λ n. answer h (code n) (plain s))
    (first_row ((outside, 1) ∷ drop 1 (tests Exchange (sight (plain s)) call)))
    (exchange h call (plain s))
exchange-done s k h call true = refused s (cached s k) h 1
exchange-done s k h call false = swapped s k h call

-- each call
service-done : (s : State) (k : List Cache) (h : ℕ) (call : Call) (which : Service) →
    done_at s h (hart_at s.core h) (served_by which (reads s) (cached s k) call)
    ≡ option_map_or (λ n. answer h (code n) (plain s)) (first_row (tests which (sight (plain s)) call))
    (does which h call (plain s))
service-done s k h call Exit = judged-done s (cached s k) h _ _ _ (noted _)
service-done s k h call Write = write-done s k h call (nat_lt 4096 (arg call 1)) (bytes_outside (sight (plain s)) call)
service-done s k h call Grant = judged-done s (cached s k) h _ _ _ (quiet _)
service-done s k h call RevokeAll = judged-done s (cached s k) h _ _ _ (quiet _)
service-done s k h call Transfer = judged-done s (cached s k) h _ _ _ (gave _)
service-done s k h call Alloc =
    alloc-done s (cached s k) h call (unwrap_or (new_block (sight (plain s)) call) 0)
    (first_row (tests Alloc (sight (plain s)) call)) _ (quiet _)
service-done s k h call Free = judged-done s (cached s k) h _ _ _ (quiet _)
service-done s k h call AddGate = judged-done s (cached s k) h _ _ _ (quiet _)
service-done s k h call RemoveGate = judged-done s (cached s k) h _ _ _ (quiet _)
service-done s k h call AddReturnGate = judged-done s (cached s k) h _ _ _ (quiet _)
service-done s k h call Query = judged-done s (cached s k) h _ _ _ (quiet _)
service-done s k h call Self = quiet _
service-done s k h call Exchange = exchange-done s k h call (not (is_word (sight (plain s)) call))
service-done s k h call Unknown = quiet _

-- a call takes effect
pub served-plain : (s : State) (k : List Cache) (h : ℕ) (call : Call) →
    ends s (served (reads s) (cached s k) h (hart_at s.core h) call) ≡ plain_serve h call (plain s)
served-plain s k h call =
    ended-done s (cached s k) h (hart_at s.core h) call (served_by (service call.number) (reads s) (cached s k) call)
    ∙ service-done s k h call (service call.number)

-- Calls 2 and 13 answer -12 exactly where the access that they make is denied.
use Rattle.std.proofs.Common.{◌≡◌, ◌↔◌, ℕ, zero, suc, ◌+◌, ◌-◌, ◌*◌, ◌/◌, ◌%◌, ◌<◌, ◌≤◌, ◌⊎◌, inl, inr, Bool, true, false, not, cond, ◌==◌}
use Rattle.std.proofs.Common.{◌&&◌, ◌||◌, nat_lt, List, [], ◌∷◌, length, refl, sym, ◌∙◌, ap, arith, eq-eqb, if◌then◌else◌, Option, Some}
use Rattle.std.proofs.Common.{None, ⊎_elim}
use Rattle.std.specs.Prelude.{slice_set}
use Rattle.std.specs.List.{list_all, range_with_len}
use Rattle.std.specs.Option.{option_map_or}
use Rattle.std.proofs.lemmas.Bool.{and_cases, and_from, and_left, and_right, cases_lt, false_from_ne_true, le-leb, le-ltb, lt-ltb}
use Rattle.std.proofs.lemmas.Bool.{not_from_true, or_from}
use Rattle.std.proofs.lemmas.List.{get_or_past, get_or-set_same, get_or-set_other}
use Rattle.mx_words.specs.declared.perm.Access.TheVariants as A
use Rattle.mx_words.specs.Announced.{is_announced}
use Rattle.mx_words.specs.Bytes.{number_at, put_at}
use Rattle.mx_words.specs.Caches.{Cache}
use Rattle.mx_words.specs.Calls.{exchange_call, write_call}
use Rattle.mx_words.specs.FirstRow.{first_row}
use Rattle.mx_words.specs.Hearing.{nobody}
use Rattle.mx_words.specs.Ranges.{in_ram, ram_base}
use Rattle.mx_words.specs.Rights.{allows}
use Rattle.mx_words.proofs.RangeTests.{each_passes}
use Rattle.mx_isa.specs.declared.inst.Inst.TheVariants.{Ecall}
use Rattle.mx_model.specs.declared.values.Call.{Call}
use Rattle.mx_model.specs.Checks.{arg, call_range, drops, is_halted, is_ready, looked_all}
use Rattle.mx_model.specs.Effect.{effect, reg}
use Rattle.mx_model.specs.Reads.{Reads, reads}
use Rattle.mx_model.specs.Serve.{Served, answers, arg_word, bytes_at, code, exchange_from, judged, look_of, may_read, no_word, serve}
use Rattle.mx_model.specs.Serve.{serve_exchange, serve_write, served_by, service, write_looks, write_outside, write_words}
use Rattle.mx_model.specs.State.{Core, Hart, State, hart_at}
use Rattle.mx_model.specs.Turn.{Asks, call_of, done, is_served_now}
use Rattle.mx_model.proofs.KeepLaws.{keeps-hears, keeps-served_by}
use Rattle.mx_model.proofs.TurnCases.{ready}
use Rattle.mx_laws.specs.After.{domain_at, hart_after}
use Rattle.mx_laws.proofs.TurnParts.{there}
use Rattle.mx_runs.specs.Denials.{InRam, IsDenied, MakesCall, SomeDenied, answers_no_right, register_of, word_at}
use Rattle.mx_runs.proofs.DenialLaws.{word-denied}
use Rattle.mx_runs.proofs.TrapLaws.{Does, does-instruction, through}

-- x10 of the hart after a call that doesn't end it is the answer
ten-answered : (regs : List ℕ) (a0 : ℕ) (a1 : Option ℕ) → 10 < length regs →
    reg (option_map_or (slice_set (slice_set regs 10 a0) 11) a1 (slice_set regs 10 a0)) 10 ≡ a0
ten-answered regs a0 None l = get_or-set_same regs 10 a0 0 l
ten-answered regs a0 (Some v) l =
    get_or-set_other (slice_set regs 10 a0) 11 10 v 0 (λ e. let z : ⊥ = omega (arith, e) in z)
    ∙ get_or-set_same regs 10 a0 0 l

ten-done : (h : ℕ) (x : Hart) (v : Served) → v.stop ≡ false → h < length v.core.harts → 10 < length x.regs →
    reg (hart_at (done h x v).core h).regs 10 ≡ v.a0
ten-done h x v e l m = search (arith, v.a0, v.core, get_or-set_same, v.core.harts, ten-answered, x.regs, v.a1)

-- a call that isn't announced is served in its turn, in a state that is ready for it but for caches
record IsAnswered (s : State) (h number : ℕ) : Type 0 where
  caches : List Cache
  answer : let x = hart_at s.core h in
      let v = served_by (service number) (reads s) (record (ready s.core h) { caches = caches }) (call_of h x) in
      v.stop ≡ false → reg (hart_after (reads s) s.core h).regs 10 ≡ v.a0

-- a hart whose x17 isn't zero has an x10
has-ten : (regs : List ℕ) → 1 ≤ reg regs 17 → 10 < length regs
has-ten regs some = ⊎_elim (λ l. l) (λ few. absurd (
    let none = get_or_past regs 17 0 (omega (arith, few)) in let z : ⊥ = omega (arith, none, some) in z))
    (cases_lt 10 (length regs))

answered-call : (s : State) (h number : ℕ) → MakesCall s h number → 1 ≤ number → is_announced number ≡ false →
    IsAnswered s h number
unfolding effect
answered-call s h number k some n =
    let x = hart_at s.core h in
    let r = reads s in
    let call = call_of h x in
    let d : Does r s.core h (Asks call) = does-instruction s h Ecall k.executes in
    let e : Core = record (ready s.core h) { caches = d.caches } in
    let v = served_by (service number) r e call in
    let now : is_served_now e h call ≡ true = ap (λ (m : ℕ). not (is_announced m) || is_ready e h nobody) k.asked
    ∙ ap (λ (b : Bool). not b || is_ready e h nobody) n in
    let by = λ (m : ℕ) (b : Bool). cond b
    (record (served_by (service m) r e call) {
      core = drops call.hart (call_range e call) (served_by (service m) r e call).core;
    })
    (served_by (service m) r e call) in
    let same : serve r e call ≡ v = ap (λ (m : ℕ). by m (is_announced m)) k.asked ∙ ap (by number) n in
    let few : h < length s.core.harts = there s.core h (ap is_halted k.executes.fetches.running) in
    let count : length v.core.harts ≡ length s.core.harts = (keeps-served_by (service number) r e call).harts
    ∙ (keeps-hears h s.core).harts in
    search (arith, ten-done, has-ten)

-- a word of a range that fails a test
record Fails (test : ℕ → Bool) (first count : ℕ) : Type 0 where
  word : ℕ
  from : first ≤ word
  below : word < first + count
  fails : test word ≡ false

later-fails : (test : ℕ → Bool) (first count : ℕ) → Fails test (first + 1) count → Fails test first (suc count)
later-fails test first count k = search arith

some-fails : (test : ℕ → Bool) (first count : ℕ) → list_all test (range_with_len first count) ≡ false →
    Fails test first count
some-fails test first zero e = absurd (cc)
some-fails test first (suc count) e =
    ⊎_elim (λ f. record { word = first; from = omega arith; below = omega arith; fails = f })
    (λ f. later-fails test first count (some-fails test (first + 1) count f))
    (and_cases (test first) (list_all test (range_with_len (first + 1) count)) e)

-- the bytes of a call 2, that lie in RAM
module _ (s : State) (d first count : ℕ) (inside : InRam s first count) where
  abbrev low_word : ℕ
  low_word = (first - ram_base) / 4

  abbrev behind : ℕ
  behind = (first + count - ram_base + 3) / 4

  abbrev test : ℕ → Bool
  test = may_read (reads s) d

  word-byte : 0 < count → Fails test low_word (behind - low_word) → SomeDenied s d first count A.Read
  word-byte some k =
      let o = first - ram_base in
      let byte = 4 * k.word - o in
      let base = (inside 0 some).0 in
      let from = k.from in
      let below = k.below in
      let less : byte < count = omega (arith, base, from, below, some) in
      let at : word_at (first + byte) ≡ k.word = omega (arith, base, from, below, some) in
      let fails : allows ((reads s).perm d (word_at (first + byte))) A.Read ≡ false = ap test at ∙ k.fails in
      record {
        byte = byte;
        inside = less;
        denied = (word-denied s d (first + byte) A.Read (inside byte less).0 (inside byte less).1).0 fails;
      }

  byte-word : (k : SomeDenied s d first count A.Read) →
      list_all test (range_with_len low_word (behind - low_word)) ≡ true → ⊥
  byte-word k all =
      let low = (inside k.byte k.inside).0 in
      let high = (inside k.byte k.inside).1 in
      let few = k.inside in
      let some : 0 < count = omega (arith, few) in
      let base = (inside 0 some).0 in
      let word = word_at (first + k.byte) in
      let passes : test word ≡ true =
      each_passes test low_word (behind - low_word) all word (omega (arith, base, few)) (omega (arith, base, few)) in
      let fails : test word ≡ false = (word-denied s d (first + k.byte) A.Read low high).1 k.denied in
      let q : true ≡ false = sym passes ∙ fails in
      let z : ⊥ = cc in
      z

-- what a call 2 answers, by whether all its words may be read
abbrev out_by : Reads → Core → Call → Bool → Served
out_by r e call all =
    let looked = looked_all r call.hart (write_looks r call) e in
    judged looked (first_row ((not all, 12) ∷ [])) (record (answers looked (arg call 1)) {
      console =
          bytes_at e (arg call 0) (arg call 1);
    })

-- whether all words that a call 2 touches may be read
abbrev reads_all : Reads → Call → Bool
reads_all r call = list_all (may_read r call.domain) (write_words call)

write-served : (r : Reads) (e : Core) (call : Call) → nat_lt 4096 (arg call 1) ≡ false → write_outside e call ≡ false →
    serve_write r e call ≡ out_by r e call (reads_all r call)
write-served r e call few inside = search arith

-- no test before the last fails
inside-ram : (s : State) (first count : ℕ) → InRam s first count →
    (nat_lt 0 count && (nat_lt first ram_base || nat_lt (ram_base + 4 * s.core.size) (first + count))) ≡ false
inside-ram s first count inside = search (arith, cases_lt, and_right, or_from, le-ltb, and_left)

-- the answer is -12 exactly where some word may not be read
out-answer : (r : Reads) (e : Core) (call : Call) (all : Bool) → arg call 1 ≤ 4096 →
    ((out_by r e call all).a0 ≡ code 12) ↔ (all ≡ false)
out-answer r e call x l = grind arith

out-stop : (r : Reads) (e : Core) (call : Call) (all : Bool) → (out_by r e call all).stop ≡ false
out-stop r e call x = grind arith

-- some word may not be read exactly where some byte is denied
words-by : (s : State) (d : ℕ) (call : Call) → call.domain ≡ d → InRam s (arg call 0) (arg call 1) →
    (0 < arg call 1) ⊎ (arg call 1 ≤ 0) →
    (reads_all (reads s) call ≡ false) ↔ SomeDenied s d (arg call 0) (arg call 1) A.Read
words-by s d call own inside (inl some) =
    let first = arg call 0 in
    let count = arg call 1 in
    let words = range_with_len ((first - ram_base) / 4) ((first + count - ram_base + 3) / 4 - (first - ram_base) / 4) in
    let same : reads_all (reads s) call ≡ list_all (may_read (reads s) d) words =
    ap (λ (b : Bool). list_all (may_read (reads s) call.domain) (if b then words else [])) (lt-ltb 0 count some)
    ∙ ap (λ (k : ℕ). list_all (may_read (reads s) k) words) own in (
      λ e. word-byte s d first count inside some (some-fails _ _ _ (sym same ∙ e)),
      λ k. false_from_ne_true _ (λ e. byte-word s d first count inside k (sym same ∙ e)),
    )
words-by s d call own inside (inr none) = (
  λ e. absurd (
      let same : reads_all (reads s) call ≡ true =
      ap (λ (b : Bool). list_all (may_read (reads s) call.domain) (if b then
      range_with_len ((arg call 0 - ram_base) / 4)
      ((arg call 0 + arg call 1 - ram_base + 3) / 4 - (arg call 0 - ram_base) / 4)
      else [])) (le-ltb 0 (arg call 1) none) in
      let q : true ≡ false = sym same ∙ e in
      let z : ⊥ = cc in
      z),
  λ k. absurd (let few = k.inside in let z : ⊥ = omega (arith, few, none) in z),
)

words-denied : (s : State) (d : ℕ) (call : Call) → call.domain ≡ d → InRam s (arg call 0) (arg call 1) →
    (reads_all (reads s) call ≡ false) ↔ SomeDenied s d (arg call 0) (arg call 1) A.Read
words-denied s d call own inside = words-by s d call own inside (cases_lt 0 (arg call 1))

-- an answer that is another
answer-like : {P : Type 0} (a b n : ℕ) → a ≡ b → (b ≡ n) ↔ P → (a ≡ n) ↔ P
answer-like a b n e k = (λ q. k.0 (sym e ∙ q), λ p. e ∙ k.1 p)

pub write-exactly : (s : State) (h : ℕ) → MakesCall s h write_call → register_of s.core h 11 ≤ 4096 →
    InRam s (register_of s.core h 10) (register_of s.core h 11) →
    answers_no_right s h ↔ SomeDenied s (domain_at s.core h) (register_of s.core h 10) (register_of s.core h 11) A.Read
write-exactly s h k few inside =
    let r = reads s in
    let call = call_of h (hart_at s.core h) in
    let t = answered-call s h write_call k (omega arith) refl in
    let e : Core = record (ready s.core h) { caches = t.caches } in
    let out = out_by r e call (reads_all r call) in
    let same : serve_write r e call ≡ out =
    write-served r e call (le-ltb 4096 (arg call 1) few) (inside-ram s (arg call 0) (arg call 1) inside) in
    let ten : reg (hart_after r s.core h).regs 10 ≡ out.a0 =
    t.answer (ap (λ (v : Served). v.stop) same ∙ out-stop r e call (reads_all r call))
    ∙ ap (λ (v : Served). v.a0) same in
    answer-like (reg (hart_after r s.core h).regs 10) out.a0 (code 12) ten
    (through (out-answer r e call (reads_all r call) few) (words-denied s (domain_at s.core h) call refl inside))

-- call 13 at a word of RAM
abbrev swap_by : Reads → Core → Call → Bool → Served
swap_by r e call may =
    let looked = looked_all r call.hart (look_of call.domain (arg_word call) ∷ []) e in
    judged looked (first_row ((not may, 12) ∷ []))
    (record (answers (record looked { ram = put_at e.ram (4 * arg_word call) 4 (arg call 1) }) 0) {
      a1 = Some (number_at e.ram (4 * arg_word call) 4);
    })

swap-answer : (r : Reads) (e : Core) (call : Call) (may : Bool) →
    ((swap_by r e call may).a0 ≡ code 12) ↔ (may ≡ false)
swap-answer r e call x = grind arith

swap-stop : (r : Reads) (e : Core) (call : Call) (may : Bool) → (swap_by r e call may).stop ≡ false
swap-stop r e call x = grind arith

swap-served : (r : Reads) (e : Core) (call : Call) → no_word e call ≡ false →
    serve_exchange r e call ≡ swap_by r e call (allows (r.perm call.domain (arg_word call)) A.Write)
swap-served r e call is = ap (λ (b : Bool). exchange_from r e call (first_row ((b, 1) ∷ []))) is

pub exchange-exactly : (s : State) (h : ℕ) → MakesCall s h exchange_call → register_of s.core h 10 % 4 ≡ 0 →
    InRam s (register_of s.core h 10) 1 →
    answers_no_right s h ↔ IsDenied s (domain_at s.core h) (register_of s.core h 10) A.Write
exchange-exactly s h k aligned inside =
    let r = reads s in
    let call = call_of h (hart_at s.core h) in
    let t = answered-call s h exchange_call k (omega arith) refl in
    let e : Core = record (ready s.core h) { caches = t.caches } in
    let a = arg call 0 in
    let may = allows (r.perm call.domain (arg_word call)) A.Write in
    let one : 0 < 1 = omega arith in
    let low : ram_base ≤ a = let b = (inside 0 one).0 in omega (arith, b) in
    let high : a < ram_base + 4 * s.core.size = let b = (inside 0 one).1 in omega (arith, b) in
    let word : ((a % 4 == 0) && in_ram a s.core.size) ≡ true =
    and_from _ _ (eq-eqb (a % 4) 0 aligned)
    (and_from _ _ (le-leb ram_base a low) (lt-ltb (a - ram_base) (4 * s.core.size) (omega (arith, low, high)))) in
    let same : serve_exchange r e call ≡ swap_by r e call may = swap-served r e call (not_from_true _ word) in
    let ten : reg (hart_after r s.core h).regs 10 ≡ (swap_by r e call may).a0 =
    t.answer (ap (λ (v : Served). v.stop) same ∙ swap-stop r e call may) ∙ ap (λ (v : Served). v.a0) same in
    answer-like (reg (hart_after r s.core h).regs 10) (swap_by r e call may).a0 (code 12) ten
    (through (swap-answer r e call may) (word-denied s (domain_at s.core h) a A.Write low high))

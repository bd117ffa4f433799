-- A turn keeps the caches of all harts valid.
use Rattle.std.proofs.Common.{ℕ, ◌*◌, ◌^◌, ◌<◌, ◌≤◌, Bool, true, false, not, cond, List, [], ◌∷◌, length, fold, refl, ◌∙◌, arith, lit<}
use Rattle.std.proofs.Common.{Option, Some, None}
use Rattle.std.specs.List.{AllByRecursion}
use Rattle.std.proofs.lemmas.Bool.{ltb-true}
use Rattle.std.proofs.lemmas.List.{length-set, length-map, length-take}
use Rattle.mx_words.specs.declared.perm.Access.TheVariants as A
use Rattle.mx_words.specs.declared.perm.Span.{Span}
use Rattle.mx_words.specs.Bytes.{number_at, put_at}
use Rattle.mx_words.specs.Caches.{Cache, Entry, no_cache, raised, found_kept, kept_with, checked, checked_at, checked_behind, with_walk}
use Rattle.mx_words.specs.Caches.{left_domain, without_range}
use Rattle.mx_words.specs.FirstRow.{first_row}
use Rattle.mx_words.specs.Rights.{allows}
use Rattle.mx_model.specs.declared.values.Call.{Call}
use Rattle.mx_model.specs.declared.values.Frame.{Frame}
use Rattle.mx_model.specs.Checks.{Look, arg, hears, looked, looked_all, empties_places, drops, is_halted, unheard_ranges}
use Rattle.mx_model.specs.Gates.{below_top}
use Rattle.mx_model.specs.Reads.{Reads}
use Rattle.mx_model.specs.Serve.{Served, Service, judged, answers, serve, served_by, service, ended, write_from, write_looks, exchange_from}
use Rattle.mx_model.specs.Serve.{look_of, arg_word, alloc_from}
use Rattle.mx_model.specs.State.{Core, Hart, Running, hart_at, with_hart, cache_at, with_cache}
use Rattle.mx_model.specs.Turn.{Action, Rests, Waits, Serves, Asks, Traps, Bounces, Crosses, Returns, Runs, Writes, Decided, acted, asked}
use Rattle.mx_model.specs.Turn.{served, done, trapped, given_up, killed, over_frame, restored, enacted, heard_first, turned, is_served_now}
use Rattle.mx_model.specs.Valid.{IsCache}
use Rattle.mx_model.proofs.ListLaws.{all-set, all-at, length-filter-le}

-- empty caches
pub cache-none : (most : ℕ) → IsCache most no_cache
cache-none most = record { places = refl; few_kept = omega arith; sidecar = lit< tt; lookaside = lit< tt; walks = lit< tt }

-- a check
raised-small : (n : ℕ) → n < 2 ^ 64 → raised n < 2 ^ 64
raised-small n p = search (arith, ltb-true)

few-kept_with : (most : ℕ) (e : Entry) (kept : List Entry) → length (kept_with most e kept) ≤ most
few-kept_with most e kept = let l = length-take most (e ∷ kept) in omega (arith, l)

cache-with_walk : (most p domain : ℕ) (s : Span) (barred : Bool) (c : Cache) → IsCache most c
    → IsCache most (with_walk most p domain s barred c)
cache-with_walk most p domain s x c v = grind (arith, raised-small, length-set, few-kept_with)

cache-checked_behind : (most p domain : ℕ) (walked : Span) (barred : Bool) (o : Option Span) (c : Cache) → IsCache most c →
    IsCache most (checked_behind most p domain walked barred o c)
cache-checked_behind most p domain walked barred None c v = cache-with_walk most p domain walked barred c v
cache-checked_behind most p domain walked barred (Some s) c v = record {
  places = length-set c.places p (Some s) ∙ v.places;
  few_kept = v.few_kept;
  sidecar = v.sidecar;
  lookaside = raised-small c.lookaside v.lookaside;
  walks = v.walks;
}

cache-checked_at : (most p domain word : ℕ) (walked : Span) (barred : Bool) (o : Option Span) (c : Cache) → IsCache most c →
    IsCache most (checked_at most p domain word walked barred o c)
cache-checked_at most p domain word walked barred None c v = cache-checked_behind most p domain walked barred
    (found_kept c.kept domain word) c v
cache-checked_at most p domain word walked barred (Some s) c v =
    record {
      places = v.places;
      few_kept = v.few_kept;
      sidecar = raised-small c.sidecar v.sidecar;
      lookaside = v.lookaside;
      walks =
          v.walks;
    }

pub cache-checked : (most p domain word : ℕ) (walked : Span) (barred : Bool) (c : Cache) → IsCache most c →
    IsCache most (checked most p domain word walked barred c)
cache-checked most p domain word walked barred c v = search (arith, cache-checked_at)

-- places emptied, and spans dropped
pub cache-left : (most : ℕ) (c : Cache) → IsCache most c → IsCache most (left_domain c)
cache-left most c v = record { places = refl; few_kept = v.few_kept; sidecar = v.sidecar; lookaside = v.lookaside; walks = v.walks }

pub cache-without : (most first count : ℕ) (c : Cache) → IsCache most c → IsCache most (without_range first count c)
cache-without most first count c v = search (arith, length-map, c.places, length-filter-le)

-- the caches of all harts
pub record AreCaches (c : Core) : Type 0 where
  pub each : AllByRecursion (IsCache c.buffer) c.caches

pub cache-at : (c : Core) (h : ℕ) → AreCaches c → IsCache c.buffer (cache_at c h)
cache-at c h v = all-at (IsCache c.buffer) c.caches no_cache v.each (cache-none c.buffer) h

pub caches-with : (h : ℕ) (cache : Cache) (c : Core) → AreCaches c → IsCache c.buffer cache → AreCaches (with_cache h cache c)
caches-with h cache c v p = record { each = all-set (IsCache c.buffer) c.caches h cache v.each p }

pub caches-looked : (r : Reads) (h : ℕ) (l : Look) (c : Core) → AreCaches c → AreCaches (looked r h c l)
caches-looked r h l c v = caches-with h _ c v (cache-checked c.buffer l.place l.domain l.word (r.walk l.domain l.word) _ (cache_at c h)
    (cache-at c h v))

pub caches-looked_all : (r : Reads) (h : ℕ) (looks : List Look) (c : Core) → AreCaches c → AreCaches (looked_all r h looks c)
caches-looked_all r h [] c v = v
caches-looked_all r h (l ∷ ls) c v = caches-looked_all r h ls (looked r h c l) (caches-looked r h l c v)

pub caches-empties_places : (h : ℕ) (c : Core) → AreCaches c → AreCaches (empties_places h c)
caches-empties_places h c v = caches-with h _ c v (cache-left c.buffer (cache_at c h) (cache-at c h v))

pub caches-drops : (h : ℕ) (range : ℕ × ℕ) (c : Core) → AreCaches c → AreCaches (drops h range c)
caches-drops h range c v = caches-with h _ c v (cache-without c.buffer range.0 range.1 (cache_at c h) (cache-at c h v))

cache-without-all : (most : ℕ) (ranges : List (ℕ × ℕ)) (c : Cache) → IsCache most c →
    IsCache most (fold (λ cache (r : ℕ × ℕ). without_range r.0 r.1 cache) c ranges)
cache-without-all most [] c v = v
cache-without-all most (r ∷ rs) c v = cache-without-all most rs (without_range r.0 r.1 c) (cache-without most r.0 r.1 c v)

pub caches-hears : (h : ℕ) (c : Core) → AreCaches c → AreCaches (hears h c)
caches-hears h c v = record {
  each = all-set (IsCache c.buffer) c.caches h _ v.each
      (cache-without-all c.buffer (unheard_ranges c h) (cache_at c h) (cache-at c h v));
}

-- a call that is refused or done
pub caches-judged : (c : Core) (o : Option ℕ) (s : Served) → AreCaches c → AreCaches s.core → AreCaches (judged c o s).core
caches-judged c None s v p = p
caches-judged c (Some n) s v p = v

pub caches-alloc_from : (c : Core) (call : Call) (first : ℕ) (o : Option ℕ) → AreCaches c → AreCaches (alloc_from c call first o).core
caches-alloc_from c call first None v = record { each = v.each }
caches-alloc_from c call first (Some n) v = v

pub caches-write_from : (r : Reads) (c : Core) (call : Call) (o : Option ℕ) → AreCaches c → AreCaches (write_from r c call o).core
caches-write_from r c call (Some n) v = v
caches-write_from r c call None v =
    let p = caches-looked_all r call.hart (write_looks r call) c v in
    caches-judged (looked_all r call.hart (write_looks r call) c) _ _ p p

pub caches-exchange_from : (r : Reads) (c : Core) (call : Call) (o : Option ℕ) → AreCaches c → AreCaches (exchange_from r c call o).core
caches-exchange_from r c call (Some n) v = v
caches-exchange_from r c call None v =
    let seen = looked_all r call.hart (look_of call.domain (arg_word call) ∷ []) c in
    let p = caches-looked_all r call.hart (look_of call.domain (arg_word call) ∷ []) c v in
    caches-judged seen (first_row ((not (allows (r.perm call.domain (arg_word call)) A.Write), 12) ∷ []))
    (record (answers (record seen { ram = put_at c.ram (4 * arg_word call) 4 (arg call 1) }) 0) {
      a1 =
          Some (number_at c.ram (4 * arg_word call) 4);
    }) p (record { each = p.each })

pub caches-served_by : (k : Service) (r : Reads) (c : Core) (call : Call) → AreCaches c → AreCaches (served_by k r c call).core
caches-served_by x r c call v = grind (arith, caches-judged, caches-write_from, caches-alloc_from, caches-exchange_from)

pub caches-ended : (c : Core) (call : Call) (s : Served) → AreCaches s.core → AreCaches (ended c call s).core
caches-ended c call s v = search (arith, call.hart, caches-drops, s.core)

pub caches-serve : (r : Reads) (c : Core) (call : Call) → AreCaches c → AreCaches (serve r c call).core
caches-serve r c call v = caches-ended c call (served_by (service call.number) r c call) (caches-served_by (service call.number) r c call v)

-- a served call, in its hart
pub caches-done : (h : ℕ) (hart : Hart) (s : Served) → AreCaches s.core → AreCaches (done h hart s).core
caches-done h hart s v = search (arith, s.stop, s.a0)

pub caches-served : (r : Reads) (c : Core) (h : ℕ) (hart : Hart) (call : Call) → AreCaches c → AreCaches (served r c h hart call).core
caches-served r c h hart call v = caches-done h hart (serve r c call) (caches-serve r c call v)

pub caches-asked : (r : Reads) (c : Core) (h : ℕ) (hart : Hart) (call : Call) (b : Bool) → AreCaches c
    → AreCaches (asked r c h hart call b).core
caches-asked r c h hart call true v = caches-served r c h hart call v
caches-asked r c h hart call false v = record { each = v.each }

-- a fault
pub caches-over_frame : (c : Core) (h : ℕ) (hart : Hart) (frame : Frame) (regs : List ℕ) → AreCaches c
    → AreCaches (over_frame c h hart frame regs)
caches-over_frame c h hart frame regs v =
    let moved = record hart {
      regs = restored regs frame.kept;
      pc = frame.back;
      domain = frame.caller;
      frames = below_top hart.frames;
      status = Running;
    } in
    caches-empties_places h (with_hart h moved c) (record { each = v.each })

pub caches-killed : (d cause : ℕ) (c : Core) → AreCaches c → AreCaches (killed d cause c)
caches-killed d cause c v = search arith

pub caches-given_up : (c : Core) (h : ℕ) (hart : Hart) (cause : ℕ) (o : Option Frame) → AreCaches c → AreCaches (given_up c h hart cause o)
caches-given_up c h hart cause None v = record { each = v.each }
caches-given_up c h hart cause (Some frame) v = caches-over_frame c h hart frame _ v

pub caches-trapped : (c : Core) (h : ℕ) (hart : Hart) (cause value : ℕ) → AreCaches c → AreCaches (trapped c h hart cause value).core
caches-trapped c h hart cause value v = caches-given_up (killed hart.domain cause c) h hart cause _ (caches-killed hart.domain cause c v)

-- an action
pub caches-acted : (r : Reads) (c : Core) (h : ℕ) (hart : Hart) (action : Action) → AreCaches c → AreCaches (acted r c h hart action).core
caches-acted r c h hart Rests v = v
caches-acted r c h hart Waits v = v
caches-acted r c h hart (Serves call) v = caches-served r c h hart call v
caches-acted r c h hart (Asks call) v = caches-asked r c h hart call (is_served_now c h call) v
caches-acted r c h hart (Traps cause value) v = caches-trapped c h hart cause value v
caches-acted r c h hart Bounces v = record { each = v.each }
caches-acted r c h hart (Crosses target) v = record {
  each = all-set (IsCache c.buffer) c.caches h _ v.each
      (cache-left c.buffer (cache_at c h) (cache-at c h v));
}
caches-acted r c h hart (Returns rd frame) v = caches-over_frame c h hart frame _ v
caches-acted r c h hart (Runs regs pc) v = record { each = v.each }
caches-acted r c h hart (Writes address size value) v = record { each = v.each }

pub caches-enacted : (r : Reads) (c : Core) (h : ℕ) (d : Decided) → AreCaches c → AreCaches (enacted r c h d).core
caches-enacted r c h d v = caches-acted r (looked_all r h d.looks c) h (hart_at c h) d.action (caches-looked_all r h d.looks c v)

pub caches-heard_first : (c : Core) (h : ℕ) → AreCaches c → AreCaches (heard_first c h)
caches-heard_first c h v = elim (is_halted (hart_at c h).status) as (λ b. AreCaches (cond b c (hears h c))) [
  | true ↦ v
  | false ↦
      caches-hears h c v
]

-- a turn
pub caches-turned : (r : Reads) (c : Core) (h : ℕ) → AreCaches c → AreCaches (turned r c h).core
caches-turned r c h v = search (arith, caches-enacted, caches-heard_first)

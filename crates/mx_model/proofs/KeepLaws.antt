-- What no turn changes: the number of words, the kind of tables, their limit and the size of the lookaside buffer; and the numbers of
-- modules, harts
-- and caches.
use Rattle.std.proofs.Common.{◌≡◌, ℕ, ◌-◌, ◌*◌, Bool, true, false, List, [], ◌∷◌, length, cond, refl, Option, Some, None, unwrap_or, arith}
use Rattle.std.proofs.lemmas.List.{length-map, length-set}
use Rattle.std.proofs.lemmas.List.FromFn.{length-enumerate_from}
use Rattle.mx_words.specs.Bytes.{put_at}
use Rattle.mx_words.specs.Caches.{Cache}
use Rattle.mx_words.specs.FirstFit.{Area}
use Rattle.mx_model.specs.declared.values.Call.{Call}
use Rattle.mx_model.specs.declared.values.Frame.{Frame}
use Rattle.mx_model.specs.declared.values.Gate.{Gate}
use Rattle.mx_model.specs.Checks.{Look, arg, hears, looked, looked_all, empties_places, drops, is_halted}
use Rattle.mx_model.specs.Reads.{Reads}
use Rattle.mx_model.specs.Serve.{Served, Service, Exit, Write, Grant, RevokeAll, Transfer, Alloc, Free, AddGate, RemoveGate, AddReturnGate}
use Rattle.mx_model.specs.Serve.{Query, Self, Exchange, Unknown, judged, serve, served_by, service, ended, write_from, written_out}
use Rattle.mx_model.specs.Serve.{exchange_from, exchanged, with_blocks, look_of, arg_word, allocated, alloc_place, alloc_from}
use Rattle.mx_model.specs.State.{Core, Hart, Module, hart_at, with_hart, with_cache, with_module}
use Rattle.mx_model.specs.Turn.{Action, Rests, Waits, Serves, Asks, Traps, Bounces, Crosses, Returns, Runs, Writes, Decided, acted, asked}
use Rattle.mx_model.specs.Turn.{served, done, trapped, given_up, killed, over_frame, enacted, decide, heard_first, counted, turned}
use Rattle.mx_model.specs.Turn.{is_served_now}

-- what is the same in two cores
pub record Keeps (c e : Core) : Type 0 where
  pub size : e.size ≡ c.size
  pub kind : e.kind ≡ c.kind
  pub limit : e.limit ≡ c.limit
  pub buffer : e.buffer ≡ c.buffer
  pub turns : e.turns ≡ c.turns
  pub modules : length e.modules ≡ length c.modules
  pub harts : length e.harts ≡ length c.harts
  pub caches : length e.caches ≡ length c.caches

pub keeps-refl : (c : Core) → Keeps c c
keeps-refl c = record { size = refl; kind = refl; limit = refl; buffer = refl; turns = refl; modules = refl; harts = refl; caches = refl }

pub keeps-trans : (c e f : Core) → Keeps c e → Keeps e f → Keeps c f
keeps-trans c e f p q = search arith

-- parts changed with their lengths kept
pub keeps-parts : (c : Core) (ram : List ℕ) (modules : List Module) (gates : List Gate) (harts : List Hart) (caches : List Cache) →
    length modules ≡ length c.modules → length harts ≡ length c.harts → length caches ≡ length c.caches →
    Keeps c (record c { ram = ram; modules = modules; gates = gates; harts = harts; caches = caches })
keeps-parts c ram modules gates harts caches m h k =
    record { size = refl; kind = refl; limit = refl; buffer = refl; turns = refl; modules = m; harts = h; caches = k }

-- one hart, one hart's caches, or one module changed
pub keeps-hart : (h : ℕ) (hart : Hart) (c : Core) → Keeps c (with_hart h hart c)
keeps-hart h hart c = keeps-parts c c.ram c.modules c.gates _ c.caches refl (length-set c.harts h hart) refl

pub keeps-cache : (h : ℕ) (cache : Cache) (c : Core) → Keeps c (with_cache h cache c)
keeps-cache h cache c = keeps-parts c c.ram c.modules c.gates c.harts _ refl refl (length-set c.caches h cache)

pub keeps-module : (d : ℕ) (m : Module) (c : Core) → Keeps c (with_module d m c)
keeps-module d m c = keeps-parts c c.ram _ c.gates c.harts c.caches (length-set c.modules (d - 1) m) refl refl

-- RAM, or the gates changed
pub keeps-ram : (ram : List ℕ) (c : Core) → Keeps c (record c { ram = ram })
keeps-ram ram c = keeps-parts c ram c.modules c.gates c.harts c.caches refl refl refl

pub keeps-gates : (gates : List Gate) (c : Core) → Keeps c (record c { gates = gates })
keeps-gates gates c = keeps-parts c c.ram c.modules gates c.harts c.caches refl refl refl

-- looks change one hart's caches alone
pub keeps-looked : (r : Reads) (h : ℕ) (c : Core) (l : Look) → Keeps c (looked r h c l)
keeps-looked r h c l = keeps-cache h _ c

pub keeps-looked_all : (r : Reads) (h : ℕ) (looks : List Look) (c : Core) → Keeps c (looked_all r h looks c)
keeps-looked_all r h [] c = keeps-refl c
keeps-looked_all r h (l ∷ ls) c =
    keeps-trans c (looked r h c l) (looked_all r h ls (looked r h c l)) (keeps-looked r h c l) (keeps-looked_all r h ls (looked r h c l))

pub keeps-empties_places : (h : ℕ) (c : Core) → Keeps c (empties_places h c)
keeps-empties_places h c = keeps-cache h _ c

pub keeps-drops : (h : ℕ) (range : ℕ × ℕ) (c : Core) → Keeps c (drops h range c)
keeps-drops h range c = keeps-cache h _ c

pub keeps-hears : (h : ℕ) (c : Core) → Keeps c (hears h c)
keeps-hears h c =
    search (arith, keeps-parts, c.ram, c.modules, c.gates, length-map, length-enumerate_from, length-set, c.caches)

-- a call that is refused or done
pub keeps-judged : (c e : Core) (o : Option ℕ) (s : Served) → Keeps c e → Keeps c s.core → Keeps c (judged e o s).core
keeps-judged c e None s p q = q
keeps-judged c e (Some n) s p q = p

pub keeps-blocks : (call : Call) (blocks : List Area) (c : Core) → Keeps c (with_blocks call blocks c)
keeps-blocks call blocks c = keeps-module call.domain _ c

pub keeps-allocated : (c : Core) (call : Call) (first : ℕ) → Keeps c (allocated c call first).core
keeps-allocated c call first = search (arith, c.ram, keeps-trans, keeps-ram, keeps-module, call.domain)

pub keeps-alloc_from : (c : Core) (call : Call) (first : ℕ) (o : Option ℕ) → Keeps c (alloc_from c call first o).core
keeps-alloc_from c call first (Some n) = keeps-refl c
keeps-alloc_from c call first None = keeps-allocated c call first

pub keeps-written_out : (r : Reads) (c : Core) (call : Call) → Keeps c (written_out r c call).core
keeps-written_out r c call = search (arith, keeps-looked_all, keeps-judged)

pub keeps-write_from : (r : Reads) (c : Core) (call : Call) (o : Option ℕ) → Keeps c (write_from r c call o).core
keeps-write_from r c call (Some n) = keeps-refl c
keeps-write_from r c call None = keeps-written_out r c call

pub keeps-exchanged : (r : Reads) (c : Core) (call : Call) → Keeps c (exchanged r c call).core
keeps-exchanged r c call =
    let seen = looked_all r call.hart (look_of call.domain (arg_word call) ∷ []) c in
    let p = keeps-looked_all r call.hart (look_of call.domain (arg_word call) ∷ []) c in
    let ram = put_at c.ram (4 * arg_word call) 4 (arg call 1) in
    search (arith, keeps-judged, r.perm, call.domain, c.ram)

pub keeps-exchange_from : (r : Reads) (c : Core) (call : Call) (o : Option ℕ) → Keeps c (exchange_from r c call o).core
keeps-exchange_from r c call (Some n) = keeps-refl c
keeps-exchange_from r c call None = keeps-exchanged r c call

-- a call of each kind
pub keeps-served_by : (k : Service) (r : Reads) (c : Core) (call : Call) → Keeps c (served_by k r c call).core
keeps-served_by Exit r c call = keeps-judged c c _ _ (keeps-refl c) (keeps-refl c)
keeps-served_by Write r c call = keeps-write_from r c call _
keeps-served_by Grant r c call = keeps-judged c c _ _ (keeps-refl c) (keeps-refl c)
keeps-served_by RevokeAll r c call = keeps-judged c c _ _ (keeps-refl c) (keeps-refl c)
keeps-served_by Transfer r c call = keeps-judged c c _ _ (keeps-refl c) (keeps-refl c)
keeps-served_by Alloc r c call = keeps-alloc_from c call (unwrap_or (alloc_place c call) 0) _
keeps-served_by Free r c call = keeps-judged c c _ _ (keeps-refl c) (keeps-blocks call _ c)
keeps-served_by AddGate r c call = keeps-judged c c _ _ (keeps-refl c) (keeps-gates _ c)
keeps-served_by RemoveGate r c call = keeps-judged c c _ _ (keeps-refl c) (keeps-gates _ c)
keeps-served_by AddReturnGate r c call = keeps-judged c c _ _ (keeps-refl c) (keeps-gates _ c)
keeps-served_by Query r c call = keeps-judged c c _ _ (keeps-refl c) (keeps-refl c)
keeps-served_by Self r c call = keeps-refl c
keeps-served_by Exchange r c call = keeps-exchange_from r c call _
keeps-served_by Unknown r c call = keeps-refl c

pub keeps-ended : (c : Core) (call : Call) (s : Served) → Keeps c s.core → Keeps c (ended c call s).core
keeps-ended c call s p = search (arith, call.hart, keeps-trans, s.core, keeps-drops)

pub keeps-serve : (r : Reads) (c : Core) (call : Call) → Keeps c (serve r c call).core
keeps-serve r c call = keeps-ended c call (served_by (service call.number) r c call) (keeps-served_by (service call.number) r c call)

-- a served call, in its hart
pub keeps-done : (c : Core) (h : ℕ) (hart : Hart) (s : Served) → Keeps c s.core → Keeps c (done h hart s).core
keeps-done c h hart s p = search (arith, s.stop, s.a0, keeps-trans, s.core, keeps-hart)

pub keeps-served : (r : Reads) (c : Core) (h : ℕ) (hart : Hart) (call : Call) → Keeps c (served r c h hart call).core
keeps-served r c h hart call = keeps-done c h hart (serve r c call) (keeps-serve r c call)

pub keeps-asked : (r : Reads) (c : Core) (h : ℕ) (hart : Hart) (call : Call) (b : Bool) → Keeps c (asked r c h hart call b).core
keeps-asked r c h hart call true = keeps-served r c h hart call
keeps-asked r c h hart call false = keeps-hart h _ c

-- a fault
pub keeps-over_frame : (c : Core) (h : ℕ) (hart : Hart) (frame : Frame) (regs : List ℕ) → Keeps c (over_frame c h hart frame regs)
keeps-over_frame c h hart frame regs = keeps-trans c _ _ (keeps-hart h _ c) (keeps-empties_places h _)

pub keeps-given_up : (c : Core) (h : ℕ) (hart : Hart) (cause : ℕ) (o : Option Frame) → Keeps c (given_up c h hart cause o)
keeps-given_up c h hart cause None = keeps-hart h _ c
keeps-given_up c h hart cause (Some frame) = keeps-over_frame c h hart frame _

pub keeps-killed : (d cause : ℕ) (c : Core) → Keeps c (killed d cause c)
keeps-killed d cause c = search (arith, keeps-module, keeps-refl)

pub keeps-trapped : (c : Core) (h : ℕ) (hart : Hart) (cause value : ℕ) → Keeps c (trapped c h hart cause value).core
keeps-trapped c h hart cause value = search (arith, keeps-trans, hart.domain, keeps-killed, keeps-given_up)

-- an action
pub keeps-acted : (r : Reads) (c : Core) (h : ℕ) (hart : Hart) (action : Action) → Keeps c (acted r c h hart action).core
keeps-acted r c h hart Rests = keeps-refl c
keeps-acted r c h hart Waits = keeps-refl c
keeps-acted r c h hart (Serves call) = keeps-served r c h hart call
keeps-acted r c h hart (Asks call) = keeps-asked r c h hart call (is_served_now c h call)
keeps-acted r c h hart (Traps cause value) = keeps-trapped c h hart cause value
keeps-acted r c h hart Bounces = keeps-hart h _ c
keeps-acted r c h hart (Crosses target) = keeps-trans c _ _ (keeps-hart h _ c) (keeps-empties_places h _)
keeps-acted r c h hart (Returns rd frame) = keeps-over_frame c h hart frame _
keeps-acted r c h hart (Runs regs pc) = keeps-hart h _ c
keeps-acted r c h hart (Writes address size value) = keeps-parts c _ c.modules c.gates _ c.caches refl (length-set c.harts h _) refl

pub keeps-enacted : (r : Reads) (c : Core) (h : ℕ) (d : Decided) → Keeps c (enacted r c h d).core
keeps-enacted r c h d = search (arith, keeps-trans, d.looks, keeps-looked_all, keeps-acted)

pub keeps-heard_first : (c : Core) (h : ℕ) → Keeps c (heard_first c h)
keeps-heard_first c h = elim (is_halted (hart_at c h).status) as (λ b. Keeps c (cond b c (hears h c))) [
  | true ↦ keeps-refl c
  | false ↦ keeps-hears h c
]

-- a turn
pub keeps-turned : (r : Reads) (c : Core) (h : ℕ) → Keeps (counted c) (turned r c h).core
keeps-turned r c h =
    keeps-trans (counted c) (heard_first (counted c) h) _ (keeps-heard_first (counted c) h)
    (keeps-enacted r (heard_first (counted c) h) h (decide r (heard_first (counted c) h) h))

pub size-turned : (r : Reads) (c : Core) (h : ℕ) → (turned r c h).core.size ≡ c.size
size-turned r c h = (keeps-turned r c h).size

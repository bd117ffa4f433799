-- Each step of a turn makes the same of a state and of one without exit codes and caches.
use Rattle.std.proofs.Common.{◌≡◌, ℕ, ◌+◌, ◌-◌, ◌&&◌, Bool, true, false, List, [], ◌∷◌, refl, sym, ◌∙◌, ap, Option, Some, None, arith}
use Rattle.std.proofs.Common.{map as list_map}
use Rattle.std.proofs.Math.ListN.{get_or-map}
use Rattle.std.proofs.lemmas.List.{map-set}
use Rattle.std.specs.List.{list_all, enumerate_from}
use Rattle.mx_words.specs.Bytes.{put_at}
use Rattle.mx_words.specs.Hearing.{nobody, lets_pass}
use Rattle.mx_words.specs.Ranges.{ram_base}
use Rattle.mx_model.specs.declared.values.Call.{Call}
use Rattle.mx_model.specs.declared.values.Frame.{Frame}
use Rattle.mx_model.specs.declared.values.TurnKind.TheVariants as T
use Rattle.mx_model.specs.Checks.{Look, hears, heard_by, looked, looked_all, is_halted, is_ready}
use Rattle.mx_model.specs.Reads.{Reads}
use Rattle.mx_model.specs.Serve.{Served, Service, judged, answers, code, serve, served_by, ended, write_from, written_out, exchange_from}
use Rattle.mx_model.specs.Serve.{exchanged, alloc_from}
use Rattle.mx_model.specs.State.{Core, Hart, Status, Waiting, Halted, no_hart, hart_at, with_hart}
use Rattle.mx_model.specs.Turn.{Action, Rests, Waits, Serves, Asks, Traps, Bounces, Crosses, Returns, Runs, Writes, Decided, Made, acted}
use Rattle.mx_model.specs.Turn.{asked, served, done, trapped, given_up, killed, enacted, decide, by_status, heard_first, counted, turned}
use Rattle.mx_model.specs.Turn.{made}
use Rattle.mx_model.proofs.ValidParts.{hearing}
use Rattle.mx_snapshot.specs.Same.{without_code, bare_hart, bare}

-- harts without exit codes
code-once : (s : Status) → without_code (without_code s) ≡ without_code s
code-once x = grind arith

harts-once : (hs : List Hart) → list_map bare_hart (list_map bare_hart hs) ≡ list_map bare_hart hs
harts-once [] = refl
harts-once (h ∷ hs) =
    ap (λ (s : Status). record h { status = s } ∷ list_map bare_hart (list_map bare_hart hs)) (code-once h.status)
    ∙ ap (λ (xs : List Hart). bare_hart h ∷ xs) (harts-once hs)

pub bare-bare : (c : Core) → bare (bare c) ≡ bare c
bare-bare c = ap (λ (hs : List Hart). record c { harts = hs; caches = [] }) (harts-once c.harts)

hart-bare : (c : Core) (h : ℕ) → hart_at (bare c) h ≡ bare_hart (hart_at c h)
hart-bare c h = get_or-map bare_hart c.harts h no_hart

-- one hart changed
bare-hart : (h : ℕ) (hart : Hart) (c : Core) → bare (with_hart h hart c) ≡ bare (with_hart h hart (bare c))
bare-hart h hart c =
    ap (λ (hs : List Hart). record c { harts = hs; caches = [] }) (search (arith, map-set, c.harts, harts-once))

-- looks change caches alone
bare-looked_all : (r : Reads) (h : ℕ) (looks : List Look) (c : Core) → bare (looked_all r h looks c) ≡ bare c
bare-looked_all r h [] c = refl
bare-looked_all r h (l ∷ ls) c = bare-looked_all r h ls (looked r h c l)

looked_all-bare : (r : Reads) (h : ℕ) (looks : List Look) (c : Core) → looked_all r h looks (bare c) ≡ bare c
looked_all-bare r h [] c = refl
looked_all-bare r h (l ∷ ls) c = looked_all-bare r h ls c

-- what was served, and what a turn made, with a bare core
abbrev bare_served : Served → Served
bare_served s = record s { core = bare s.core }

abbrev pub bare_made : Made → Made
bare_made m = record m { core = bare m.core }

-- the same outcome over two cores that are the same
same-served : (s : Served) (c e : Core) → bare c ≡ bare e → bare_served (record s { core = c }) ≡ bare_served (record s { core = e })
same-served s c e p = ap (λ (x : Core). record s { core = x }) p

same-judged : (c e : Core) (o : Option ℕ) (s t : Served) → bare c ≡ bare e → bare_served s ≡ bare_served t →
    bare_served (judged c o s) ≡ bare_served (judged e o t)
same-judged c e None s t p q = q
same-judged c e (Some n) s t p q = same-served (answers c (code n)) c e p

-- a call over a core and over the bare one
bare-written_out : (r : Reads) (c : Core) (call : Call) → bare_served (written_out r c call) ≡ bare_served (written_out r (bare c) call)
bare-written_out r c call = search (arith, bare-looked_all, bare-bare, same-judged)

bare-write_from : (r : Reads) (c : Core) (call : Call) (o : Option ℕ)
    → bare_served (write_from r c call o) ≡ bare_served (write_from r (bare c) call o)
bare-write_from r c call (Some n) = same-served (answers c (code n)) c (bare c) (sym (bare-bare c))
bare-write_from r c call None = bare-written_out r c call

bare-exchanged : (r : Reads) (c : Core) (call : Call) → bare_served (exchanged r c call) ≡ bare_served (exchanged r (bare c) call)
bare-exchanged r c call = search (arith, call.domain, bare-bare, same-judged)

bare-exchange_from : (r : Reads) (c : Core) (call : Call) (o : Option ℕ)
    → bare_served (exchange_from r c call o) ≡ bare_served (exchange_from r (bare c) call o)
bare-exchange_from r c call (Some n) = same-served (answers c (code n)) c (bare c) (sym (bare-bare c))
bare-exchange_from r c call None = bare-exchanged r c call

-- a change of a core that reads neither harts nor caches
bare-alloc_from : (c : Core) (call : Call) (first : ℕ) (o : Option ℕ)
    → bare_served (alloc_from c call first o) ≡ bare_served (alloc_from (bare c) call first o)
bare-alloc_from c call first (Some n) = ap (λ (x : Core). alloc_from x call first (Some n)) (sym (bare-bare c))
bare-alloc_from c call first None = ap (λ (x : Core). alloc_from x call first None) (sym (bare-bare c))

-- a call judged over both, whose effect is given by what it makes of a core
bare-judged : (c : Core) (o : Option ℕ) (s : Served) (t : Served) → bare_served s ≡ bare_served t
    → bare_served (judged c o s) ≡ bare_served (judged (bare c) o t)
bare-judged c o s t p = same-judged c (bare c) o s t (sym (bare-bare c)) p

bare-by : (k : Service) (r : Reads) (c : Core) (call : Call) → bare_served (served_by k r c call)
    ≡ bare_served (served_by k r (bare c) call)
bare-by x r c call =
    grind (arith, bare-judged, bare-bare, bare-write_from, bare-alloc_from, bare-exchange_from, same-served)

-- at the effect of an announced call the caller drops spans alone
bare-ended : (c : Core) (call : Call) (s : Served) → bare_served (ended c call s) ≡ bare_served s
bare-ended c call s = search (arith, bare_served, call.hart)

bare-serve : (r : Reads) (c : Core) (call : Call) → bare_served (serve r c call) ≡ bare_served (serve r (bare c) call)
bare-serve r c call = grind (arith, bare-ended, bare-by)

-- a served call in its hart
bare-done : (h : ℕ) (hart : Hart) (s : Served) → bare_made (done h hart s) ≡ bare_made (done h hart (bare_served s))
bare-done h hart s = search (arith, s.stop, bare_made, bare_served, bare-hart)

bare-served : (r : Reads) (c : Core) (h : ℕ) (hart : Hart) (call : Call)
    → bare_made (served r c h hart call) ≡ bare_made (served r (bare c) h hart call)
bare-served r c h hart call = grind (arith, bare-done, bare_made, bare-serve)

-- whether the others have heard a call
pub halted-bare : (s : Status) → is_halted (without_code s) ≡ is_halted s
halted-bare x = grind arith

ready-from : (i h : ℕ) (heard : List Bool) (hs : List Hart) →
    list_all (λ (p : ℕ × Hart). lets_pass h heard p.0 (is_halted p.1.status)) (enumerate_from i (list_map bare_hart hs))
    ≡ list_all (λ (p : ℕ × Hart). lets_pass h heard p.0 (is_halted p.1.status)) (enumerate_from i hs)
ready-from i h heard [] = refl
ready-from i h heard (x ∷ xs) =
    ap (λ b. lets_pass h heard i b && list_all (λ (p : ℕ × Hart). lets_pass h heard p.0 (is_halted p.1.status))
    (enumerate_from (i + 1) (list_map bare_hart xs))) (halted-bare x.status)
    ∙ ap (λ b. lets_pass h heard i (is_halted x.status) && b) (ready-from (i + 1) h heard xs)

ready-bare : (c : Core) (h : ℕ) (heard : List Bool) → is_ready (bare c) h heard ≡ is_ready c h heard
ready-bare c h heard = ready-from 0 h heard c.harts

bare-asked : (r : Reads) (c : Core) (h : ℕ) (hart : Hart) (call : Call) (b : Bool)
    → bare_made (asked r c h hart call b) ≡ bare_made (asked r (bare c) h hart call b)
bare-asked r c h hart call true = bare-served r c h hart call
bare-asked r c h hart call false = ap (made T.Called) (bare-hart h (record hart { status = Waiting call nobody }) c)

-- a fault
killed-bare : (d cause : ℕ) (c : Core) → bare (killed d cause c) ≡ killed d cause (bare c)
killed-bare d cause c = search arith

bare-given_up : (c : Core) (h : ℕ) (hart : Hart) (cause : ℕ) (o : Option Frame)
    → bare (given_up c h hart cause o) ≡ bare (given_up (bare c) h hart cause o)
bare-given_up c h hart cause None = bare-hart h (record hart { status = Halted None }) c
bare-given_up c h hart cause (Some frame) = bare-hart h _ c

bare-trapped : (c : Core) (h : ℕ) (hart : Hart) (cause value : ℕ)
    → bare_made (trapped c h hart cause value) ≡ bare_made (trapped (bare c) h hart cause value)
bare-trapped c h hart cause value = grind (arith, bare-given_up, hart.domain, killed-bare)

-- an action
bare-acted : (r : Reads) (c : Core) (h : ℕ) (hart : Hart) (action : Action)
    → bare_made (acted r c h hart action) ≡ bare_made (acted r (bare c) h hart action)
bare-acted r c h hart Rests = ap (made T.Idle) (sym (bare-bare c))
bare-acted r c h hart Waits = ap (made T.Waited) (sym (bare-bare c))
bare-acted r c h hart (Serves call) = bare-served r c h hart call
bare-acted r c h hart (Asks call) = search (arith, bare-asked, bare_made, ready-bare)
bare-acted r c h hart (Traps cause value) = bare-trapped c h hart cause value
bare-acted r c h hart Bounces = ap (made T.Returned) (bare-hart h _ c)
bare-acted r c h hart (Crosses target) = ap (made T.Crossed) (bare-hart h _ c)
bare-acted r c h hart (Returns rd frame) = ap (made T.Returned) (bare-hart h _ c)
bare-acted r c h hart (Runs regs pc) = ap (made T.Ran) (bare-hart h _ c)
bare-acted r c h hart (Writes address size value) = ap (made T.Ran)
    (bare-hart h _ (record c { ram = put_at c.ram (address - ram_base) size value }))

-- what is decided
status-bare : (r : Reads) (c : Core) (h : ℕ) (hart : Hart) (s : Status)
    → by_status r (bare c) h (bare_hart hart) (without_code s) ≡ by_status r c h hart s
status-bare r c h hart x = grind (arith, ready-bare)

decide-bare : (r : Reads) (c : Core) (h : ℕ) → decide r (bare c) h ≡ decide r c h
decide-bare r c h = ap (λ (x : Hart). by_status r (bare c) h x x.status) (hart-bare c h)
    ∙ status-bare r c h (hart_at c h) (hart_at c h).status

-- an action reads no status of its hart
acted-hart : (r : Reads) (c : Core) (h : ℕ) (hart : Hart) (action : Action) → acted r c h (bare_hart hart) action ≡ acted r c h hart action
acted-hart r c h hart x = grind arith

-- a decided action, after its looks
bare-enacted : (r : Reads) (c : Core) (h : ℕ) (d : Decided) → bare_made (enacted r c h d) ≡ bare_made (enacted r (bare c) h d)
bare-enacted r c h d =
    bare-acted r (looked_all r h d.looks c) h (hart_at c h) d.action
    ∙ ap (λ (x : Core). bare_made (acted r x h (hart_at c h) d.action)) (bare-looked_all r h d.looks c
    ∙ sym (looked_all-bare r h d.looks c))
    ∙ ap bare_made (sym (acted-hart r (looked_all r h d.looks (bare c)) h (hart_at c h) d.action))
    ∙ ap (λ (x : Hart). bare_made (acted r (looked_all r h d.looks (bare c)) h x d.action)) (sym (hart-bare c h))

abbrev decided : Reads → Core → ℕ → Made
decided r c h = enacted r c h (decide r c h)

bare-decided : (r : Reads) (c : Core) (h : ℕ) → bare_made (decided r c h) ≡ bare_made (decided r (bare c) h)
bare-decided r c h = bare-enacted r c h (decide r c h) ∙ ap (λ (d : Decided). bare_made (enacted r (bare c) h d)) (sym (decide-bare r c h))

-- hearing
heard-bare : (h : ℕ) (s : Status) → heard_by h (without_code s) ≡ without_code (heard_by h s)
heard-bare h x = grind arith

hearing-bare : (i h : ℕ) (hart : Hart) → hearing h (i, bare_hart hart) ≡ bare_hart (hearing h (i, hart))
hearing-bare i h hart = search (arith, heard-bare)

harts-hearing : (i h : ℕ) (hs : List Hart) →
    list_map (hearing h) (enumerate_from i (list_map bare_hart hs)) ≡ list_map bare_hart (list_map (hearing h) (enumerate_from i hs))
harts-hearing i h [] = refl
harts-hearing i h (x ∷ xs) =
    ap (λ (y : Hart). y ∷ list_map (hearing h) (enumerate_from (i + 1) (list_map bare_hart xs))) (hearing-bare i h x)
    ∙ ap (λ (ys : List Hart). bare_hart (hearing h (i, x)) ∷ ys) (harts-hearing (i + 1) h xs)

hears-bare : (h : ℕ) (c : Core) → hears h (bare c) ≡ bare (hears h c)
hears-bare h c = ap (λ (hs : List Hart). record c { harts = hs; caches = [] }) (harts-hearing 0 h c.harts)

heard_first-bare : (c : Core) (h : ℕ) → heard_first (bare c) h ≡ bare (heard_first c h)
heard_first-bare c h = search (arith, hart-bare, halted-bare, hears-bare)

-- a turn
pub bare-turned : (r : Reads) (c : Core) (h : ℕ) → bare_made (turned r c h) ≡ bare_made (turned r (bare c) h)
bare-turned r c h =
    bare-decided r (heard_first (counted c) h) h
    ∙ ap (λ (x : Core). bare_made (decided r x h)) (sym (heard_first-bare (counted c) h))

-- A turn keeps a valid state valid.
use Rattle.std.proofs.Common.{◌≡◌, ℕ, ◌+◌, ◌-◌, ◌^◌, ◌<◌, ◌≤◌, Bool, true, false, not, cond, nat_lt, ◌==◌, ◌&&◌, ◌||◌, List, [], ◌∷◌}
use Rattle.std.proofs.Common.{length, refl, sym, subst, ap, arith, lit<, Option, Some, None, unwrap_or}
use Rattle.std.specs.Prelude.{IfSome, slice_set, find, reverse}
use Rattle.std.proofs.Math.Nat.{mul-le-mul_left}
use Rattle.std.proofs.Math.ListN.{get_or-eq_default}
use Rattle.std.specs.Option.{option_map_or}
use Rattle.std.proofs.lemmas.Bool.{ltb-true, ltb-false}
use Rattle.std.proofs.lemmas.List.{length-append, length-take}
use Rattle.mx_words.specs.Announced.{is_announced}
use Rattle.mx_words.specs.Bytes.{put_at}
use Rattle.mx_words.specs.Ranges.{ram_base}
use Rattle.mx_model.specs.declared.values.Call.{Call}
use Rattle.mx_model.specs.declared.values.Frame.{Frame}
use Rattle.mx_model.specs.Checks.{hears, is_ready, looked_all, is_halted}
use Rattle.mx_model.specs.Effect.{reg, next}
use Rattle.mx_model.specs.Gates.{most_frames, top, below_top, nearest, saved_stack}
use Rattle.mx_model.specs.Reads.{Reads}
use Rattle.mx_model.specs.State.{Core, Hart, Module, Running, Halted, no_hart, hart_at, with_module, module_at}
use Rattle.mx_model.specs.Turn.{Action, Rests, Waits, Serves, Asks, Traps, Bounces, Crosses, Returns, Runs, Writes}
use Rattle.mx_model.specs.Valid.{IsModule, IsPc, IsRegisters, IsFrame, IsCall, IsHart, IsHome, IsValid}
use Rattle.mx_model.proofs.ListLaws.{all-append, all-reverse, all-take, all-find, all-last, length-put_at, bytes-put_at}
use Rattle.mx_model.proofs.RegisterLaws.{registers-set, registers-written, registers-restored, saved-count, saved-small, small-plus}
use Rattle.mx_model.proofs.RegisterLaws.{pc-next, IsCause}
use Rattle.mx_model.specs.Serve.{Served}
use Rattle.mx_words.specs.Hearing.{is_in, nobody}
use Rattle.mx_model.specs.Turn.{Decided, Made, acted, asked, served, done, trapped, given_up, killed, over_frame, halted, crossed}
use Rattle.mx_model.specs.Turn.{with_regs, enacted, decide, heard_first, counted, turned, is_served_now, by_status, answered, stack_address}
use Rattle.mx_model.specs.Turn.{saved, restored, fault_answer, call_of}
use Rattle.mx_model.proofs.DecideLaws.{IsAction, action-decide, call-of}
use Rattle.mx_model.proofs.KeepLaws.{Keeps, keeps-killed, keeps-serve, keeps-looked_all}
use Rattle.mx_model.proofs.ServeLaws.{IsServed, served-serve}
use Rattle.mx_model.proofs.ValidParts.{valid-turns, valid-hart, valid-module, valid-cache, valid-ram, valid-looked_all, valid-hears}
use Rattle.mx_model.proofs.ValidParts.{home-at}

-- a hart is as valid in a state with as many modules and harts
pub hart-in : (c e : Core) (h : ℕ) (hart : Hart) → Keeps c e → IsHart (length c.modules) (length c.harts) h hart
    → IsHart (length e.modules) (length e.harts) h hart
hart-in c e h hart k p = search arith

-- a hart with other registers and another pc runs
hart-regs : (modules harts h : ℕ) (hart : Hart) (regs : List ℕ) (pc : ℕ) → IsHart modules harts h hart → IsRegisters regs → IsPc pc →
    IsHart modules harts h (record hart { regs = regs; pc = pc; status = Running })
hart-regs modules harts h hart regs pc p q s =
    record { regs = q; pc = s; domain = p.domain; few_frames = p.few_frames; frames = p.frames; status = tt }

hart-halted : (modules harts h : ℕ) (hart : Hart) (o : Option ℕ) → IsHart modules harts h hart
    → IsHart modules harts h (record hart { status = Halted o })
hart-halted modules harts h hart o p =
    record { regs = p.regs; pc = p.pc; domain = p.domain; few_frames = p.few_frames; frames = p.frames; status = tt }

pub valid-regs : (c : Core) (h : ℕ) (hart : Hart) (regs : List ℕ) (pc : ℕ) → IsValid c → IsHart (length c.modules) (length c.harts) h hart
    → IsRegisters regs → IsPc pc →
    IsValid (with_regs h hart regs pc c)
valid-regs c h hart regs pc v p q s = valid-hart c h _ v (hart-regs (length c.modules) (length c.harts) h hart regs pc p q s)

-- the top frame given up
hart-over : (modules harts h : ℕ) (hart : Hart) (frame : Frame) (regs : List ℕ) → IsHart modules harts h hart → IsFrame modules frame
    → IsRegisters regs →
    IsHart modules harts h (record hart {
      regs = restored regs frame.kept;
      pc = frame.back;
      domain = frame.caller;
      frames =
          below_top hart.frames;
      status = Running;
    })
hart-over modules harts h hart frame regs p f r = record {
  regs = registers-restored regs frame.kept r f.small;
  pc = f.back;
  domain = f.caller;
  few_frames = let e = length-take (length hart.frames - 1) hart.frames in let k = p.few_frames in omega (arith, e, k);
  frames = all-take (IsFrame modules) (length hart.frames - 1) hart.frames p.frames;
  status = tt;
}

pub valid-over : (c : Core) (h : ℕ) (hart : Hart) (frame : Frame) (regs : List ℕ) → IsValid c
    → IsHart (length c.modules) (length c.harts) h hart → IsFrame (length c.modules) frame →
    IsRegisters regs → IsValid (over_frame c h hart frame regs)
valid-over c h hart frame regs v p f r = valid-cache _ h _ (valid-hart c h _ v
    (hart-over (length c.modules) (length c.harts) h hart frame regs p f r))

-- a fault
home-dead : (size harts : ℕ) (m : Module) → IsHome size harts m → IsHome size harts (record m { dead = true })
home-dead size harts m p = search arith

pub valid-killed : (d cause : ℕ) (c : Core) → IsValid c → IsValid (killed d cause c)
valid-killed d cause c v = elim ((module_at c d).kills && not (cause == 20)) as (λ b.
    IsValid (cond b (with_module d (record (module_at c d) { dead = true }) c) c)) [
      | true ↦ valid-module c d _ v (home-dead c.size (length c.harts) (module_at c d) (home-at c d v))
      | false ↦ v
    ]

pub valid-given_up : (c : Core) (h : ℕ) (hart : Hart) (cause : ℕ) (o : Option Frame) → IsValid c
    → IsHart (length c.modules) (length c.harts) h hart → IsCause cause →
    IfSome o (IsFrame (length c.modules)) → IsValid (given_up c h hart cause o)
valid-given_up c h hart cause None v p k f = valid-hart c h _ v (hart-halted (length c.modules) (length c.harts) h hart None p)
valid-given_up c h hart cause (Some frame) v p k f =
    valid-over c h hart frame (slice_set hart.regs 10 (fault_answer cause)) v p f
    (registers-set hart.regs 10 (fault_answer cause) (lit< tt) p.regs (let q : fault_answer cause < 2 ^ 32 = omega (arith, k) in q))

top-frame : (modules harts h : ℕ) (hart : Hart) → IsHart modules harts h hart → IfSome (top hart.frames) (IsFrame modules)
top-frame modules harts h hart p = all-last (IsFrame modules) hart.frames None p.frames tt

pub valid-trapped : (c : Core) (h : ℕ) (hart : Hart) (cause value : ℕ) → IsValid c → IsHart (length c.modules) (length c.harts) h hart
    → IsCause cause →
    IsValid (trapped c h hart cause value).core
valid-trapped c h hart cause value v p k =
    let q = hart-in c (killed hart.domain cause c) h hart (keeps-killed hart.domain cause c) p in
    search (arith, valid-given_up, valid-killed, top-frame)

-- a crossing
stack-small : (c : Core) (d h : ℕ) → IsValid c → h < length c.harts → stack_address c d h < 2 ^ 32
stack-small c d h v l = search (arith, home-at, c.harts, mul-le-mul_left)

nearest-small : (modules : ℕ) (o : Option Frame) (n : ℕ) → IfSome o (IsFrame modules) → n < 2 ^ 32
    → unwrap_or (option_map_or (λ f. Some (saved_stack f)) o None) n < 2 ^ 32
nearest-small modules None n p q = q
nearest-small modules (Some f) n p q = p.small 0

stack-after : (c : Core) (h : ℕ) (hart : Hart) (target : ℕ) → IsValid c → IsHart (length c.modules) (length c.harts) h hart
    → h < length c.harts →
    unwrap_or (nearest hart.frames target) (stack_address c target h) < 2 ^ 32
stack-after c h hart target v p l =
    nearest-small (length c.modules) (find (λ (f : Frame). f.caller == target) (reverse hart.frames)) (stack_address c target h)
    (all-find (IsFrame (length c.modules)) (λ f. f.caller == target) (reverse hart.frames)
    (all-reverse (IsFrame (length c.modules)) hart.frames p.frames)) (stack-small c target h v l)

pub valid-crossed : (c : Core) (h : ℕ) (hart : Hart) (target : ℕ) → IsValid c → IsHart (length c.modules) (length c.harts) h hart
    → h < length c.harts →
    IsModule (length c.modules) target → IsPc (reg hart.regs 1) → length hart.frames < most_frames → IsValid (crossed c h hart target)
valid-crossed c h hart target v p l t x few =
    let frame : Frame = record { back = reg hart.regs 1; caller = hart.domain; kept = saved hart.regs } in
    let f : IsFrame (length c.modules) frame = record {
      back = x;
      caller = p.domain;
      count = saved-count hart.regs;
      small =
          saved-small hart.regs p.regs;
    } in
    let stack = unwrap_or (nearest hart.frames target) (stack_address c target h) in
    valid-cache _ h _ (valid-hart c h _ v (record {
      regs = registers-set hart.regs 2 stack (lit< tt) p.regs (stack-after c h hart target v p l);
      pc = p.pc;
      domain = t;
      few_frames = let e = length-append hart.frames (frame ∷ []) in omega (arith, e, few);
      frames = all-append (IsFrame (length c.modules)) hart.frames frame p.frames f;
      status = tt;
    }))

-- a served call
registers-answered : (hart : Hart) (a0 : ℕ) (a1 : Option ℕ) → IsRegisters hart.regs → a0 < 2 ^ 32 → IfSome a1 (λ n. n < 2 ^ 32)
    → IsRegisters (answered hart a0 a1)
registers-answered hart a0 None r p q = registers-set hart.regs 10 a0 (lit< tt) r p
registers-answered hart a0 (Some n) r p q = registers-set (slice_set hart.regs 10 a0) 11 n (lit< tt)
    (registers-set hart.regs 10 a0 (lit< tt) r p) q

pub valid-done : (h : ℕ) (hart : Hart) (s : Served) → IsServed s → IsHart (length s.core.modules) (length s.core.harts) h hart
    → IsValid (done h hart s).core
valid-done h hart s p q = elim s.stop as (λ b. IsValid (cond b (halted h hart (Some s.a0) s.core)
    (with_regs h hart (answered hart s.a0 s.a1) (next hart.pc) s.core))) [
      | true ↦ valid-hart s.core h _ p.core (hart-halted (length s.core.modules) (length s.core.harts) h hart (Some s.a0) q)
      | false ↦ valid-regs s.core h hart (answered hart s.a0 s.a1) (next hart.pc) p.core q
          (registers-answered hart s.a0 s.a1 q.regs p.a0 p.a1) (pc-next hart.pc q.pc)
    ]

pub valid-served : (r : Reads) (c : Core) (h : ℕ) (hart : Hart) (call : Call) → IsValid c
    → IsHart (length c.modules) (length c.harts) h hart → IsCall (length c.modules) h call → h < length c.harts →
    IsValid (served r c h hart call).core
valid-served r c h hart call v p k l = search (arith, valid-done, served-serve, hart-in, keeps-serve)

-- nobody has heard a call that was just announced
nobody-in : (i : ℕ) → is_in nobody i ≡ true → ⊥
nobody-in x e = grind arith

-- a call that isn't served now is announced
announced-later : (x y : Bool) → not x || y ≡ false → x ≡ true
announced-later x y e = grind arith

pub valid-asked : (r : Reads) (c : Core) (h : ℕ) (hart : Hart) (call : Call) (b : Bool) → is_served_now c h call ≡ b → IsValid c
    → IsHart (length c.modules) (length c.harts) h hart →
    call ≡ call_of h hart → h < length c.harts → IsValid (asked r c h hart call b).core
valid-asked r c h hart call true e v p k l =
    valid-served r c h hart call v p (subst (λ (x : Call). IsCall (length c.modules) h x) (sym k)
    (call-of (length c.modules) (length c.harts) h hart p)) l
valid-asked r c h hart call false e v p k l =
    search (arith, valid-hart, nobody-in, announced-later (is_announced call.number) (is_ready c h nobody) e)

-- an action
pub valid-acted : (r : Reads) (c : Core) (h : ℕ) (hart : Hart) (action : Action) → IsValid c
    → IsHart (length c.modules) (length c.harts) h hart → h < length c.harts →
    IsAction (length c.modules) h hart action → IsValid (acted r c h hart action).core
valid-acted r c h hart Rests v p l d = v
valid-acted r c h hart Waits v p l d = v
valid-acted r c h hart (Serves call) v p l d = valid-served r c h hart call v p d l
valid-acted r c h hart (Asks call) v p l d = valid-asked r c h hart call (is_served_now c h call) refl v p d l
valid-acted r c h hart (Traps cause value) v p l d = valid-trapped c h hart cause value v p d
valid-acted r c h hart Bounces v p l d =
    valid-regs c h hart (slice_set hart.regs 10 (fault_answer 20)) (reg hart.regs 1) v p
    (registers-set hart.regs 10 (fault_answer 20) (lit< tt) p.regs (lit< tt)) d
valid-acted r c h hart (Crosses target) v p l d = valid-crossed c h hart target v p l d.0 d.1 d.2
valid-acted r c h hart (Returns rd frame) v p l d = search (arith, valid-over, registers-written, small-plus)
valid-acted r c h hart (Runs regs pc) v p l d = valid-regs c h hart regs pc v p d.0 d.1
valid-acted r c h hart (Writes address size value) v p l d =
    let stored = record c { ram = put_at c.ram (address - ram_base) size value } in
    valid-regs stored h hart hart.regs (next hart.pc)
    (valid-ram c (put_at c.ram (address - ram_base) size value) v (length-put_at size c.ram (address - ram_base) value)
    (bytes-put_at size c.ram (address - ram_base) value v.ram_bytes))
    p p.regs (pc-next hart.pc p.pc)

-- a decided action of a given hart
abbrev enacted_by : Reads → Core → ℕ → Hart → Decided → Made
enacted_by r c h hart d = acted r (looked_all r h d.looks c) h hart d.action

-- a hart that there is makes its turn; one that isn't there is halted
halted-beyond : (c : Core) (h : ℕ) → length c.harts ≤ h → hart_at c h ≡ no_hart
halted-beyond c h p = get_or-eq_default c.harts no_hart p

pub valid-there : (r : Reads) (c : Core) (h : ℕ) → IsValid c → h < length c.harts → IsValid (enacted r c h (decide r c h)).core
valid-there r c h v l = search (arith, keeps-looked_all, valid-acted, valid-looked_all, hart-in, v.harts, action-decide)

pub valid-nobody : (r : Reads) (c : Core) (h : ℕ) (hart : Hart) → hart ≡ no_hart → IsValid c →
    IsValid (enacted_by r c h hart (by_status r c h hart hart.status)).core
valid-nobody r c h hart e v = subst (λ (x : Hart). IsValid (enacted_by r c h x (by_status r c h x x.status)).core) (sym e) v

pub valid-enacted : (r : Reads) (c : Core) (h : ℕ) → IsValid c → IsValid (enacted r c h (decide r c h)).core
valid-enacted r c h v = elim (nat_lt h (length c.harts)) as (λ b. nat_lt h (length c.harts) ≡ b
    → IsValid (enacted r c h (decide r c h)).core) [
      | true ↦ λ e. valid-there r c h v (ltb-true h (length c.harts) e)
      | false ↦ λ e. valid-nobody r c h (hart_at c h) (halted-beyond c h (ltb-false h (length c.harts) e)) v
    ] refl

-- a hart that isn't there hears nothing
not-there : (c : Core) (h : ℕ) → length c.harts ≤ h → is_halted (hart_at c h).status ≡ true
not-there c h p = ap (λ (x : Hart). is_halted x.status) (halted-beyond c h p)

heard-choice : (h : ℕ) (c : Core) (b : Bool) → is_halted (hart_at c h).status ≡ b → IsValid c → IsValid (cond b c (hears h c))
heard-choice h c true e v = v
heard-choice h c false e v = search (arith, valid-hears, ltb-true, not-there, ltb-false)

pub valid-heard_first : (c : Core) (h : ℕ) → IsValid c → IsValid (heard_first c h)
valid-heard_first c h v = heard-choice h c (is_halted (hart_at c h).status) refl v

-- a turn
pub valid-turned : (r : Reads) (c : Core) (h : ℕ) → IsValid c → IsValid (turned r c h).core
valid-turned r c h v = valid-enacted r (heard_first (counted c) h) h (valid-heard_first (counted c) h (valid-turns c (c.turns + 1) v))

-- What each action of a hart stands on, in a valid state.
use Rattle.std.proofs.Common.{◌≡◌, ℕ, ◌%◌, ◌<◌, Bool, true, false, List, length, refl, if◌then◌else◌, Some, ◌⊎◌, inl, inr}
use Rattle.mx_words.specs.declared.perm.Access.TheVariants as A
use Rattle.mx_words.specs.Bytes.{IsSize}
use Rattle.mx_words.specs.Caches.{Cache}
use Rattle.mx_model.specs.declared.values.Call.{Call}
use Rattle.mx_model.specs.Agreement.{Border}
use Rattle.mx_model.specs.Checks.{is_halted, is_ready}
use Rattle.mx_model.specs.Gates.{top}
use Rattle.mx_model.specs.Reads.{Reads}
use Rattle.mx_model.specs.State.{Core, Hart, Status, Running, Waiting, Halted, hart_at}
use Rattle.mx_model.specs.Turn.{Action, Rests, Waits, Serves, Asks, Traps, Bounces, Crosses, Returns, Runs, Writes, call_of, is_denied}
use Rattle.mx_model.specs.Turn.{by_status}
use Rattle.mx_model.specs.Valid.{IsStatus, IsValid}
use Rattle.mx_laws.proofs.Walk.{Leaves, IsPassing, Stopped, SentBack, Passed, IsReturning, Refused, Returned, same-self, walk}
use Rattle.mx_laws.proofs.TurnParts.{apart, there}

-- a store is aligned and allowed; a call is that of the hart; a return is over the top frame; and a call that a hart waited on is as told
abbrev pub IsLawful : (Call → Type 0) → Reads → Core → ℕ → Hart → Action → Type 0
IsLawful V r c h x (Serves call) = V call
IsLawful V r c h x (Asks call) = call ≡ call_of h x
IsLawful V r c h x (Returns rd frame) = top x.frames ≡ Some frame
IsLawful V r c h x (Writes address size value) = IsSize size × (address % size ≡ 0) × (is_denied r c x.domain address A.Write ≡ false)
IsLawful V r c h x action = Unit {0}

-- the call that a hart waits on
abbrev WaitsOn : (Call → Type 0) → Status → Type 0
WaitsOn V Running = Unit {0}
WaitsOn V (Waiting call heard) = V call
WaitsOn V (Halted code) = Unit {0}

lawful-passing : (V : Call → Type 0) (r : Reads) (c : Core) (h : ℕ) (x : Hart) (a : Action) → IsPassing a → IsLawful V r c h x a
lawful-passing V r c h x a (Stopped cause value) = tt
lawful-passing V r c h x a SentBack = tt
lawful-passing V r c h x a (Passed target) = tt

lawful-returning : (V : Call → Type 0) (r : Reads) (c : Core) (h : ℕ) (x : Hart) (a : Action) → IsReturning x a → IsLawful V r c h x a
lawful-returning V r c h x a (Refused cause value) = tt
lawful-returning V r c h x a (Returned rd frame p) = p

lawful-leaves : (V : Call → Type 0) (r : Reads) (c : Core) (h : ℕ) (x : Hart)
    → Leaves r c h x x.frames x.status (λ (k : Border) (a : Action) (l : Border) (b : Action). IsLawful V r c h x a)
lawful-leaves V r c h x = record {
  trap = λ cause value. tt;
  gate = λ word target x1 a b p q. lawful-passing V r c h x a p;
  back = λ target a b p q. lawful-returning V r c h x a p;
  call = refl;
  run = λ regs pc. tt;
  write = λ address size value s a n. (s, a, n);
}

-- a waiting hart serves its call or waits on
lawful-waiting : (V : Call → Type 0) (r : Reads) (c : Core) (h : ℕ) (x : Hart) (call : Call) (b : Bool) → V call →
    IsLawful V r c h x (if b then Serves call else Waits)
lawful-waiting V r c h x call true p = p
lawful-waiting V r c h x call false p = tt

lawful-status : (V : Call → Type 0) (r : Reads) (c : Core) (h : ℕ) (x : Hart) (s : Status) → WaitsOn V s
    → IsLawful V r c h x (by_status r c h x s).action
lawful-status V r c h x Running p = walk r c r c h x x.frames x.status (λ k a l b. IsLawful V r c h x a) (same-self r c x)
    (lawful-leaves V r c h x)
lawful-status V r c h x (Waiting call heard) p = lawful-waiting V r c h x call (is_ready c h heard) p
lawful-status V r c h x (Halted code) p = tt

-- the action of a turn, whose readings are those of the state before
lawful-apart : (V : Call → Type 0) (r : Reads) (c : Core) (h turns : ℕ) (harts : List Hart) (caches : List Cache) (x : Hart) (a : Action) →
    IsLawful V r (apart c turns harts caches) h x a → IsLawful V r c h x a
lawful-apart V r c h turns harts caches x (Serves call) p = p
lawful-apart V r c h turns harts caches x (Asks call) p = p
lawful-apart V r c h turns harts caches x (Returns rd frame) p = p
lawful-apart V r c h turns harts caches x (Writes address size value) p = p
lawful-apart V r c h turns harts caches x Rests p = tt
lawful-apart V r c h turns harts caches x Waits p = tt
lawful-apart V r c h turns harts caches x (Traps cause value) p = tt
lawful-apart V r c h turns harts caches x Bounces p = tt
lawful-apart V r c h turns harts caches x (Crosses target) p = tt
lawful-apart V r c h turns harts caches x (Runs regs pc) p = tt

lawful-decided : (V : Call → Type 0) (r : Reads) (c : Core) (h turns : ℕ) (harts : List Hart) (caches : List Cache)
    → WaitsOn V (hart_at c h).status →
    IsLawful V r c h (hart_at c h) (by_status r (apart c turns harts caches) h (hart_at c h) (hart_at c h).status).action
lawful-decided V r c h turns harts caches p =
    let x = hart_at c h in
    lawful-apart V r c h turns harts caches x (by_status r (apart c turns harts caches) h x x.status).action
    (lawful-status V r (apart c turns harts caches) h x x.status p)

-- any call
abbrev pub AnyCall : Call → Type 0
AnyCall call = Unit {0}

waits-on-any : (s : Status) → WaitsOn AnyCall s
waits-on-any Running = tt
waits-on-any (Waiting call heard) = tt
waits-on-any (Halted code) = tt

pub lawful-any : (r : Reads) (c : Core) (h turns : ℕ) (harts : List Hart) (caches : List Cache) →
    IsLawful AnyCall r c h (hart_at c h) (by_status r (apart c turns harts caches) h (hart_at c h) (hart_at c h).status).action
lawful-any r c h turns harts caches = lawful-decided AnyCall r c h turns harts caches (waits-on-any (hart_at c h).status)

-- in a valid state a hart waits on its own call
abbrev pub OwnCall : ℕ → Hart → Call → Type 0
OwnCall h x call = call ≡ call_of h x

waits-on-own : (harts h : ℕ) (x : Hart) (s : Status) → (is_halted s ≡ false → IsStatus harts h x s) → WaitsOn (OwnCall h x) s
waits-on-own harts h x Running p = tt
waits-on-own harts h x (Waiting call heard) p = (p refl).own
waits-on-own harts h x (Halted code) p = tt

pub lawful-turn : (r : Reads) (c : Core) (h turns : ℕ) (harts : List Hart) (caches : List Cache) → IsValid c →
    IsLawful (OwnCall h (hart_at c h)) r c h (hart_at c h) (by_status r (apart c turns harts caches) h (hart_at c h)
    (hart_at c h).status).action
lawful-turn r c h turns harts caches v =
    lawful-decided (OwnCall h (hart_at c h)) r c h turns harts caches
    (waits-on-own (length c.harts) h (hart_at c h) (hart_at c h).status (λ e. (v.harts h (there c h e)).status))

-- a hart rests, or it is there
present-status : (r : Reads) (c : Core) (h count : ℕ) (x : Hart) (s : Status) → (is_halted s ≡ false → h < count) →
    ((by_status r c h x s).action ≡ Rests) ⊎ (h < count)
present-status r c h count x Running p = inr (p refl)
present-status r c h count x (Waiting call heard) p = inr (p refl)
present-status r c h count x (Halted code) p = inl refl

pub present : (r : Reads) (c : Core) (h turns : ℕ) (harts : List Hart) (caches : List Cache) →
    ((by_status r (apart c turns harts caches) h (hart_at c h) (hart_at c h).status).action ≡ Rests) ⊎ (h < length c.harts)
present r c h turns harts caches = present-status r (apart c turns harts caches) h (length c.harts) (hart_at c h) (hart_at c h).status
    (there c h)

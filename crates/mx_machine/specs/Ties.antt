-- What is true of every machine: its meaning is valid and its caches coherent, and what it keeps in two places agrees.
use Rattle.std.specs.Prelude.{◌≡◌, ℕ, ◌<◌, ◌≤◌, false, length, slice_index_or, Option, Some, None, IfSome}
use Rattle.mx_words.specs.Limits.{most_harts, most_domains}
use Rattle.mx_table.specs.Tables.{IsDomain}
use Rattle.mx_check.specs.declared.flight.Flight.{Flight}
use Rattle.mx_check.specs.Conditions.{HasHeardAll}
use Rattle.mx_check.specs.Harts.{Kept, kept_at}
use Rattle.mx_model.specs.declared.values.Call.{Call}
use Rattle.mx_model.specs.Valid.{IsValid}
use Rattle.mx_coherence.specs.Coherence.{flat_coherent}
use Rattle.mx_supervisor.specs.Parts.{IsSound}
use Rattle.mx_supervisor.specs.Served.{range_of}
use Rattle.mx_machine.specs.declared.hart.Hart.{Hart}
use Rattle.mx_machine.specs.declared.hart.Progress.{Progress}
use Rattle.mx_machine.specs.declared.hart.Progress.TheVariants as G
use Rattle.mx_machine.specs.Harts.{hart_among, own_call, is_halted, is_waiting}
use Rattle.mx_machine.specs.Held.{Held, meaning}

-- a call in flight has a range
pub record HasRange (range : ℕ × ℕ) (f : Flight) : Type 0 where
  pub first : f.first ≡ range.0
  pub count : f.count ≡ range.1

-- a call of this range is in flight
abbrev pub IsFlying : ℕ × ℕ → Option Flight → Type 0
IsFlying range None = ⊥
IsFlying range (Some f) = HasRange range f

-- a hart has a call in flight exactly where it waits, with the range that the call of its registers announces
abbrev pub FliesWhileWaiting : ℕ × ℕ → Option Flight → Progress → Type 0
FliesWhileWaiting range flight G.Running = flight ≡ None
FliesWhileWaiting range flight G.Waiting = IsFlying range flight
FliesWhileWaiting range flight (G.Halted code) = flight ≡ None

-- what is kept of hart h in the machine and in the checker agrees: it is halted in both, its call is in flight where it waits, and the
-- domain that
-- the checker keeps is none or its own
pub record IsTied (range : Call → ℕ × ℕ) (h : ℕ) (x : Hart) (k : Kept) : Type 0 where
  pub halted : k.halted ≡ is_halted x.progress
  pub flight : FliesWhileWaiting (range (own_call h x)) k.flight x.progress
  pub domain : IfSome k.domain (λ d. d ≡ x.domain)

-- the parts of a machine fit one another
pub record Fits (m : Held) : Type 0 where
  pub sound : IsSound m.parts
  pub count : length m.harts ≡ length m.parts.harts
  pub few : length m.harts ≤ most_harts
  pub stacks : length m.stacks ≡ length m.parts.heaps
  pub dead : length m.dead ≡ most_domains
  pub ties : (h : ℕ) → IsTied (range_of m.parts) h (hart_among m.harts h) (kept_at m.parts.harts h)
  pub quiet : m.waiting ≡ false → (h : ℕ) → is_waiting (hart_among m.harts h).progress ≡ false

-- what is true of a machine at every moment between its calls
pub record IsWhole (m : Held) : Type 0 where
  pub valid : IsValid (meaning m).core
  pub coherent : flat_coherent (meaning m)
  pub fits : Fits m

-- hart h, which has heard the others' calls, may act
pub record MayAct (m : Held) (h : ℕ) : Type 0 where
  pub fits : Fits m
  pub there : h < length m.harts
  pub heard : HasHeardAll h m.parts.harts
  pub domain : IsDomain m.parts.maps (hart_among m.harts h).domain

-- hart h may act, and it runs
pub record MayRun (m : Held) (h : ℕ) : Type 0 where
  pub act : MayAct m h
  pub runs : (hart_among m.harts h).progress ≡ G.Running

-- hart h runs in a live domain
pub record RunsAlive (m : Held) (h : ℕ) : Type 0 where
  pub there : h < length m.harts
  pub runs : (hart_among m.harts h).progress ≡ G.Running
  pub alive : slice_index_or m.dead (hart_among m.harts h).domain false ≡ false

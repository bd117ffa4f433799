-- A hart's call that is served: what holds before.
use Rattle.std.specs.Prelude.{◌≡◌, ◌≢◌, ℕ, ◌<◌, ◌≤◌, false, length, IfSome}
use Rattle.mx_words.specs.Limits.{most_harts, most_domains}
use Rattle.mx_table.specs.Tables.{IsDomain}
use Rattle.mx_check.specs.Harts.{kept_at}
use Rattle.mx_model.specs.declared.values.Call.{Call}
use Rattle.mx_supervisor.specs.Parts.{IsSound}
use Rattle.mx_supervisor.specs.Served.{MayServe, range_of}
use Rattle.mx_supervisor.specs.Looks.{BarsAlike}
use Rattle.mx_machine.specs.Harts.{hart_among, is_waiting, own_call}
use Rattle.mx_machine.specs.Held.{Held, rest_of}
use Rattle.mx_machine.specs.Ties.{IsTied}

-- hart h's call may be served: all fits but that the call may be in flight though its hart runs
pub record IsServing (m : Held) (h : ℕ) (call : Call) : Type 0 where
  pub sound : IsSound m.parts
  pub count : length m.harts ≡ length m.parts.harts
  pub few : length m.harts ≤ most_harts
  pub stacks : length m.stacks ≡ length m.parts.heaps
  pub dead : length m.dead ≡ most_domains
  pub there : h < length m.harts
  pub own : call ≡ own_call h (hart_among m.harts h)
  pub domain : IsDomain m.parts.maps call.domain
  pub may : MayServe m.parts call
  pub bars : BarsAlike (rest_of m) m.parts h
  pub running : (kept_at m.parts.harts h).halted ≡ false
  pub kept_domain : IfSome (kept_at m.parts.harts h).domain (λ d. d ≡ (hart_among m.harts h).domain)
  pub others : (i : ℕ) → i ≢ h →
      IsTied (range_of m.parts) i (hart_among m.harts i) (kept_at m.parts.harts i)
  pub quiet : m.waiting ≡ false → (i : ℕ) → is_waiting (hart_among m.harts i).progress ≡ false

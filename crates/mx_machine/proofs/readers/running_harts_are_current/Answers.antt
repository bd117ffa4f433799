use Rattle.std.proofs.Common.{◌≡◌, ℕ, false, subst}
use Rattle.mx_model.specs.Checks.{is_halted}
use Rattle.mx_model.specs.State.{Flat, hart_at}
use Rattle.mx_coherence.specs.Coherence.{KeepsNoStaleSpan, flat_coherent}
use Rattle.mx_machine.specs.Held.{meaning}
use Rattle.mx_machine.proofs.readers.running_harts_are_current.Goals as goal

pub returns-clause-coherent : goal.returns-clause-coherent
returns-clause-coherent g c = subst (λ (f : Flat). flat_coherent f) c.machine.view_is c.machine.invariant.coherent

pub returns-clause-spans : goal.returns-clause-spans
returns-clause-spans g c =
    subst (λ (f : Flat). (h : ℕ) → is_halted (hart_at f.core h).status ≡ false → KeepsNoStaleSpan f h) c.machine.view_is
    (λ h live. c.spans_are_coherent.ensures.maps (meaning c.machine.inside.bare) h c.machine.invariant.coherent live)

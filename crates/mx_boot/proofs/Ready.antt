-- The parts of the machine of a plan without a fault belong together, and it may start with them.
use Rattle.std.proofs.Common.{◌≡◌, ℕ, List, length, None, ap, sym, subst}
use Rattle.std.specs.List.{AllByRecursion}
use Rattle.mx_machine.specs.Starts.{MayStart}
use Rattle.mx_machine.specs.declared.starts.HartStart.{HartStart}
use Rattle.mx_machine.specs.declared.starts.StackArea.{StackArea}
use Rattle.mx_manifest.specs.InRange.{IsInRange}
use Rattle.mx_manifest.specs.Plan.{Said}
use Rattle.mx_model.specs.Valid.{IsGate}
use Rattle.mx_supervisor.specs.Parts.{AreJoined, Parts}
use Rattle.mx_boot.specs.Faults.{first_fault}
use Rattle.mx_boot.specs.Joined.{boot_parts}
use Rattle.mx_boot.specs.Starting.{hart_starts, stack_areas}
use Rattle.mx_boot.proofs.Joining.{gates-hold, parts-joined}
use Rattle.mx_boot.proofs.Starting.{may-start}

pub ready : (plan : Said) (images inputs : List (List ℕ)) → IsInRange plan → first_fault plan images ≡ None
    → (p : Parts) (starts : List HartStart) (stacks : List StackArea)
    → p ≡ boot_parts plan images inputs → starts ≡ hart_starts plan images → stacks ≡ stack_areas plan
    → AreJoined p × (AllByRecursion (IsGate (length p.maps) p.size) p.gates × MayStart p starts stacks)
ready plan images inputs in_range none p starts stacks parts starts-are stacks-are =
    let may : MayStart p starts stacks = subst (λ q. MayStart q starts stacks) (sym parts)
    (subst (λ s. MayStart (boot_parts plan images inputs) s stacks) (sym starts-are)
    (subst (λ k. MayStart (boot_parts plan images inputs) (hart_starts plan images) k) (sym stacks-are)
    (may-start plan images in_range none inputs))) in (
      subst AreJoined (sym parts) (parts-joined plan images in_range none inputs),
      (
        gates-hold plan images p.maps p.size p.gates in_range none (ap (λ q. q.maps) parts) (ap (λ q. q.size) parts)
            (ap (λ q. q.gates) parts),
        may,
      ),
    )

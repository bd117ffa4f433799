-- The plan of a manifest without a fault is in range.
use Rattle.std.proofs.Common.{◌≡◌, ℕ, List, Option, Some, None, Result, Ok, Err, refl, subst, sym}
use Rattle.toml.specs.Data.{Data, Members, table}
use Rattle.mx_manifest.specs.declared.fault.BootFault.{BootFault}
use Rattle.mx_manifest.specs.Faults.{first_fault}
use Rattle.mx_manifest.specs.InRange.{IsInRange}
use Rattle.mx_manifest.specs.Plan.{Said, plan_of}
use Rattle.mx_manifest.proofs.Plans.{in_range}
use Rattle.mx_plan.specs.Manifest.{document, judged, judged_document, planned}

of_fault : (top : Data) (f : Option BootFault) (plan : Said) → first_fault top ≡ f → planned top f ≡ Ok plan → IsInRange plan
of_fault top None plan none e = let same : plan_of top ≡ plan = cc in subst IsInRange same (in_range top none)
of_fault top (Some fault) plan some e = cc

of_document : (d : Option Members) (plan : Said) → judged_document d ≡ Ok plan → IsInRange plan
of_document None plan e = cc
of_document (Some top) plan e = of_fault (table top) (first_fault (table top)) plan refl e

pub judged_in_range : (bytes : List ℕ) (plan : Said) → judged bytes ≡ Ok plan → IsInRange plan
judged_in_range bytes plan e = of_document (document bytes) plan e

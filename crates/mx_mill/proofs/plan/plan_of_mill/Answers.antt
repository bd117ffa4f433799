use Rattle.std.proofs.Common.{◌≡◌, ℕ, List, Some, Ok, IsUtf8, ap, sym, ◌∙◌}
use Rattle.toml.specs.Parse.{parse_document}
use Rattle.mx_plan.specs.Manifest.{judged, judged_document}
use Rattle.mx_plan.proofs.Documents.{document_text}
use Rattle.mx_mill.specs.Plan.{mill_plan}
use Rattle.mx_mill.specs.Table.{mill_table}
use Rattle.mx_mill.proofs.FaultLaws.{mill_judged}
use Rattle.mx_mill.proofs.plan.plan_of_mill.Goals as goal

-- the bytes of the manifest's text are judged to be the plan
judged_is : (k : ℕ) (bytes text written : List ℕ) → IsUtf8 text → bytes ≡ text → text ≡ written
    → parse_document written ≡ Some (mill_table k) → judged bytes ≡ Ok (mill_plan k)
judged_is k bytes text written utf8 same named parsed = ap judged same
    ∙ ap judged_document (document_text text utf8 ∙ ap parse_document named ∙ parsed) ∙ mill_judged k

pub returns-in-Ok : goal.returns-in-Ok
returns-in-Ok c =
    let is = judged_is c.args.k _ _ _ c.as_str.utf8 c.as_bytes.ensures.value c.as_str.ensures.value c.in_ok-text.ensures in
    let both = sym c.in-Ok.ensures ∙ is in
    cc

pub unreachable-requires : goal.unreachable-requires
unreachable-requires c =
    let is = judged_is c.args.k _ _ _ c.as_str.utf8 c.as_bytes.ensures.value c.as_str.ensures.value c.in_ok-text.ensures in
    let refused = rw c.in-Err-Fault.field-0-is at c.in-Err-Fault.ensures in
    let both = sym refused ∙ is in
    cc

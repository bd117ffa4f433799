use Rattle.std.proofs.Common.{ℕ, List, ap, sym, subst, ◌∙◌}
use Rattle.std.proofs.lemmas.Result.{err_from_is_err_and}
use Rattle.mx_snapshot.specs.Fields.{stored_in}
use Rattle.mx_resume.specs.Taking.{Misses}
use Rattle.mx_resume.proofs.Whole.{snapshot-missed, taken-of-plan, taken-refused, taken-resumed, taken-turns}
use Rattle.mx_resume.proofs.fields.read_snapshot.Goals as goal

pub resume-requires : goal.resume-requires
resume-requires c = let e = c.in_ok-fields.ensures in record { snapshot = e.0; valid = e.3; holds = e.4 }

pub returns : goal.returns
returns c =
    let e = c.in_ok-fields.ensures in
    let taken = ap stored_in (sym c.as_slice.ensures) ∙ e.2 in
    let resumed = c.resume.ensures e.0 e.3 e.4 in
    record {
      stored = taken-resumed c.args.bytes.now e.0 e.3 e.1 taken c.resume.result resumed;
      of_plan = taken-of-plan c.args.bytes.now e.0 e.3 e.1 taken c.resume.result resumed;
      turns = taken-turns c.args.bytes.now e.0 e.3 e.1 taken c.resume.result resumed;
      refused = taken-refused c.args.bytes.now e.0 e.3 e.1 taken c.resume.result resumed;
    }

pub returns-in_err-fields-clause-refused : goal.returns-in_err-fields-clause-refused
returns-in_err-fields-clause-refused c =
    let p = err_from_is_err_and c.from_residual.result c.from_residual.ensures.1 in
    let missed : Misses (stored_in c.args.bytes.now) c.in_err-fields.field-0.0 =
    subst (λ (bytes : List ℕ). Misses (stored_in bytes) c.in_err-fields.field-0.0) c.as_slice.ensures c.in_err-fields.ensures in
    rw (p.1, p.2) (snapshot-missed c.args.bytes.now _ missed)

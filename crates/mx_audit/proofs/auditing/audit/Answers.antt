use Rattle.std.proofs.Common.{List, sym, subst, arith}
use Rattle.mx_any.specs.Machines.{meaning}
use Rattle.mx_model.specs.Reads.{flat_reads}
use Rattle.mx_words.specs.declared.perm.Span.{Span}
use Rattle.mx_audit.specs.Sealed.{is_sealed}
use Rattle.mx_audit.specs.SealedRuns.{AreInRam}
use Rattle.mx_audit.proofs.ReportLaws.{found_is_told}
use Rattle.mx_audit.proofs.RunLaws.{in-ram}
use Rattle.mx_audit.proofs.auditing.audit.Goals as goal

pub returns-clause-inside : goal.returns-clause-inside
returns-clause-inside c =
    let f = meaning c.args.machine.now in
    let few = c.any_machine_is_valid.ensures.valid.few_words in
    subst (λ (runs : List Span). AreInRam runs) (sym c.in_ok-sealed.ensures)
    (in-ram (is_sealed (flat_reads f) f.core) 0 f.core.size (omega arith))

pub returns-clause-text : goal.returns-clause-text
returns-clause-text c = λ names.
    found_is_told (meaning c.args.machine.now) (record { live = c.live_domains-live.result; sealed = c.in_ok-sealed.sealed }) names
    c.live_domains-live.ensures c.in_ok-sealed.ensures

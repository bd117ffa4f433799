use Rattle.std.proofs.Common.{ap}
use Rattle.std.proofs.lemmas.Result.{err_from_is_err_and}
use Rattle.mx_report.specs.Lines.{domain_head}
use Rattle.mx_report.specs.Texts.{domain_lines}
use Rattle.mx_tail.proofs.PassLaws.{passes_same, passes_next, passes_stop, passes_last}
use Rattle.mx_report.proofs.maps.put_domain.Goals as goal

pub returns-in_err-put_head : goal.returns-in_err-put_head
unfolding domain_lines
returns-in_err-put_head g c =
    let p = err_from_is_err_and c.from_residual.result c.from_residual.ensures.1 in
    rw (p.1, p.2) (passes_stop _ _ (passes_same (ap (domain_head c.args.domain c.args.name.now) c.dead.ensures) c.in_err-put_head.ensures))

pub returns : goal.returns
unfolding domain_lines
returns g c = passes_next (passes_same (ap (domain_head c.args.domain c.args.name.now) c.dead.ensures) c.in_ok-put_head.ensures)
    (passes_last c.put_maps.ensures)

pub put_maps-requires : goal.put_maps-requires
put_maps-requires g c = search

pub dead-requires : goal.dead-requires
dead-requires g c = search

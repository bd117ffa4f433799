use Rattle.mx_report.proofs.maps.domain_lines.Goals as goal

pub returns : goal.returns
returns g c = c.end_lines.ensures _ _ _ c.new-tail.ensures c.put_domain-put.ensures

pub put_domain-put-requires : goal.put_domain-put-requires
put_domain-put-requires g c = search

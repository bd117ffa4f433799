use Rattle.mx_report.proofs.owners.owner_lines.Goals as goal

pub returns : goal.returns
returns g c = c.end_lines.ensures _ _ _ c.new-tail.ensures c.put_owners-put.ensures

pub put_owners-put-requires : goal.put_owners-put-requires
put_owners-put-requires g c = search

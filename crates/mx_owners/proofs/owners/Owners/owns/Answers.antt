use Rattle.std.proofs.Common.{◌==◌, get_or}
use Rattle.std.proofs.lemmas.Bool.{eq-eqb, eqb-true}
use Rattle.mx_owners.proofs.Ranges.{all_told}
use Rattle.mx_owners.proofs.owners.Owners.owns.Goals as goal

pub returns-clause-all : goal.returns-clause-all
returns-clause-all c =
    let told = c.has_in_a_run.ensures in
    let owners = c.args.self.now in
    all_told (λ w. get_or owners w 0 == c.args.domain) c.args.first c.args.count c.has_in_a_run.result (
      (λ t w le lt. eq-eqb (get_or owners w 0) c.args.domain (told.0 t w le lt)),
      (λ each. told.1 (λ w le lt. eqb-true (get_or owners w 0) c.args.domain (each w le lt))),
    )

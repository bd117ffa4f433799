use Rattle.std.proofs.Common.{◌≡◌, true, nat_le}
use Rattle.std.proofs.lemmas.Bool.{le-leb}
use Rattle.mx_supervisor.proofs.Modules.{modules-number}
use Rattle.mx_supervisor.proofs.supervisor.Supervisor.is_module.Goals as goal

pub returns-then-domain-ge1-clause-module : goal.returns-then-domain-ge1-clause-module
returns-then-domain-ge1-clause-module g c = λ rest.
    let some : nat_le 1 c.args.domain ≡ true = le-leb _ _ c.if-domain-ge1.true in
    rw (modules-number, c.requires.heaps, c.modules.ensures, some)

use Rattle.mx_words.specs.declared.perm.Access.TheVariants.{Execute}
use Rattle.mx_machine.proofs.BusLaws.{allowed-alike}
use Rattle.mx_machine.proofs.bus.HartBus.known.Goals as goal

pub returns : goal.returns
returns g c =
    let t = c.args.self.now.supervisor.checker.tables in
    allowed-alike (g.T.PermTables.size t) (g.T.PermTables.maps t) c.args.self.now.domain c.args.addr Execute c.requires.usable.domain
    ((g.met.T.PermTables.shaped t).each c.args.self.now.domain c.requires.usable.domain) c.allows_fetch.ensures

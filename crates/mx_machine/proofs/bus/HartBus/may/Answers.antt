use Rattle.mx_table.specs.Tables.{map_of}
use Rattle.mx_machine.proofs.BusLaws.{answer-alike, allowed-inside}
use Rattle.mx_machine.proofs.bus.HartBus.may.Goals as goal

pub returns-clause-answer : goal.returns-clause-answer
returns-clause-answer g c =
    let t = c.args.self.now.supervisor.checker.tables in
    answer-alike (g.T.PermTables.size t) (g.T.PermTables.maps t) c.args.self.now.domain c.args.addr c.args.access _ c.requires.usable.domain
    ((g.met.T.PermTables.shaped t).each c.args.self.now.domain c.requires.usable.domain) c.may.ensures.answer

pub returns-clause-inside : goal.returns-clause-inside
returns-clause-inside g c =
    let t = c.args.self.now.supervisor.checker.tables in
    allowed-inside (g.T.PermTables.size t) (map_of (g.T.PermTables.maps t) c.args.self.now.domain) c.args.addr c.args.access _
    ((g.met.T.PermTables.shaped t).each c.args.self.now.domain c.requires.usable.domain) c.may.ensures.answer

pub returns-clause-usable : goal.returns-clause-usable
returns-clause-usable g c = record {
  look = c.may.ensures.again;
  domain = rw c.may.ensures.same_tables.same_maps (record { first = c.requires.usable.domain.first; last = c.requires.usable.domain.last });
  ram = rw c.may.ensures.same_tables.same_size c.requires.usable.ram;
}

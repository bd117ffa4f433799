use Rattle.std.proofs.Common.{length, lit<, refl, ap, ◌∙◌, arith}
use Rattle.mx_supervisor.specs.Parts.{parts_of}
use Rattle.mx_table.specs.Tables.{map_of}
use Rattle.mx_call_tests.proofs.RestLaws.{length-looked, rest-accessed}
use Rattle.mx_call_tests.proofs.played.store.Goals as goal

pub may-requires : goal.may-requires
may-requires g c = (omega arith, (c.requires.ready.rest.may, (lit< tt, c.requires.ready.rest.domain)))

pub returns-then-not-may : goal.returns-then-not-may
returns-then-not-may g c =
    let p = parts_of g.T.PermTables c.args.machine.now in
    let same = c.may.ensures.same_tables in
    rw (same.same_maps, same.same_size, same.same_limit) (record {
      rest = rest-accessed 0 1 p c.may.new.self.harts p.ram c.requires.ready.rest
          (ap length c.may.ensures.harts ∙ length-looked g.row.N p.kind (map_of p.maps 1) 0 5 1 _ p.harts) c.may.ensures.again refl;
      modules = c.requires.ready.modules;
      words = c.requires.ready.words;
    })

pub returns : goal.returns
returns g c =
    let p = parts_of g.T.PermTables c.args.machine.now in
    let same = c.may.ensures.same_tables in
    rw (same.same_maps, same.same_size, same.same_limit) (record {
      rest = rest-accessed 0 1 p c.may.new.self.harts c.store.new.self c.requires.ready.rest
          (ap length c.may.ensures.harts ∙ length-looked g.row.N p.kind (map_of p.maps 1) 0 5 1 _ p.harts) c.may.ensures.again
          c.store.ensures.size;
      modules = c.requires.ready.modules;
      words = c.requires.ready.words;
    })

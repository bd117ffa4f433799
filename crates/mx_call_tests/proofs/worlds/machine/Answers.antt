use Rattle.std.proofs.Common.{arith}
use Rattle.mx_call_tests.proofs.WorldLaws.{joined-start, rest-start}
use Rattle.mx_call_tests.proofs.worlds.machine.Goals as goal

pub new-requires-3 : goal.new-requires-3
new-requires-3 g c =
    let t = c.args.tables in
    rw (c.new-2.ensures, c.in-Ok.ensures) (
      omega arith,
      (
        omega arith,
        (
          joined-start g.T.PermTables.kind (g.T.PermTables.maps t) (g.T.PermTables.size t) (g.T.PermTables.limits t) g.row.N c.words.result
              c.args.owners c.args.gates c.args.heaps c.words.ensures c.requires.owners c.requires.heaps c.requires.areas,
          c.requires.gates,
        ),
      ),
    )

pub returns-clause-rest : goal.returns-clause-rest
returns-clause-rest g c =
    let t = c.args.tables in
    rw (c.new-3.ensures, c.new-2.ensures, c.in-Ok.ensures) (rest-start g.T.PermTables.kind (g.T.PermTables.maps t) (g.T.PermTables.size t)
    (g.T.PermTables.limits t) g.row.N c.words.result
    c.args.owners c.args.gates c.args.heaps c.shape_of.ensures c.words.ensures c.requires.owners c.requires.heaps c.requires.areas)

use Rattle.std.proofs.Common.{◌<◌, length, arith}
use Rattle.mx_plain.proofs.ShapeLaws.{row_long, changed_shape}
use Rattle.mx_plain.proofs.tables.PlainTablesPermTables.apply.Goals as goal

pub change_all-requires-clause-inside : goal.change_all-requires-clause-inside
change_all-requires-clause-inside g c k lt =
    let t = c.args.self.now in
    let below : k < length t.maps.items = omega arith in
    omega (arith, row_long g.K.PlainKind.stands_for t.words t.limit t.maps.items t.kept k below, c.requires.lawful.inside)

pub invariant_of-self : goal.invariant_of-self
invariant_of-self g c =
    let t = c.args.self.now in
    record {
      kept = rw c.change_all.ensures (changed_shape g.K.PlainKind.stands_for t.words t.limit t.maps.items c.args.change.now t.kept
          c.requires.fits);
    }

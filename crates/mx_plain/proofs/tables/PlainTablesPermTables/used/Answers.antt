use Rattle.mx_plain.proofs.ShapeLaws.{row_small}
use Rattle.mx_plain.proofs.tables.PlainTablesPermTables.used.Goals as goal

pub need_of_maps-requires-clause-small : goal.need_of_maps-requires-clause-small
need_of_maps-requires-clause-small g c =
    let t = c.args.self.now in
    rw c.deref.ensures.value (row_small g.K.PlainKind.stands_for t.words t.limit t.maps.items t.kept)

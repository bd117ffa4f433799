use Rattle.mx_plain.proofs.ShapeLaws.{row_small}
use Rattle.mx_plain.proofs.tables.PlainTablesPermTables.fits.Goals as goal

pub need_after-requires-clause-small : goal.need_after-requires-clause-small
need_after-requires-clause-small g c =
    let t = c.args.self.now in
    rw c.deref.ensures.value (row_small g.K.PlainKind.stands_for t.words t.limit t.maps.items t.kept)

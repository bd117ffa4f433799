use Rattle.std.proofs.Common.{◌≡◌, true, map, sym, ◌∙◌, ap}
use Rattle.mx_words.specs.Need.{need, within, fits}
use Rattle.mx_table.specs.Tables.{row_map}
use Rattle.mx_plain.proofs.ShapeLaws.{rows_shape}
use Rattle.mx_plain.proofs.tables.PlainTablesPermTables.build.Goals as goal

pub invariant_of-result : goal.invariant_of-result
invariant_of-result g c =
    let kind = g.K.PlainKind.stands_for in
    let maps = map (row_map c.args.words) c.args.rows.now in
    let r = c.requires in
    let fit : fits kind c.args.limit maps ≡ true =
    ap (λ k. within (need k maps) c.args.limit) (sym c.kind.ensures) ∙ ap (λ n. within n c.args.limit) (sym c.need_of_rows-need.ensures)
    ∙ sym c.is_within.ensures ∙ c.if-not-is_within.false in
    record {
      kept = rw c.in-Ok.ensures (rows_shape kind c.args.words c.args.limit c.args.rows.now r.some_words r.few_words r.some_rows r.few_rows
          r.limited fit);
    }

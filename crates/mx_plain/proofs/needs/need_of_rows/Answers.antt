use Rattle.std.proofs.Common.{◌≡◌, ◌<◌, length, get_or, map, [], sym, ◌∙◌, ap, arith}
use Rattle.std.proofs.lemmas.List.{get_or_read}
use Rattle.mx_table.specs.Tables.{row_map}
use Rattle.mx_plain.proofs.MapLaws.{length-row}
use Rattle.mx_plain.proofs.NeedSums.{need_step, row_map-at, length-row_maps}
use Rattle.mx_plain.proofs.needs.need_of_rows.Goals as goal

pub need_of-requires : goal.need_of-requires
need_of-requires c = omega (arith, length-row c.args.words c.spans-item.result)

pub loop-spans-preserved : goal.loop-spans-preserved
loop-spans-preserved c =
    let i = c.loop-spans.spans-index in
    let maps = map (row_map c.args.words) c.args.rows.now in
    let there : i < length maps = omega (arith, length-row_maps c.args.words c.args.rows.now) in
    let at : get_or maps i [] ≡ row_map c.args.words c.spans-item.result = row_map-at c.args.words c.args.rows.now i (omega arith)
    ∙ ap (row_map c.args.words) (sym (get_or_read c.args.rows.now i c.spans-item.result (omega arith) c.spans-item.is [])) in
    need_step c.args.kind maps i (row_map c.args.words c.spans-item.result) c.loop-spans.needed c.need_of.result c.sum-needed.result there
    at
    c.loop-spans.invariant.0 c.loop-spans.invariant.1 c.need_of.ensures.need c.need_of.ensures.few c.sum-needed.ensures

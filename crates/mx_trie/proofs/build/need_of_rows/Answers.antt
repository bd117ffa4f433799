use Rattle.std.proofs.Common.{◌+◌, [], sym, ap, ◌∙◌, arith}
use Rattle.std.proofs.lemmas.List.{get_or_default}
use Rattle.mx_words.specs.Runs.{page_words, region_words, broken_blocks}
use Rattle.mx_table.specs.Tables.{row_map}
use Rattle.mx_trie.specs.Laying.{spill_lines}
use Rattle.mx_trie.specs.Built.{rows_map}
use Rattle.mx_trie.proofs.BuiltRows.{length-row, need-none, need-more}
use Rattle.mx_trie.proofs.build.need_of_rows.Goals as goal

pub loop-row-init : goal.loop-row-init
loop-row-init g c =
    record {
      told = need-none g.L.LeafForm.kind (rows_map c.args.words c.args.rows.now);
      few_upper = omega arith;
      few_leaf = omega arith;
      few_spill = omega arith;
    }

pub need_of-need-requires-clause-words : goal.need_of-need-requires-clause-words
need_of-need-requires-clause-words g c = sym (length-row c.args.words c.row-item.result)

pub loop-row-preserved : goal.loop-row-preserved
loop-row-preserved g c =
    let i = c.loop-row.invariant in
    let e = c.need_of-need.ensures in
    let same = ap (row_map c.args.words) (c.row-item.is ∙ get_or_default c.args.rows.now c.loop-row.row-index c.row-item.result []
    c.loop-row-test.true) in
    record {
      told = need-more g.L.LeafForm.kind c.loop-row.row-index (rows_map c.args.words c.args.rows.now) c.loop-row.all c.need_of-need.result
          i.told
          (e.upper ∙ ap (λ m. 1 + broken_blocks region_words m) same) (e.leaf ∙ ap (broken_blocks page_words) same) (e.spill
          ∙ ap (spill_lines g.L.LeafForm.kind) same);
      few_upper = omega (arith, i.few_upper, e.few_upper);
      few_leaf = omega (arith, i.few_leaf, e.few_leaf);
      few_spill = omega (arith, i.few_spill, e.few_spill);
    }

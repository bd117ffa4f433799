use Rattle.std.proofs.Common.{◌-◌, arith}
use Rattle.mx_table.proofs.RowLaws.{got}
use Rattle.mx_table.specs.Tables.{no_span}
use Rattle.mx_trie.proofs.RowSpans.{first-round, span-round, gap-round}
use Rattle.mx_trie.proofs.row_view.RowViewView.around.Goals as goal

pub returns-then-next-eq0 : goal.returns-then-next-eq0
returns-then-next-eq0 c =
    search (arith, first-round, c.requires.lawful.0, c.requires.lawful.1, c.requires.word, c.spans_up_to-next.ensures, c.if-next-eq0.true)

pub overflow_add-behind : goal.overflow_add-behind
overflow_add-behind c =
    search (arith, c.spans_up_to-next.result, got, c.get-span.result, c.get-span.result.first, c.requires.lawful.0.inside)

pub returns-then-word-behind : goal.returns-then-word-behind
returns-then-word-behind c =
    let v = c.args.self.now in
    span-round v.words v.row.now c.requires.lawful.0 c.args.word c.spans_up_to-next.result c.requires.lawful.1 c.requires.word
    c.spans_up_to-next.ensures c.get-span.result (omega (arith, c.if-next-eq0.false))
    (got v.row.now (c.spans_up_to-next.result - 1) c.get-span.result no_span c.get-span.ensures) c.if-word-behind.true

pub returns-else-word-behind : goal.returns-else-word-behind
returns-else-word-behind c =
    let v = c.args.self.now in
    gap-round v.words v.row.now c.requires.lawful.0 c.args.word c.spans_up_to-next.result c.requires.lawful.1 c.requires.word
    c.spans_up_to-next.ensures c.get-span.result c.begin_of-end.result (omega (arith, c.if-next-eq0.false))
    (got v.row.now (c.spans_up_to-next.result - 1) c.get-span.result no_span c.get-span.ensures) c.if-word-behind.false
    c.begin_of-end.ensures

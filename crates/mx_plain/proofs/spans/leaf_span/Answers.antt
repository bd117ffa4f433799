use Rattle.std.proofs.Common.{◌+◌, ◌*◌, ◌/◌, arith}
use Rattle.mx_words.proofs.ReachLaws.{within_low, within_round}
use Rattle.mx_plain.proofs.spans.leaf_span.Goals as goal

pub lengthen-requires-clause-line : goal.lengthen-requires-clause-line
lengthen-requires-clause-line c =
    let line = c.args.word / 16 * 16 in
    rw c.line_span-span.ensures (within_low c.args.map.now line (line + 16) c.args.word (omega arith) (omega arith) c.requires.word)

pub lengthen-requires-clause-inside : goal.lengthen-requires-clause-inside
lengthen-requires-clause-inside c =
    let line = c.args.word / 16 * 16 in
    rw c.line_span-span.ensures (within_round c.args.map.now line (line + 16) c.args.word (omega arith) (omega arith)
    c.requires.word).inside

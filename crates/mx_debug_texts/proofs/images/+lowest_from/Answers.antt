use Rattle.std.proofs.Common.{◌+◌, drop, ap, sym, ◌∙◌, arith}
use Rattle.std.proofs.lemmas.List.{drop_all}
use Rattle.mx_debug_texts.specs.Documents.{lowest_from}
use Rattle.mx_debug_texts.proofs.WindowLaws.{drop_got}
use Rattle.mx_debug_texts.proofs.images.+lowest_from.Goals as goal

pub returns-then-i-len : goal.returns-then-i-len
returns-then-i-len t c =
    let all = c.args.segments.now in
    c.lowest_from.ensures ∙ ap (λ a. lowest_from a (drop (c.args.i + 1) all)) c.min.ensures
    ∙ sym (ap (lowest_from c.args.lowest) (drop_got all c.args.i c.get.result c.get.ensures))

pub returns-else-i-len : goal.returns-else-i-len
returns-else-i-len t c =
    sym (ap (lowest_from c.args.lowest) (drop_all c.args.i c.args.segments.now (omega arith)))

use Rattle.std.proofs.Common.{◌≡◌, get_or, take, sym, ◌∙◌, ap, arith}
use Rattle.std.proofs.lemmas.List.{take_all}
use Rattle.std.proofs.lemmas.Option.{get_or_from_slice_get}
use Rattle.mx_words.specs.Newest.{laid_at}
use Rattle.mx_table.specs.Tables.{granted}
use Rattle.mx_plain.proofs.MapLaws.{row_word, row_past, newest_of, newest_more}
use Rattle.mx_plain.proofs.maps.RowWordMap.at.Goals as goal

pub loop-i-preserved : goal.loop-i-preserved
loop-i-preserved c =
    let row = c.args.self.now.spans.now in
    let got : c.get.result ≡ get_or row c.loop-i.i c.get.result =
    sym (get_or_from_slice_get row c.loop-i.i c.get.result c.get.result c.get.ensures) in
    c.laid_at-perm.ensures
    ∙ ap (λ p. laid_at c.args.word p (granted c.get.result)) c.loop-i.invariant
    ∙ ap (λ s. laid_at c.args.word (newest_of (take c.loop-i.i row) c.args.word) (granted s)) got
    ∙ newest_more row c.loop-i.i c.args.word c.get.result (omega arith)

pub returns-after-loop-i : goal.returns-after-loop-i
returns-after-loop-i c =
    let v = c.args.self.now in
    let whole : take c.loop-i.i v.spans.now ≡ v.spans.now = take_all c.loop-i.i v.spans.now (omega arith) in
    c.loop-i.invariant ∙ ap (λ row. newest_of row c.args.word) whole ∙ sym (row_word v.words v.spans.now c.args.word c.if-word-self.true)

pub returns-else-word-self : goal.returns-else-word-self
returns-else-word-self c = sym (row_past c.args.self.now.words c.args.self.now.spans.now c.args.word c.if-word-self.false)

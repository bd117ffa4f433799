use Rattle.std.proofs.Common.{◌<◌, length, sym, ◌∙◌, ap, arith}
use Rattle.mx_words.specs.Rights.{perm_at}
use Rattle.mx_words.specs.Newest.{laid_at}
use Rattle.mx_words.specs.Changes.{grant_of, changed_map}
use Rattle.mx_plain.proofs.MapLaws.{laid_word, changed_past}
use Rattle.mx_plain.proofs.maps.ChangedWordMap.at.Goals as goal

pub returns-then-word-words : goal.returns-then-word-words
returns-then-word-words c =
    let v = c.args.self.now in
    c.at-older.ensures ∙ changed_past v.first v.count v.given v.map.now c.args.word (omega arith)

pub returns-in-Some : goal.returns-in-Some
returns-in-Some c =
    let v = c.args.self.now in
    let below : c.args.word < length v.map.now = omega arith in
    c.laid_at.ensures
    ∙ ap (λ p. laid_at c.args.word p (grant_of v.first v.count c.in-Some.perm)) c.at-older.ensures
    ∙ sym (laid_word v.map.now (grant_of v.first v.count c.in-Some.perm) c.args.word below)
    ∙ sym (ap (λ o. perm_at (changed_map v.first v.count o v.map.now) c.args.word) c.in-Some.is)

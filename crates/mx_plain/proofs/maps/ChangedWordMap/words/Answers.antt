use Rattle.std.proofs.Common.{sym, ◌∙◌}
use Rattle.mx_words.proofs.MapLaws.{length-changed_map}
use Rattle.mx_plain.proofs.maps.ChangedWordMap.words.Goals as goal

pub returns : goal.returns
returns c = let v = c.args.self.now in c.words.ensures ∙ sym (length-changed_map v.first v.count v.given v.map.now)

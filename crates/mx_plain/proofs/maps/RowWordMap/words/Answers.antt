use Rattle.std.proofs.Common.{sym}
use Rattle.mx_plain.proofs.MapLaws.{length-row}
use Rattle.mx_plain.proofs.maps.RowWordMap.words.Goals as goal

pub returns : goal.returns
returns c = sym (length-row c.args.self.now.words c.args.self.now.spans.now)

use Rattle.std.proofs.Common.{◌∙◌}
use Rattle.mx_plain.proofs.MapLaws.{put_is}
use Rattle.mx_plain.proofs.maps.PlainMap.lay.Goals as goal

pub returns : goal.returns
returns c = c.put.ensures ∙ put_is c.args.first c.args.count c.args.perm c.args.self.now c.requires

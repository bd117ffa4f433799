use Rattle.std.proofs.Common.{sym, ◌∙◌}
use Rattle.mx_segments.specs.Shape.{length-maps_in}
use Rattle.mx_segments.proofs.segments.SegmentsPermTables.modules.Goals as goal

pub returns : goal.returns
returns c = let t = c.args.self.now in c.count.ensures.count ∙ sym (length-maps_in t.words t.leaf t.chains.lists)

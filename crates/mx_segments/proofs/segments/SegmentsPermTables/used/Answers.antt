use Rattle.std.proofs.Common.{◌≡◌, ℕ, ◌+◌, ◌-◌, ◌*◌, sum_by, ap, arith}
use Rattle.mx_words.specs.declared.tables.Need.{Need}
use Rattle.mx_words.specs.Need.{segment_frames}
use Rattle.mx_segments.specs.Kept.{maps_in}
use Rattle.mx_segments.specs.Shape.{need_leaf}
use Rattle.mx_segments.proofs.segments.SegmentsPermTables.used.Goals as goal

abbrev leaf_need : ℕ → Need
leaf_need n = record { upper = 0; leaf = n; spill = 0 }

pub returns : goal.returns
returns c =
    let t = c.args.self.now in
    let need = need_leaf t.words t.leaf t.chains.lists t.kept.sound in
    let counted = t.kept.store.counted in
    let leaf : t.limit.leaf + 2 * c.count.result - c.free_frames.result ≡ sum_by segment_frames (maps_in t.words t.leaf t.chains.lists) =
    omega (arith, need, counted, t.kept.room, c.count.ensures.count, c.free_frames.ensures) in
    ap leaf_need leaf

use Rattle.std.proofs.Common.{ℕ, nat_le, sum_by, sym, ◌∙◌, ap}
use Rattle.mx_words.specs.Need.{segment_frames}
use Rattle.mx_words.specs.Changes.{changed_from}
use Rattle.mx_table.specs.Change.{given}
use Rattle.mx_segments.specs.Kept.{maps_in}
use Rattle.mx_segments.proofs.KeptLaws.{within_test, need_changed}
use Rattle.mx_segments.proofs.segments.SegmentsPermTables.fits.Goals as goal

pub returns : goal.returns
returns c =
    let t = c.args.self.now in
    let change = c.args.change.now in
    let need = need_changed t.words t.leaf t.chains.lists change.first change.count (given change) in
    ap (λ (n : ℕ). nat_le n t.limit.leaf) (c.need_after.ensures ∙ sym need)
    ∙ sym (within_test (sum_by segment_frames (changed_from change.first change.count (given change) 1
    (maps_in t.words t.leaf t.chains.lists))) t.limit)

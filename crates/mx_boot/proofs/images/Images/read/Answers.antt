use Rattle.std.proofs.Common.{◌∙◌}
use Rattle.std.proofs.lemmas.List.{take_all, take_more}
use Rattle.mx_boot.proofs.images.Images.read.Goals as goal

pub files-preserved : goal.files-preserved
files-preserved c =
    let more = take_more c.args.images.now c.files.image-index c.image-item.result c.files-test.true in
    cc (more, c.in_ok-add.ensures)

pub invariant_of-result : goal.invariant_of-result
invariant_of-result c = c.read-2.ensures

pub returns : goal.returns
returns c = c.files.invariant ∙ take_all c.files.image-index c.args.images.now c.files-test.false

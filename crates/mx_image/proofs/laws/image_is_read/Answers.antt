use Rattle.mx_image.proofs.Images.{reads-image, reads-bytes, reads-memory}
use Rattle.mx_image.proofs.laws.image_is_read.Goals as goal

pub returns-clause-read : goal.returns-clause-read
returns-clause-read c = reads-image

pub returns-clause-file : goal.returns-clause-file
returns-clause-file c = reads-bytes

pub returns-clause-memory : goal.returns-clause-memory
returns-clause-memory c = reads-memory

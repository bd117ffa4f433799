use Rattle.mx_image.proofs.Images.{finds-labels, finds-no-other}
use Rattle.mx_image.proofs.laws.labels_are_found.Goals as goal

pub returns-clause-found : goal.returns-clause-found
returns-clause-found c = finds-labels

pub returns-clause-missing : goal.returns-clause-missing
returns-clause-missing c = finds-no-other

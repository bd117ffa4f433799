use Rattle.mx_debug.proofs.ToldLaws.{want_changes_no_other}
use Rattle.mx_debug.proofs.laws.want_changes_no_other.Goals as goal

pub returns : goal.returns
returns c = want_changes_no_other

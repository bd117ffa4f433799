use Rattle.mx_debug.proofs.ToldLaws.{console_is_told}
use Rattle.mx_debug.proofs.laws.console_is_told.Goals as goal

pub returns : goal.returns
returns c = console_is_told

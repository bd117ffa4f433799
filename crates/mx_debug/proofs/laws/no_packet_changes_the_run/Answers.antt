use Rattle.mx_debug.proofs.ToldLaws.{no_packet_changes_the_run}
use Rattle.mx_debug.proofs.laws.no_packet_changes_the_run.Goals as goal

pub returns : goal.returns
returns c = no_packet_changes_the_run

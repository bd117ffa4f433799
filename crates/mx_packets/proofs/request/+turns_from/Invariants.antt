use Rattle.std.proofs.Common.{length}
use Rattle.mx_packets.proofs.request.+turns_from.Given as goal

abbrev pub decreases-turns_from : goal.decreases-turns_from
decreases-turns_from l = length l.text.now

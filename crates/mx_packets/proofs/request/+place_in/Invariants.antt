use Rattle.std.proofs.Common.{length}
use Rattle.mx_packets.proofs.request.+place_in.Given as goal

abbrev pub decreases-place_in : goal.decreases-place_in
decreases-place_in l = length l.text.now

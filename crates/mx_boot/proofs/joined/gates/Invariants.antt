use Rattle.std.proofs.Common.{◌≡◌, take}
use Rattle.mx_boot.proofs.joined.gates.Given as goal

abbrev pub invariant-gates : goal.invariant-gates
invariant-gates l = l.gates ≡ take l.gate-index l.all

use Rattle.std.proofs.Common.{◌≡◌, take, map}
use Rattle.mx_commands.proofs.running.names.Given as goal

abbrev pub invariant-modules : goal.invariant-modules
invariant-modules l = map (λ name. name.now) l.names.items ≡ take l.i l.kept.names

use Rattle.std.proofs.Common.{◌≡◌, length}
use Rattle.std.specs.List.{AllByRecursion}
use Rattle.mx_machine_tests.specs.Small.{IsBegin}
use Rattle.mx_machine_tests.proofs.small.starts_of.Given as goal

abbrev pub invariant-loop-i : goal.invariant-loop-i
invariant-loop-i l = record { count : length l.all ≡ l.i; each : AllByRecursion (IsBegin l.modules) l.all }

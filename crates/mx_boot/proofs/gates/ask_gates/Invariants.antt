use Rattle.std.proofs.Common.{take, Ok}
use Rattle.std.specs.List.{flat_map}
use Rattle.mx_boot.specs.Laid.{AreAsked}
use Rattle.mx_boot.specs.Areas.{homes}
use Rattle.mx_boot.specs.Entries.{requests_of}
use Rattle.mx_boot.proofs.gates.ask_gates.Given as goal

abbrev pub invariant-modules : goal.invariant-modules
invariant-modules l = AreAsked l.areas l.fn.gates.items (flat_map (requests_of) (take l.i (homes l.plan l.images))) l.gates.items (Ok tt)

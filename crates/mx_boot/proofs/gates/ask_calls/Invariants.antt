use Rattle.std.proofs.Common.{take, Ok}
use Rattle.std.specs.List.{flat_map}
use Rattle.mx_boot.specs.Laid.{AreAsked}
use Rattle.mx_boot.specs.Seen.{seen}
use Rattle.mx_boot.specs.Entries.{call_requests}
use Rattle.mx_boot.proofs.gates.ask_calls.Given as goal

abbrev pub invariant-gates : goal.invariant-gates
invariant-gates l = AreAsked l.areas l.fn.gates.items (flat_map (call_requests (seen l.home)) (take l.k l.home.plan.now.gates))
    l.gates.items (Ok tt)

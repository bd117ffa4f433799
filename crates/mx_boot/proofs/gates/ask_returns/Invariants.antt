use Rattle.std.proofs.Common.{take, Ok}
use Rattle.std.specs.List.{flat_map}
use Rattle.mx_boot.specs.Laid.{AreAsked}
use Rattle.mx_boot.specs.Seen.{seen}
use Rattle.std.proofs.Common.{◌∷◌, []}
use Rattle.mx_boot.specs.Entries.{return_request}
use Rattle.mx_boot.proofs.gates.ask_returns.Given as goal

abbrev pub invariant-returns : goal.invariant-returns
invariant-returns l = AreAsked l.areas l.fn.gates.items (flat_map (λ entry. return_request (seen l.home) entry ∷ [])
    (take l.k l.home.plan.now.returns)) l.gates.items (Ok tt)

use Rattle.std.proofs.Common.{take, Ok}
use Rattle.std.specs.List.{flat_map}
use Rattle.mx_boot.specs.Laid.{AreAsked}
use Rattle.mx_boot.specs.Seen.{seen}
use Rattle.std.proofs.Common.{◌∷◌, []}
use Rattle.mx_manifest.specs.declared.fault.Key.TheVariants as key
use Rattle.mx_boot.specs.Entries.{request}
use Rattle.mx_boot.proofs.gates.ask_call.Given as goal

abbrev pub invariant-names : goal.invariant-names
invariant-names l = AreAsked l.areas l.fn.gates.items (flat_map (λ domain. request (seen l.home) key.Gates l.gate.entry domain ∷ [])
    (take l.k l.gate.from)) l.gates.items (Ok tt)

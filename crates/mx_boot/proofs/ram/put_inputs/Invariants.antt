use Rattle.std.proofs.Common.{◌≡◌, take, fold, length}
use Rattle.std.specs.List.{enumerate_from, flat_map}
use Rattle.mx_boot.specs.Areas.{placed_input}
use Rattle.mx_boot.specs.Boot.{with_content}
use Rattle.mx_boot.proofs.ram.put_inputs.Given as goal

abbrev pub invariant-modules : goal.invariant-modules
invariant-modules l =
    (l.ram ≡ fold with_content l.fn.ram (flat_map (placed_input l.inputs) (take l.i (enumerate_from 0 l.plan.modules))))
    × (length l.ram ≡ length l.fn.ram)

use Rattle.std.proofs.Common.{◌≡◌, ◌*◌, take, fold, replicate, length}
use Rattle.std.specs.List.{flat_map}
use Rattle.mx_boot.specs.Areas.{contents, homes}
use Rattle.mx_boot.specs.Boot.{with_content}
use Rattle.mx_boot.specs.Faults.{ram_words}
use Rattle.mx_boot.proofs.ram.ram.Given as goal

abbrev pub invariant-modules : goal.invariant-modules
invariant-modules l =
    (l.ram ≡ fold with_content (replicate (4 * ram_words l.plan) 0) (flat_map contents (take l.i (homes l.plan l.images))))
    × (length l.ram ≡ 4 * ram_words l.plan)

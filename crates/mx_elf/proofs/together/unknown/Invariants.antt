use Rattle.std.proofs.Common.{◌≡◌, List, ℕ, Some, None, take, bytes_eq, if◌then◌else◌}
use Rattle.std.specs.List.{list_any}
use Rattle.mx_elf.specs.Known.{known_in}
use Rattle.mx_elf.proofs.together.unknown.Given as goal

abbrev pub invariant-names : goal.invariant-names
invariant-names l = (q : List ℕ) → known_in l.values q ≡ (if list_any (λ n. bytes_eq q n.now) (take l.name-index l.names) then Some None
    else None)

use Rattle.std.proofs.Common.{◌≡◌, ◌==◌, ◌+◌, ◌-◌, ◌*◌}
use Rattle.std.specs.Prelude.{find}
use Rattle.mx_elf.specs.Field.{places}
use Rattle.mx_elf.specs.Header.{sh_type}
use Rattle.mx_elf.proofs.symbols.find_symbol_table.Given as goal

abbrev pub invariant-headers : goal.invariant-headers
invariant-headers l =
    find (λ at. sh_type l.bytes at == 2) (places (l.first + 40 * l.k) 40 (l.count - l.k))
    ≡ find (λ at. sh_type l.bytes at == 2) (places l.first 40 l.count)

use Rattle.std.proofs.Common.{◌≡◌, ◌+◌, ◌-◌, ◌*◌, ◌/◌, length}
use Rattle.std.specs.Prelude.{find}
use Rattle.mx_elf.specs.Field.{places}
use Rattle.mx_elf.specs.Symbol.{is_defined}
use Rattle.mx_elf.proofs.symbols.find_named.Given as goal

abbrev pub invariant-symbols : goal.invariant-symbols
invariant-symbols l =
    find (is_defined l.symbols l.strings l.name) (places (0 + 16 * l.k) 16 (l.count - l.k))
    ≡ find (is_defined l.symbols l.strings l.name) (places 0 16 (length l.symbols / 16))

use Rattle.std.proofs.Common.{sym, ◌∙◌, rules, ◌≡◌, ◌+◌, ◌*◌, ◌==◌, false}
use Rattle.mx_elf.specs.Header.{sh_type}
use Rattle.mx_elf.proofs.Places.{find-later}
use Rattle.mx_elf.proofs.symbols.find_symbol_table.Goals as goal

pub headers-preserved : goal.headers-preserved
headers-preserved c =
    let bytes = c.args.bytes.now in
    let other : (sh_type bytes (c.args.first + 40 * c.headers.k) == 2) ≡ false = search rules in
    sym (find-later (λ at. sh_type bytes at == 2) c.args.first 40 c.args.count c.headers.k c.headers-test.true other) ∙ c.headers.invariant

use Rattle.std.proofs.Common.{sym, ◌∙◌, rules, ◌≡◌, ◌+◌, ◌*◌, false}
use Rattle.mx_elf.specs.Symbol.{is_defined}
use Rattle.mx_elf.proofs.Places.{find-later}
use Rattle.mx_elf.proofs.symbols.find_named.Goals as goal

pub symbols-preserved : goal.symbols-preserved
symbols-preserved c =
    let test = is_defined c.args.symbols.now c.args.strings.now c.args.name.now in
    let other : test (0 + 16 * c.symbols.k) ≡ false = search rules in
    sym (find-later test 0 16 _ c.symbols.k c.symbols-test.true other) ∙ c.symbols.invariant

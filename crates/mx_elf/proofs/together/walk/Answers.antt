use Rattle.std.proofs.Common.{◌+◌, ◌*◌, ◌/◌, ◌∙◌, ap, arith, length, option_map}
use Rattle.std.specs.Prelude.{find}
use Rattle.mx_elf.specs.Header.{st_value}
use Rattle.mx_elf.specs.Known.{known_in, value_here}
use Rattle.mx_elf.specs.Symbol.{is_defined, value_of}
use Rattle.mx_elf.proofs.Places.{places-first}
use Rattle.mx_elf.proofs.Several.{rest_of, rest-next, starts, walked}
use Rattle.mx_elf.proofs.together.walk.Goals as goal

pub symbols-init : goal.symbols-init
unfolding value_of
symbols-init c = λ q.
    let symbols = c.args.symbols.now in
    let strings = c.args.strings.now in
    starts _ (value_of symbols strings q) (known_in c.args.values.now q) (c.requires.unknown q)
    (ap (λ ps. option_map (st_value symbols) (find (is_defined symbols strings q) ps)) (places-first 0 16 (length symbols / 16)))

pub symbols-preserved : goal.symbols-preserved
symbols-preserved c = λ q.
    let symbols = c.args.symbols.now in
    let strings = c.args.strings.now in
    let k = c.symbols.k in
    walked (value_here symbols strings q (16 * k)) (rest_of symbols strings _ (k + 1) q) _ (known_in c.symbols.values q) _
    (rest-next symbols strings q _ k (16 * k) c.symbols-test.true (omega arith)) (c.note.ensures q)
    ∙ c.symbols.invariant q

use Rattle.std.proofs.Common.{◌∙◌, ap, sym, is_some, bytes_eq}
use Rattle.std.specs.List.{list_any}
use Rattle.mx_elf.specs.Known.{known_in}
use Rattle.mx_elf.specs.Symbol.{symbol_of}
use Rattle.mx_elf.proofs.Several.{told-known, found-names, found-values}
use Rattle.mx_elf.proofs.together.Symbols.find.Goals as goal

pub returns-clause-names : goal.returns-clause-names
returns-clause-names c = λ name.
    ap is_some (told-known name c.look_up.new.values.entries)
    ∙ found-names (list_any (λ n. bytes_eq name n.now) c.args.names.now) (symbol_of c.args.bytes.now name)
    (known_in c.in_ok-values.values name) _
    (c.in_ok-values.ensures name) (c.look_up.ensures name)

pub returns-clause-values : goal.returns-clause-values
returns-clause-values c = λ name value told.
    found-values (symbol_of c.args.bytes.now name) value (known_in c.in_ok-values.values name)
    (sym (c.look_up.ensures name) ∙ sym (told-known name c.look_up.new.values.entries) ∙ told)

use Rattle.std.proofs.Common.{◌≡◌, ◌∙◌, ap, sym, Some, rules}
use Rattle.mx_elf.specs.Known.{known_in, told_of}
use Rattle.mx_elf.proofs.Several.{told-known}
use Rattle.mx_elf.proofs.together.Symbols.value.Goals as goal

pub returns-in-Some : goal.returns-in-Some
returns-in-Some c =
    let name = c.args.name.now in
    let values = c.self.inside.values in
    let known : known_in values name ≡ Some c.in-Some.value.now = search rules in
    c.requires name c.in-Some.value.now (ap (λ told. told_of told name) (sym c.self.view_is) ∙ told-known name values.entries ∙ known)

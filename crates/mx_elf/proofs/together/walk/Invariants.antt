use Rattle.std.proofs.Common.{◌≡◌, List, ℕ, option_map}
use Rattle.std.specs.Option.{option_or}
use Rattle.mx_elf.specs.Known.{known_in}
use Rattle.mx_elf.specs.Symbol.{value_of}
use Rattle.mx_elf.proofs.Several.{rest_of}
use Rattle.mx_elf.proofs.together.walk.Given as goal

-- with the symbols that are left each name gets the value that it is to have
abbrev pub invariant-symbols : goal.invariant-symbols
invariant-symbols l = (q : List ℕ) →
    option_map (λ v. option_or v (rest_of l.symbols l.strings l.count l.k q)) (known_in l.values q)
    ≡ option_map (λ _. value_of l.symbols l.strings q) (known_in l.fn.values q)

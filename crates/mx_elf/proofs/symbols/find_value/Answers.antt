use Rattle.std.proofs.Common.{◌≡◌, ℕ, Bool, true, false, ◌&&◌, not, ◌==◌, List, drop, refl, sym, ap, ◌∙◌}
use Rattle.std.specs.Prelude.{option_map}
use Rattle.std.specs.List.{list_any}
use Rattle.mx_elf.specs.Header.{st_name, st_value, st_shndx}
use Rattle.mx_elf.specs.Symbol.{value_of, is_defined}
use Rattle.mx_elf.proofs.Names.{never_begins, find-fails}
use Rattle.mx_elf.proofs.symbols.find_value.Goals as goal

pub returns-then-contains : goal.returns-then-contains
unfolding value_of
returns-then-contains c =
    let symbols : List ℕ = c.args.symbols.now in
    let strings : List ℕ = c.args.strings.now in
    let name : List ℕ = c.args.name.now in
    let told = c.contains.ensures in
    let zero_in : list_any (λ b. b == 0) name ≡ true = sym told.value ∙ c.if-contains.true in
    sym (ap (option_map (st_value symbols)) (find-fails (is_defined symbols strings name) _ (λ at.
    ap (λ t. not (st_shndx symbols at == 0) && t) (never_begins (drop (st_name symbols at) strings) name zero_in)
    ∙ and-false (not (st_shndx symbols at == 0)))))
  where
    and-false : (t : Bool) → (t && false) ≡ false
    and-false true = refl
    and-false false = refl

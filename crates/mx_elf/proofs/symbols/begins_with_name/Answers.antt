use Rattle.std.proofs.Common.{◌≡◌, ℕ, Bool, true, false, ◌&&◌, ◌==◌, nat_lt, length, get_or, take, List, refl, sym, ap, ◌∙◌, arith}
use Rattle.std.specs.Str.{bytes_eq}
use Rattle.std.proofs.lemmas.Bool.{lt-ltb, le-ltb, ne_eqb, eq-eqb}
use Rattle.mx_elf.proofs.Names.{begins_told}
use Rattle.mx_elf.proofs.symbols.begins_with_name.Goals as goal

pub returns-then-name-strings : goal.returns-then-name-strings
returns-then-name-strings c =
    let strings : List ℕ = c.args.strings.now in
    let name : List ℕ = c.args.name.now in
    sym (begins_told strings name c.requires ∙ ap (λ t. t && ((get_or strings (length name) 0 == 0)
    && bytes_eq (take (length name) strings) name)) (le-ltb (length name) (length strings) (omega (arith, c.if-name-strings.true))))

pub returns-then-strings-name-ne0 : goal.returns-then-strings-name-ne0
returns-then-strings-name-ne0 c =
    let strings : List ℕ = c.args.strings.now in
    let name : List ℕ = c.args.name.now in
    sym (begins_told strings name c.requires ∙ (rw (ne_eqb (get_or strings (length name) 0) 0 c.if-strings-name-ne0.true)
    (and-false (nat_lt (length name) (length strings)))))
  where
    and-false : (t : Bool) → (t && false) ≡ false
    and-false true = refl
    and-false false = refl

pub returns : goal.returns
returns c =
    let strings : List ℕ = c.args.strings.now in
    let name : List ℕ = c.args.name.now in
    let told = c.eq.ensures in
    sym (begins_told strings name c.requires ∙ (rw (
      lt-ltb (length name) (length strings) (omega (arith, c.if-name-strings.false)),
      eq-eqb
          (get_or strings (length name) 0) 0 (let e : get_or strings (length name) 0 ≡ 0 = omega (arith, c.if-strings-name-ne0.false) in e),
    )
    (sym told)))

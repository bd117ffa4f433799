-- The first row of two lists of rows.
use Rattle.std.proofs.Common.{◌≡◌, true, false, cond, List, [], ◌∷◌, ◌++◌, refl}
use Rattle.std.specs.Prelude.{Some}
use Rattle.std.specs.Option.{option_or}
use Rattle.mx_words.specs.FirstRow.{Row, first_row}

pub first_row-append : {A : Type 0} (xs ys : List (Row A)) → first_row (xs ++ ys) ≡ option_or (first_row xs) (first_row ys)
first_row-append [] ys = refl
first_row-append (x ∷ xs) ys =
    elim x.0 as (λ b. cond b (Some x.1) (first_row (xs ++ ys)) ≡ option_or (cond b (Some x.1) (first_row xs)) (first_row ys)) [
      | true ↦ refl
      | false ↦ first_row-append xs ys
    ]

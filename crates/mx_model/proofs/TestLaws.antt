-- The tests of a call: rows of which none applies, and a place of which a test says that it was found.
use Rattle.std.proofs.Common.{◌≡◌, ℕ, true, false, ◌∷◌, List, refl, if◌then◌else◌, Option, Some, None, unwrap_or, is_none}
use Rattle.std.specs.Prelude.{IfSome}
use Rattle.mx_words.specs.FirstRow.{first_row, Row}

pub first-passes : {A : Type 0} (t : Row A) (ts : List (Row A)) → first_row (t ∷ ts) ≡ None → (t.0 ≡ false) × (first_row ts ≡ None)
first-passes t ts e = elim t.0 as (λ b. (if b then Some t.1 else first_row ts) ≡ None → (b ≡ false) × (first_row ts ≡ None)) [
  | true ↦ λ f. absurd (let q : ⊥ = cc in q)
  | false ↦ λ f. (refl, f)
] e

pub found-some : (o : Option ℕ) (P : ℕ → Type 0) → IfSome o P → is_none o ≡ false → P (unwrap_or o 0)
found-some None P p e = absurd (let q : ⊥ = cc in q)
found-some (Some n) P p e = p

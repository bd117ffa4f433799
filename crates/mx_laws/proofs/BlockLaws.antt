-- Where a live block lies.
use Rattle.std.proofs.Common.{◌≡◌, ℕ, ◌+◌, ◌≤◌, true, false, cond, ◌==◌, List, [], ◌∷◌, refl, arith, Option, Some, None}
use Rattle.std.specs.Prelude.{IfSome, find}
use Rattle.std.specs.Option.{option_map}
use Rattle.std.proofs.lemmas.Bool.{eqb-true}
use Rattle.mx_words.specs.FirstFit.{Area, AreApart, block_words}
use Rattle.mx_words.proofs.AreaLaws.{apart_ordered}

-- a live block lies in its heap area
pub block-in : (low high first : ℕ) (bs : List Area) → AreApart low high bs
    → IfSome (block_words bs first) (λ n. (low ≤ first) × (first + n ≤ high))
block-in low high first [] p = tt
block-in low high first (b ∷ bs) p = elim (b.first == first) as
    (λ t. (b.first == first) ≡ t → IfSome (option_map (λ (x : Area). x.count) (cond t (Some b) (find (λ (x : Area). x.first == first) bs)))
    (λ n. (low ≤ first) × (first + n ≤ high))) [
      | true ↦ λ t. let e = eqb-true b.first first t in let l = p.0 in let h = apart_ordered (b.first + b.count) high bs p.2 in
          (omega (arith, e, l), omega (arith, e, h))
      | false ↦ λ t. lower (block_words bs first) (block-in (b.first + b.count) high first bs p.2)
    ] refl
  where
    lower : (o : Option ℕ) → IfSome o (λ n. (b.first + b.count ≤ first) × (first + n ≤ high))
        → IfSome o (λ n. (low ≤ first) × (first + n ≤ high))
    lower None q = tt
    lower (Some n) q = let l = p.0 in let m = q.0 in (omega (arith, l, m), q.1)

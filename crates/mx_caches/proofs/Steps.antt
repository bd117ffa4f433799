-- One step of a loop that maps a list in place.
use Rattle.std.proofs.Common.{◌≡◌, ℕ, ◌+◌, ◌<◌, List, ◌++◌, length, get_or, set, take, drop, map, sym, ap, ◌∙◌, arith, length-append}
use Rattle.std.proofs.Common.{length-drop}
use Rattle.std.proofs.lemmas.List.{length-map, length-take-le, set-get_or, get_or_default}
use Rattle.std.proofs.lemmas.List.Edits.{map_over_more}

module _ {X : Type 0} (f : X → X) (xs ys : List X) (i : ℕ) (d x : X) (within : i < length xs) (so_far : ys ≡ map f (take i xs) ++ drop i xs)
    (read : get_or ys i d ≡ x) where
  -- the list keeps its length
  same_length : length ys ≡ length xs
  same_length = ap length so_far ∙ length-append (map f (take i xs)) (drop i xs)
      ∙ omega (arith, length-map (take i xs) f, length-take-le i xs (omega arith), length-drop i xs)

  -- what stands at the place, at any default
  read_there : x ≡ get_or ys i x
  read_there = sym read ∙ get_or_default ys i d x (omega (arith, same_length))

  -- the place is written
  pub map_over_write : (y : X) → f x ≡ y → set ys i y ≡ map f (take (i + 1) xs) ++ drop (i + 1) xs
  map_over_write y there = ap (λ z. set ys i z) (sym there) ∙ map_over_more f xs ys i x within so_far read_there

  -- an element that the function leaves as it is needs no write
  pub map_over_same : f x ≡ x → ys ≡ map f (take (i + 1) xs) ++ drop (i + 1) xs
  map_over_same there = sym (set-get_or ys i d) ∙ ap (λ z. set ys i z) read ∙ map_over_write x there

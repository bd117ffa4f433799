-- The names of modules, one after another.
use Rattle.std.proofs.Common.{◌≡◌, ℕ, ◌+◌, List, [], ◌∷◌, ◌++◌, take, map, slice_get, Some, Bor, sym, ap, ◌∙◌}
use Rattle.std.proofs.lemmas.List.{map-append, take_more}
use Rattle.std.proofs.lemmas.Option.{slice_get_within, get_or_from_slice_get}

pub names_more : (xs : List (Bor (List ℕ))) (names : List (List ℕ)) (i : ℕ) (x : Bor (List ℕ)) → slice_get names i ≡ Some x.now
    → map (λ (name : Bor (List ℕ)). name.now) xs ≡ take i names
    → map (λ (name : Bor (List ℕ)). name.now) (xs ++ x ∷ []) ≡ take (i + 1) names
names_more xs names i x is so_far =
    let within = slice_get_within names i x.now is in
    let more : take (i + 1) names ≡ take i names ++ x.now ∷ [] = take_more names i x.now within
    ∙ ap (λ (y : List ℕ). take i names ++ y ∷ []) (get_or_from_slice_get names i x.now x.now is) in
    map-append (λ (name : Bor (List ℕ)). name.now) xs (x ∷ []) ∙ ap (λ (ys : List (List ℕ)). ys ++ x.now ∷ []) so_far ∙ sym more

-- Names as a set keeps them, beside the list that they stand for.
use Rattle.std.proofs.Common.{◌≡◌, ℕ, suc, List, [], ◌∷◌, length, map, position, Option, Bor, refl, ap, ◌∙◌}
use Rattle.std.specs.List.{list_any, position_or_len}
use Rattle.std.specs.Option.{option_map_or}
use Rattle.std.specs.Str.{bytes_eq}
use Rattle.mx_manifest.specs.Faults.{domain_of}

abbrev pub texts : List (Bor (List ℕ)) → List (List ℕ)
texts keys = map (λ k. k.now) keys

pub any_text : (name : List ℕ) (keys : List (Bor (List ℕ))) → list_any (λ k. bytes_eq name k.now) keys
    ≡ list_any (bytes_eq name) (texts keys)
any_text name [] = refl
any_text name (k ∷ keys) = rw (any_text name keys) refl

place : (name : List ℕ) (keys : List (Bor (List ℕ))) → position_or_len (λ k. bytes_eq name k.now) keys
    ≡ position_or_len (bytes_eq name) (texts keys)
place name [] = refl
place name (k ∷ keys) = rw (place name keys) refl

count : (keys : List (Bor (List ℕ))) → length keys ≡ length (texts keys)
count [] = refl
count (k ∷ keys) = ap suc (count keys)

position_text : (name : List ℕ) (keys : List (Bor (List ℕ))) → position (λ k. bytes_eq name k.now) keys
    ≡ position (bytes_eq name) (texts keys)
position_text name keys = rw (place name keys, count keys) refl

pub domain_in : (name : List ℕ) (keys : List (Bor (List ℕ))) (names : List (List ℕ)) (found : Option ℕ) → texts keys ≡ names
    → found ≡ position (λ k. bytes_eq name k.now) keys
    → option_map_or suc found 0 ≡ domain_of names name
domain_in name keys names found same is =
    ap (λ o. option_map_or suc o 0) (is ∙ position_text name keys) ∙ ap (λ ns. domain_of ns name) same

-- Entries of one word each give back the list that they were made of.
use Rattle.std.proofs.Common.{◌≡◌, ℕ, zero, suc, ◌+◌, ◌<◌, Bool, List, [], ◌∷◌, length, get_or, refl, sym, ◌∙◌, ap, subst, arith}
use Rattle.std.proofs.Common.{if◌then◌else◌}
use Rattle.std.proofs.Common.{map as list_map}
use Rattle.std.specs.List.{AllByRecursion, enumerate_from}
use Rattle.std.proofs.lemmas.List.{ext_get_or}
use Rattle.mx_words.specs.declared.perm.Perm.{Perm}
use Rattle.mx_words.specs.declared.perm.Perm.TheVariants as P
use Rattle.mx_words.specs.Newest.{Laid, map, newest, owners}
use Rattle.mx_words.proofs.OverlayLaws.{covers_behind, covers_below, covers_in, length-map_of, length-owners, map-at, owners-at}
use Rattle.mx_model.specs.State.{Core, Flat, flat}
use Rattle.mx_model.specs.Valid.{IsFlat}
use Rattle.mx_runs.specs.FlatStates.{by_words, state_of, word_entry}

-- the entries of a list whose first value belongs to word k
abbrev entries : {A : Type 0} → ℕ → List A → List (Laid A)
entries k xs = list_map word_entry (enumerate_from k xs)

-- below the first word the default stands
newest-below : {A : Type 0} (d : A) (xs : List A) (k i : ℕ) → i < k → newest d (entries k xs) i ≡ d
newest-below d [] k i l = refl
newest-below d (x ∷ xs) k i l =
    ap (λ (b : Bool). newest (if b then x else d) (entries (k + 1) xs) i) (covers_below k 1 i l)
    ∙ newest-below d xs (k + 1) i (omega (arith, l))

newest-at : {A : Type 0} (d : A) (xs : List A) (k j : ℕ) → newest d (entries k xs) (k + j) ≡ get_or xs j d
newest-at d [] k j = refl
newest-at d (x ∷ xs) k zero =
    let e : k + 0 ≡ k = omega arith in
    ap (λ (i : ℕ). newest d (entries k (x ∷ xs)) i) e
    ∙ ap (λ (b : Bool). newest (if b then x else d) (entries (k + 1) xs) k)
    (covers_in k 1 k (omega arith) (omega arith)) ∙ newest-below x xs (k + 1) k (omega arith)
newest-at d (x ∷ xs) k (suc j) =
    let e : k + suc j ≡ k + 1 + j = omega arith in
    ap (λ (b : Bool). newest (if b then x else d) (entries (k + 1) xs) (k + suc j))
    (covers_behind k 1 (k + suc j) (omega arith))
    ∙ ap (λ (i : ℕ). newest d (entries (k + 1) xs) i) e ∙ newest-at d xs (k + 1) j

newest-word : {A : Type 0} (d : A) (xs : List A) (i : ℕ) → newest d (by_words xs) i ≡ get_or xs i d
newest-word d xs i = let e : 0 + i ≡ i = omega arith in ap (λ (j : ℕ). newest d (by_words xs) j) (sym e)
    ∙ newest-at d xs 0 i

-- a map, and owners
map-by_words : (m : List Perm) (size : ℕ) → length m ≡ size → map (by_words m) size ≡ m
map-by_words m size e =
    let n = length-map_of (by_words m) size in
    ext_get_or P.None (map (by_words m) size) m (n ∙ sym e)
    (λ i l. map-at (by_words m) size i P.None (subst (λ (k : ℕ). i < k) n l) ∙ newest-word P.None m i)

owners-by_words : (os : List ℕ) (size : ℕ) → length os ≡ size → owners (by_words os) size ≡ os
owners-by_words os size e =
    let n = length-owners (by_words os) size in
    ext_get_or 0 (owners (by_words os) size) os (n ∙ sym e)
    (λ i l. owners-at (by_words os) size i 0 (subst (λ (k : ℕ). i < k) n l) ∙ newest-word 0 os i)

maps-by_words : (maps : List (List Perm)) (size : ℕ) → AllByRecursion (λ (m : List Perm). length m ≡ size) maps →
    list_map (λ grants. map grants size) (list_map by_words maps) ≡ maps
maps-by_words [] size p = refl
maps-by_words (m ∷ ms) size p =
    ap (λ (x : List Perm). x ∷ list_map (λ grants. map grants size) (list_map by_words ms)) (map-by_words m size p.0)
    ∙ ap (λ (xs : List (List Perm)). m ∷ xs) (maps-by_words ms size p.1)

abbrev whole : Core → List (List Perm) → List ℕ → Flat
whole core maps os = record { core = core; maps = maps; owners = os }

pub flat-state_of : (f : Flat) → IsFlat f → flat (state_of f) ≡ f
flat-state_of f p =
    ap (λ (maps : List (List Perm)). whole f.core maps (owners (by_words f.owners) f.core.size))
    (maps-by_words f.maps f.core.size p.whole_maps)
    ∙ ap (λ (os : List ℕ). whole f.core f.maps os) (owners-by_words f.owners f.core.size p.owners)

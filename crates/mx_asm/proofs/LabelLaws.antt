-- Laws of labels in the map.
use Rattle.std.proofs.Common.{◌≡◌, ℕ, Bool, true, false, cond, List, [], ◌∷◌, ◌++◌, map, Option, Some, option_map, is_some, refl, ap, sym}
use Rattle.std.proofs.Common.{◌∙◌, bytes_eq}
use Rattle.std.specs.Borrow.{Bor}
use Rattle.std.specs.Map.{lookup}
use Rattle.std.proofs.lemmas.Slice.Eq.{bytes_eq-Decides}
use Rattle.indexmap.specs.IndexMap.{insert_entry}
use Rattle.mx_words.proofs.OptionLaws.{is_some-map}
use Rattle.mx_asm.specs.declared.labels.LabelPlace.{LabelPlace}
use Rattle.mx_asm.specs.Labels.{definition_of, with_name}
use Rattle.mx_asm.specs.LabelViews.{definition_view, entry_view}

-- what the map finds is the first definition of the name
found_at : (name : List ℕ) (e : Bor (List ℕ) × LabelPlace) (es : List (Bor (List ℕ) × LabelPlace))
    → option_map (definition_view name) (lookup (λ k. bytes_eq name k.now) es) ≡ definition_of (map entry_view es) name
    → (b : Bool) → bytes_eq name e.0.now ≡ b
    → option_map (definition_view name) (cond b (Some e.1) (lookup (λ k. bytes_eq name k.now) es))
    ≡ cond b (Some (entry_view e)) (definition_of (map entry_view es) name)
found_at name e es rest true same = ap (λ n. Some (definition_view n e.1)) ((bytes_eq-Decides name e.0.now).0 same)
found_at name e es rest false same = rest

pub lookup-labels : (name : List ℕ) (es : List (Bor (List ℕ) × LabelPlace))
    → option_map (definition_view name) (lookup (λ k. bytes_eq name k.now) es) ≡ definition_of (map entry_view es) name
unfolding definition_of
lookup-labels name [] = refl
lookup-labels name (e ∷ es) = found_at name e es (lookup-labels name es) (bytes_eq name e.0.now) refl

-- a new name goes last
new_at : (k : Bor (List ℕ)) (v : LabelPlace) (e : Bor (List ℕ) × LabelPlace) (es : List (Bor (List ℕ) × LabelPlace))
    → (is_some (definition_of (map entry_view es) k.now) ≡ false
    → map entry_view (insert_entry (λ x y. bytes_eq x.now y.now) es k v) ≡ map entry_view es ++ entry_view (k, v) ∷ [])
    → (b : Bool) → is_some (cond b (Some (entry_view e)) (definition_of (map entry_view es) k.now)) ≡ false
    → map entry_view (cond b ((e.0, v) ∷ es) (e ∷ insert_entry (λ x y. bytes_eq x.now y.now) es k v)) ≡ map entry_view (e ∷ es)
    ++ entry_view (k, v) ∷ []
new_at k v e es rest true new = cc
new_at k v e es rest false new = ap (λ l. entry_view e ∷ l) (rest new)

pub insert-labels : (k : Bor (List ℕ)) (v : LabelPlace) (es : List (Bor (List ℕ) × LabelPlace))
    → is_some (definition_of (map entry_view es) k.now) ≡ false
    → map entry_view (insert_entry (λ x y. bytes_eq x.now y.now) es k v) ≡ map entry_view es ++ entry_view (k, v) ∷ []
unfolding definition_of
insert-labels k v [] new = refl
insert-labels k v (e ∷ es) new = new_at k v e es (insert-labels k v es) (bytes_eq k.now e.0.now) new

-- where the map finds nothing, the name is added
pub with_name-new : (k : Bor (List ℕ)) (v : LabelPlace) (es : List (Bor (List ℕ) × LabelPlace)) (found : Option LabelPlace)
    → option_map (definition_view k.now) found ≡ definition_of (map entry_view es) k.now → is_some found ≡ false
    → map entry_view (insert_entry (λ x y. bytes_eq x.now y.now) es k v) ≡ with_name (Some k.now) v.address v.line (map entry_view es)
unfolding with_name
with_name-new k v es found told none =
    let new : is_some (definition_of (map entry_view es) k.now) ≡ false = sym (ap is_some told) ∙ is_some-map (definition_view k.now) found
    ∙ none in
    rw new (insert-labels k v es new)

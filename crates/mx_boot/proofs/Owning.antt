-- Owners at boot.
use Rattle.std.proofs.Common.{◌≡◌, ◌⊎◌, inl, inr, ℕ, Bool, true, false, cond, ◌||◌, List, [], ◌∷◌, refl}
use Rattle.std.specs.List.{AllByRecursion, list_any}
use Rattle.mx_words.specs.Newest.{Laid, laid_at, newest}
use Rattle.mx_words.specs.Ranges.{covers}

-- whether an entry covers a word
abbrev pub is_over : {A : Type 0} → ℕ → Laid A → Bool
is_over i e = covers e.first e.count i

-- where each entry that covers a word has one value, and there is one, or the default is that value, it is the word's
pub newest_is : {A : Type 0} (default value : A) (entries : List (Laid A)) (i : ℕ)
    → AllByRecursion (λ e. is_over i e ≡ true → e.value ≡ value) entries
    → (list_any (is_over i) entries ≡ true) ⊎ (default ≡ value) → newest default entries i ≡ value
newest_is default value [] i all some = elim some [ inl h ↦ absurd (let q : ⊥ = cc in q) | inr h ↦ h ]
newest_is {A} default value (e ∷ rest) i all some =
    newest_is (laid_at i default e) value rest i all.1
    (elim (is_over i e) as (λ b. is_over i e ≡ b → ((b || list_any (is_over i) rest) ≡ true) ⊎ (default ≡ value)
    → (list_any (is_over i) rest ≡ true) ⊎ (cond b e.value default ≡ value)) [
      | true ↦ λ h k. inr (all.0 h)
      | false ↦ λ h k. k
    ] refl some)

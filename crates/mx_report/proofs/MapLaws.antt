-- Rights on the words of a map, found from span to span.
use Rattle.std.proofs.Common.{◌≡◌, ◌≢◌, ℕ, suc, ◌+◌, ◌-◌, ◌<◌, ◌≤◌, ◌⊎◌, inl, inr, Bool, true, false, not, ◌||◌, List, [], ◌∷◌, length}
use Rattle.std.proofs.Common.{get_or, take, drop, refl, ap, ◌∙◌, arith, length-take, length-drop, get_or-take, get_or-drop}
use Rattle.std.proofs.lemmas.Bool.{cases_lt}
use Rattle.mx_words.specs.declared.perm.Perm.{Perm}
use Rattle.std.specs.List.{list_any}
use Rattle.std.proofs.lemmas.List.Folds.{list_any_at}
use Rattle.mx_words.specs.declared.perm.Perm.TheVariants as P
use Rattle.mx_words.specs.declared.perm.Span.{Span}
use Rattle.mx_words.specs.Rights.{same, perm_at}
use Rattle.mx_words.proofs.ReachLaws.{IsUniformRound}
use Rattle.mx_words.proofs.RunLaws.{same_eq}
use Rattle.mx_report.specs.Texts.{has_rights}

-- some of a part's words has a permission, and none has
pub some_right : (m : List Perm) (first count w : ℕ) → first + count ≤ length m → first ≤ w → w < first + count → perm_at m w ≢ P.None
    → has_rights m first count ≡ true
some_right m first count w fits lo hi ne =
    let n = length-take count (drop first m) in
    let d = length-drop first m in
    let place : first + (w - first) ≡ w = omega arith in
    let at : get_or (take count (drop first m)) (w - first) P.None ≡ perm_at m w =
    get_or-take count (drop first m) (w - first) P.None (omega arith) ∙ get_or-drop first m (w - first) P.None ∙ ap (perm_at m) place in
    list_any_at (λ p. not (same p P.None)) (take count (drop first m)) (w - first) P.None (omega (arith, n, d))
    (ap (λ p. not (same p P.None)) at ∙ ap not (other (same (perm_at m w) P.None) refl))
  where
    other : (b : Bool) → same (perm_at m w) P.None ≡ b → same (perm_at m w) P.None ≡ false
    other false e = e
    other true e = absurd (ne (same_eq (perm_at m w) P.None e))

none_at : (xs : List Perm) → ((i : ℕ) → i < length xs → get_or xs i P.None ≡ P.None) → list_any (λ p. not (same p P.None)) xs ≡ false
none_at [] h = refl
none_at (x ∷ xs) h =
    ap (λ p. not (same p P.None) || list_any (λ q. not (same q P.None)) xs) (h 0 (omega arith))
    ∙ none_at xs (λ i lt. h (suc i) (omega arith))

pub no_right : (m : List Perm) (first count : ℕ) → ((w : ℕ) → first ≤ w → w < first + count → perm_at m w ≡ P.None)
    → has_rights m first count ≡ false
no_right m first count none =
    none_at (take count (drop first m)) (λ i lt.
    let n = length-take count (drop first m) in
    get_or-take count (drop first m) i P.None (omega (arith, n)) ∙ get_or-drop first m i P.None
    ∙ none (first + i) (omega arith) (omega (arith, n)))

-- the words of a span without a permission, after others
pub none_more : (m : List Perm) (first word : ℕ) (s : Span) → ((w : ℕ) → first ≤ w → w < word → perm_at m w ≡ P.None)
    → IsUniformRound m word s → s.perm ≡ P.None →
    (w : ℕ) → first ≤ w → w < s.first + s.count → perm_at m w ≡ P.None
none_more m first word s none r e w lo hi = by (cases_lt w word)
  where
    by : (w < word) ⊎ (word ≤ w) → perm_at m w ≡ P.None
    by (inl lt) = none w lo lt
    by (inr le) = let left = r.left in r.alike w (omega arith) hi ∙ e

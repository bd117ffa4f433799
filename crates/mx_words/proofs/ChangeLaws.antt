-- Laws on the maps of all domains after a change.
use Rattle.std.proofs.Common.{◌≡◌, ℕ, zero, suc, ◌+◌, ◌<◌, ◌≤◌, ◌⊎◌, inl, inr, true, false, List, [], ◌∷◌, length, get_or, Option, Some}
use Rattle.std.proofs.Common.{None, refl, sym, ap, ◌∙◌, arith}
use Rattle.std.proofs.lemmas.Bool.{cases_lt}
use Rattle.mx_words.specs.declared.perm.Perm.{Perm}
use Rattle.mx_words.specs.declared.perm.Perm.TheVariants as P
use Rattle.mx_words.specs.Changes.{changed_map, changed_from, grant_of}
use Rattle.mx_words.specs.Ranges.{covers}
use Rattle.mx_words.specs.Rights.{perm_at}
use Rattle.mx_words.proofs.OverlayLaws.{covers_in, laid_behind, laid_below}

-- changed maps by row
pub length-changed_from : (first count : ℕ) (given : ℕ → Option Perm) (d : ℕ) (ms : List (List Perm))
    → length (changed_from first count given d ms) ≡ length ms
length-changed_from first count given d [] = refl
length-changed_from first count given d (m ∷ ms) = ap suc (length-changed_from first count given (d + 1) ms)

pub changed_from-at : (first count : ℕ) (given : ℕ → Option Perm) (d : ℕ) (ms : List (List Perm)) (i e : ℕ) (x : List Perm) → i < length ms
    → d + i ≡ e →
    get_or (changed_from first count given d ms) i x ≡ changed_map first count (given e) (get_or ms i x)
changed_from-at first count given d [] i e x lt sum = absurd (omega arith)
changed_from-at first count given d (m ∷ ms) zero e x lt sum = let same : d ≡ e = omega arith in
    ap (λ k. changed_map first count (given k) m) same
changed_from-at first count given d (m ∷ ms) (suc i) e x lt sum =
    changed_from-at first count given (d + 1) ms i e x (omega arith) (omega arith)

-- maps beside the range of a change stay as they were
pub outside : (first count w : ℕ) → covers first count w ≡ false → (w < first) ⊎ (first + count ≤ w)
outside first count w e = by (cases_lt w first) (cases_lt w (first + count))
  where
    by : (w < first) ⊎ (first ≤ w) → (w < first + count) ⊎ (first + count ≤ w) → (w < first) ⊎ (first + count ≤ w)
    by (inl lt) y = inl lt
    by (inr le) (inr far) = inr far
    by (inr le) (inl lt) = let clash : true ≡ false = sym (covers_in first count w le lt) ∙ e in absurd (cc)

pub beside-map : (first count : ℕ) (o : Option Perm) (m : List Perm) (w : ℕ) → (w < first) ⊎ (first + count ≤ w) →
    perm_at (changed_map first count o m) w ≡ perm_at m w
beside-map first count None m w out = refl
beside-map first count (Some p) m w (inl lt) = laid_below (grant_of first count p) m w P.None lt
beside-map first count (Some p) m w (inr le) = laid_behind (grant_of first count p) m w P.None le

pub beside-from : (first count : ℕ) (given : ℕ → Option Perm) (d k : ℕ) (ms : List (List Perm)) (n : List Perm) (w : ℕ) →
    (w < first) ⊎ (first + count ≤ w) →
    perm_at (get_or (changed_from first count given d ms) k n) w ≡ perm_at (get_or ms k n) w
beside-from first count given d k [] n w out = refl
beside-from first count given d zero (m ∷ ms) n w out = beside-map first count (given d) m w out
beside-from first count given d (suc k) (m ∷ ms) n w out = beside-from first count given (d + 1) k ms n w out

-- As many runs are stored as the owners of all words have.
use Rattle.std.proofs.Common.{ℕ, zero, suc, ◌≡◌, ◌≢◌, ◌+◌, ◌-◌, ◌<◌, ◌≤◌, Bool, true, false, not, ◌||◌, List, [], ◌∷◌, length, get_or, refl}
use Rattle.std.proofs.Common.{sym, ◌∙◌, ap, arith}
use Rattle.std.specs.Prelude.{◌==◌}
use Rattle.std.proofs.lemmas.Bool.{eq-eqb, ne_eqb, lt-ltb, le-ltb}
use Rattle.mx_words.specs.Counting.{count_below}
use Rattle.mx_words.specs.Runs.{owner_runs}
use Rattle.mx_words.proofs.CountingLaws.{count_below-zero, count_below_yes, count_below_still, length-list_below, list_below-at}
use Rattle.mx_words.proofs.RunLaws.{owner_runs-count}
use Rattle.mx_owners.specs.declared.runs.Run.{Run}
use Rattle.mx_owners.specs.OwnerRuns.{Fill, owner_in, owners_in}
use Rattle.mx_owners.proofs.FillLaws.{Fill-le}

-- whether a run begins at word i, where f tells the owners
abbrev pub starts : (ℕ → ℕ) → ℕ → Bool
starts f i = i == 0 || not (f (i - 1) == f i)

starts_here : (f : ℕ → ℕ) (i : ℕ) → (0 < i → f i ≢ f (i - 1)) → starts f i ≡ true
starts_here f zero h = refl
starts_here f (suc i) h =
    let far : (suc i == 0) ≡ false = ne_eqb (suc i) 0 (λ e. omega arith) in
    let other : (f (suc i - 1) == f (suc i)) ≡ false = ne_eqb (f (suc i - 1)) (f (suc i)) (λ e. h (omega arith) (sym e)) in
    rw (far, other) refl

no_start : (f : ℕ → ℕ) (i : ℕ) → 0 < i → f (i - 1) ≡ f i → starts f i ≡ false
no_start f i some e =
    let far : (i == 0) ≡ false = ne_eqb i 0 (λ q. omega arith) in
    let same : (f (i - 1) == f i) ≡ true = eq-eqb (f (i - 1)) (f i) e in
    rw (far, same) refl

-- runs that fill a range begin as many times in it as there are
pub count_fill : (low high before : ℕ) (rs : List Run) (f : ℕ → ℕ) → Fill low high before rs →
    ((w : ℕ) → low ≤ w → w < high → f w ≡ owner_in rs w) → (0 < low → f (low - 1) ≡ before) →
    count_below high (starts f) ≡ count_below low (starts f) + length rs
count_fill low high before [] f h told edge = let e : high ≡ low = omega (arith, h) in ap (λ n. count_below n (starts f)) e ∙ omega arith
count_fill low high before (r ∷ rs) f h told edge =
    let reach : r.end ≤ high = Fill-le r.end high r.owner rs h.2 in
    let here : (w : ℕ) → low ≤ w → w < r.end → f w ≡ r.owner = λ w le lt. told w le (omega arith) ∙ (rw (lt-ltb w r.end lt) refl) in
    let rest : (w : ℕ) → r.end ≤ w → w < high → f w ≡ owner_in rs w = λ w le lt. told w (omega (arith, h.0)) lt
    ∙ (rw (le-ltb w r.end le) refl) in
    let last : r.end - 1 < r.end = omega (arith, h.0) in
    let first : starts f low ≡ true = starts_here f low (λ some e. h.1 some (sym (here low (omega arith) h.0) ∙ e ∙ edge some)) in
    let one : count_below (low + 1) (starts f) ≡ count_below low (starts f) + 1 = count_below_yes low (starts f) first in
    let still : count_below r.end (starts f) ≡ count_below (low + 1) (starts f) =
    count_below_still (low + 1) r.end (starts f) (omega (arith, h.0))
    (λ w le lt. no_start f w (omega arith) (here (w - 1) (omega arith) (omega arith) ∙ sym (here w (omega arith) lt))) in
    let more : count_below high (starts f) ≡ count_below r.end (starts f) + length rs =
    count_fill r.end high r.owner rs f h.2 rest (λ _. here (r.end - 1) (omega (arith, h.0)) last) in
    omega (arith, one, still, more)

pub runs_counted : (words : ℕ) (rs : List Run) → Fill 0 words 0 rs → owner_runs (owners_in words rs) ≡ length rs
runs_counted words rs fill =
    let os : List ℕ = owners_in words rs in
    let len : length os ≡ words = length-list_below words (owner_in rs) in
    let f : ℕ → ℕ = λ i. get_or os i 0 in
    let count : count_below words (starts f) ≡ count_below 0 (starts f) + length rs =
    count_fill 0 words 0 rs f fill (λ w le lt. list_below-at words w (owner_in rs) 0 lt) (λ some. absurd (omega arith)) in
    let none : count_below 0 (starts f) ≡ 0 = count_below-zero (starts f) in
    let all : owner_runs os ≡ count_below (length os) (starts f) = owner_runs-count os in
    let known : count_below (length os) (starts f) ≡ count_below words (starts f) = ap (λ n. count_below n (starts f)) len in
    omega (arith, count, none, all, known)

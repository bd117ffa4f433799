-- A live block among others that lie apart: put in, found, and taken out.
use Rattle.std.proofs.Common.{ℕ, ◌≡◌, ◌+◌, ◌<◌, ◌≤◌, List, [], ◌∷◌, ◌++◌, Some, refl, ap, arith}
use Rattle.std.proofs.lemmas.Bool.{ne_eqb, eq-eqb, lt-ltb, le-ltb}
use Rattle.mx_words.specs.FirstFit.{Area, with_block, without_block, block_words}
use Rattle.mx_words.specs.FirstFit.{AreApart}
use Rattle.mx_words.proofs.AreaLaws.{apart_ordered}

-- a block goes between those below it and those after it
pub with_block_between : (low mid high : ℕ) (b : Area) (xs ys : List Area) → AreApart low mid xs → mid ≤ b.first → 0 < b.count →
    AreApart (b.first + b.count) high ys → with_block b (xs ++ ys) ≡ xs ++ b ∷ ys
with_block_between low mid high b [] [] h le some k = refl
with_block_between low mid high b [] (y ∷ ys) h le some k = let lt : b.first < y.first = omega (arith, k.0) in
    rw (lt-ltb b.first y.first lt) refl
with_block_between low mid high b (x ∷ xs) ys h le some k =
    let end : x.first + x.count ≤ mid = apart_ordered (x.first + x.count) mid xs h.2 in
    let above : x.first ≤ b.first = omega (arith, h.1) in
    rw (le-ltb b.first x.first above) (ap (λ (bs : List Area). x ∷ bs)
    (with_block_between (x.first + x.count) mid high b xs ys h.2 le some k))

-- a block is found where it begins
pub block_at_between : (low mid : ℕ) (b : Area) (xs ys : List Area) → AreApart low mid xs → mid ≤ b.first
    → block_words (xs ++ b ∷ ys) b.first ≡ Some b.count
block_at_between low mid b [] ys h le = rw (eq-eqb b.first b.first refl) refl
block_at_between low mid b (x ∷ xs) ys h le =
    let end : x.first + x.count ≤ mid = apart_ordered (x.first + x.count) mid xs h.2 in
    rw (ne_eqb x.first b.first (λ e. omega (arith, h.1, e))) (block_at_between (x.first + x.count) mid b xs ys h.2 le)

without_block_behind : (low high first : ℕ) (ys : List Area) → AreApart low high ys → first < low → without_block first ys ≡ ys
without_block_behind low high first [] h lt = refl
without_block_behind low high first (y ∷ ys) h lt =
    rw (ne_eqb y.first first (λ e. omega (arith, h.0, e)))
    (ap (λ (bs : List Area). y ∷ bs) (without_block_behind (y.first + y.count) high first ys h.2 (omega (arith, h.0))))

-- a block is taken out from between the others
pub without_block_between : (low mid high : ℕ) (b : Area) (xs ys : List Area) → AreApart low mid xs → mid ≤ b.first → 0 < b.count →
    AreApart (b.first + b.count) high ys → without_block b.first (xs ++ b ∷ ys) ≡ xs ++ ys
without_block_between low mid high b [] ys h le some k =
    rw (eq-eqb b.first b.first refl) (without_block_behind (b.first + b.count) high b.first ys k (omega arith))
without_block_between low mid high b (x ∷ xs) ys h le some k =
    let end : x.first + x.count ≤ mid = apart_ordered (x.first + x.count) mid xs h.2 in
    rw (ne_eqb x.first b.first (λ e. omega (arith, h.1, e)))
    (ap (λ (bs : List Area). x ∷ bs) (without_block_between (x.first + x.count) mid high b xs ys h.2 le some k))

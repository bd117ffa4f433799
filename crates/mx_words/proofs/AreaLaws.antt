-- Areas that lie apart between two words.
use Rattle.std.proofs.Common.{ℕ, ◌+◌, ◌≤◌, List, [], ◌∷◌, arith}
use Rattle.mx_words.specs.FirstFit.{Area, AreApart}

-- the words between which areas lie apart are in their order
pub apart_ordered : (low high : ℕ) (bs : List Area) → AreApart low high bs → low ≤ high
apart_ordered low high [] h = h
apart_ordered low high (b ∷ bs) h =
    let rest : b.first + b.count ≤ high = apart_ordered (b.first + b.count) high bs h.2 in omega (arith, h.0)

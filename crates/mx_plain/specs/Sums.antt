-- Needs together.
use Rattle.std.specs.Prelude.{ℕ, ◌+◌, ◌*◌, ◌≤◌}
use Rattle.mx_words.specs.declared.tables.Need.{Need}

-- two needs together
abbrev pub sum_of : Need → Need → Need
sum_of a b = record { upper = a.upper + b.upper; leaf = a.leaf + b.leaf; spill = a.spill + b.spill }

-- a need that so many maps of at most 2^24 words can have: 2^25 of each store for a map are more than enough
pub record IsFew (maps : ℕ) (n : Need) : Type 0 where
  pub upper : n.upper ≤ maps * 33554432
  pub leaf : n.leaf ≤ maps * 33554432
  pub spill : n.spill ≤ maps * 33554432

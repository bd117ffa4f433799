-- Laws of the lists of frame numbers.
use Rattle.std.proofs.Common.{◌≡◌, ℕ, zero, suc, ◌<◌, List, [], ◌∷◌, length, get_or, map, Vec, Global, vec_items, ap, arith}
use Rattle.mx_segments.specs.Lists.{list_at}

-- what stands in a list of vectors, read as lists
pub item_list : (vs : List (Vec ℕ Global)) (i : ℕ) (v : Vec ℕ Global) → i < length vs → v ≡ get_or vs i v
    → vec_items v ≡ list_at (map vec_items vs) i
item_list [] i v lt e = absurd (omega arith)
item_list (x ∷ vs) zero v lt e = ap vec_items e
item_list (x ∷ vs) (suc i) v lt e = item_list vs i v (omega arith) e

-- How changes of one row follow one another.
use Rattle.std.proofs.Common.{◌≡◌, ℕ, zero, suc, ◌≤◌, List, [], ◌∷◌, sum_by, length, refl, ◌∙◌, ap, arith}
use Rattle.std.proofs.lemmas.List.Sums.{sum_by-cons}
use Rattle.mx_pool.specs.Frames.{Frames}
use Rattle.mx_segments.specs.Store.{frames_in, IsStore, KeepsOthers, IsRewritten}

pub keeps_refl : (fs : Frames) (ls : List (List ℕ)) (row : ℕ) → KeepsOthers fs ls fs ls row
keeps_refl fs ls row = record { rows = refl; total = refl; chains = λ other ne. refl; words = λ other i ne lt. refl }

pub keeps_trans : (fs : Frames) (ls : List (List ℕ)) (fs' : Frames) (ls' : List (List ℕ)) (fs'' : Frames) (ls'' : List (List ℕ)) (row : ℕ) →
    KeepsOthers fs ls fs' ls' row → KeepsOthers fs' ls' fs'' ls'' row → KeepsOthers fs ls fs'' ls'' row
keeps_trans fs ls fs' ls' fs'' ls'' row a b = record {
  rows = b.rows ∙ a.rows;
  total = b.total ∙ a.total;
  chains = λ other ne. b.chains other ne ∙ a.chains other ne;
  words = λ other i ne lt.
      (let frames : frames_in ls' other ≡ frames_in ls other = ap (λ (l : List ℕ). length l) (a.chains other ne) in
      b.words other i ne (omega (arith, frames)) ∙ a.words other i ne lt);
}

pub rewritten_refl : (fs : Frames) (ls : List (List ℕ)) (row : ℕ) → IsStore fs ls → IsRewritten fs fs ls row
rewritten_refl fs ls row store = record { store = store; others = keeps_refl fs ls row; free = refl }

pub rewritten_trans : (fs fs' fs'' : Frames) (ls : List (List ℕ)) (row : ℕ) → IsRewritten fs fs' ls row → IsRewritten fs' fs'' ls row
    → IsRewritten fs fs'' ls row
rewritten_trans fs fs' fs'' ls row a b = record {
  store = b.store;
  others = keeps_trans fs ls fs' ls fs'' ls row a.others b.others;
  free = b.free ∙ a.free;
}

-- a list has no more frames than all lists together
pub list-le : (ls : List (List ℕ)) (row : ℕ) → frames_in ls row ≤ sum_by length ls
list-le [] row = omega arith
list-le (l ∷ ls) zero = omega (arith, sum_by-cons length l ls)
list-le (l ∷ ls) (suc row) = omega (arith, sum_by-cons length l ls, list-le ls row)

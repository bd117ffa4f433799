-- Each frame of a pool is taken or free.
use Rattle.std.proofs.Common.{◌≡◌, ℕ, ◌+◌, List, [], ◌∷◌, length, Option, Some, None, cond, refl, arith}
use Rattle.std.specs.Prelude.{count_by, is_some, is_none}
use Rattle.std.proofs.lemmas.List.Sums.{sum_by-cons}
use Rattle.mx_pool.specs.Frames.{Frames, free_in}

pub taken-and-free : (frames : Frames) → count_by is_some frames + free_in frames ≡ length frames
taken-and-free [] = refl
taken-and-free (None ∷ frames) =
    omega (
      arith,
      taken-and-free frames,
      sum_by-cons (λ (f : Option (List ℕ)). cond (is_some f) 1 0) None frames,
      sum_by-cons (λ (f : Option (List ℕ)). cond (is_none f) 1 0) None frames,
    )
taken-and-free (Some words ∷ frames) =
    omega (
      arith,
      taken-and-free frames,
      sum_by-cons (λ (f : Option (List ℕ)). cond (is_some f) 1 0) (Some words) frames,
      sum_by-cons (λ (f : Option (List ℕ)). cond (is_none f) 1 0) (Some words) frames,
    )

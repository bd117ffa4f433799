-- First fit is the least place with room, and there is none exactly where no word has room.
use Rattle.std.proofs.Common.{◌≡◌, ℕ, zero, suc, ◌+◌, ◌<◌, ◌≤◌, Bool, true, false, cond, ◌==◌, List, refl, ◌∙◌, ap, arith, eqb-true, Option}
use Rattle.std.proofs.Common.{Some, None}
use Rattle.std.proofs.lemmas.Bool.{eqb-false}
use Rattle.std.specs.Prelude.{find, MatchOption}
use Rattle.std.specs.List.{range_with_len}
use Rattle.mx_words.specs.FirstFit.{Area, has_room, place}

-- the least of the words from `first` on that passes a test, among `count`
pub record IsLeast (test : ℕ → Bool) (first count a : ℕ) : Type 0 where
  pub inside : first ≤ a
  pub below : a < first + count
  pub passes : test a ≡ true
  pub least : (b : ℕ) → first ≤ b → b < a → test b ≡ false

-- none of them passes
abbrev pub NonePasses : (ℕ → Bool) → ℕ → ℕ → Type 0
NonePasses test first count = (b : ℕ) → first ≤ b → b < first + count → test b ≡ false

least-later : (test : ℕ → Bool) (first count a : ℕ) → test first ≡ false → IsLeast test (first + 1) count a
    → IsLeast test first (suc count) a
least-later test first count a e p = record {
  inside = let q = p.inside in omega (arith, q);
  below = let q = p.below in omega (arith, q);
  passes = p.passes;
  least = λ b l u. elim (b == first) as (λ t. (b == first) ≡ t → test b ≡ false) [
    | true ↦ λ t. ap test (eqb-true b first t) ∙ e
    | false ↦ λ t. p.least b (let n = eqb-false b first t in omega (arith, n, l)) u
  ] refl;
}

none-later : (test : ℕ → Bool) (first count : ℕ) → test first ≡ false → NonePasses test (first + 1) count
    → NonePasses test first (suc count)
none-later test first count e p b l u = elim (b == first) as (λ t. (b == first) ≡ t → test b ≡ false) [
  | true ↦ λ t. ap test (eqb-true b first t) ∙ e
  | false ↦ λ t. p b (let n = eqb-false b first t in omega (arith, n, l)) (omega (arith, u))
] refl

match-later : (test : ℕ → Bool) (first count : ℕ) (o : Option ℕ) → test first ≡ false →
    MatchOption o (NonePasses test (first + 1) count) (IsLeast test (first + 1) count)
    → MatchOption o (NonePasses test first (suc count)) (IsLeast test first (suc count))
match-later test first count None e p = none-later test first count e p
match-later test first count (Some a) e p = least-later test first count a e p

pub find-range : (test : ℕ → Bool) (first count : ℕ) →
    MatchOption (find test (range_with_len first count)) (NonePasses test first count) (IsLeast test first count)
find-range test first zero = λ b l u. absurd (let q : ⊥ = omega (arith, l, u) in q)
find-range test first (suc count) = elim (test first) as (λ t. test first ≡ t →
    MatchOption (cond t (Some first) (find test (range_with_len (first + 1) count))) (NonePasses test first (suc count))
    (IsLeast test first (suc count))) [
      | true ↦ λ e. record {
        inside = omega arith;
        below = omega arith;
        passes = e;
        least = λ b l u.
            absurd (let q : ⊥ = omega (arith, l, u) in q);
      }
      | false ↦ λ e. match-later test first count (find test (range_with_len (first + 1) count)) e (find-range test (first + 1) count)
    ] refl

-- first fit is the least word of the area with room; where it has none, no word of the area has room
pub place-least : (area : Area) (blocks : List Area) (n : ℕ) →
    MatchOption (place area blocks n) (NonePasses (has_room area blocks n) area.first area.count)
    (IsLeast (has_room area blocks n) area.first area.count)
place-least area blocks n = find-range (has_room area blocks n) area.first area.count

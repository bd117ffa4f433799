-- A vector that is made of the permissions of a block's parts, the last part first.
use Rattle.std.proofs.Common.{◌≡◌, ℕ, ◌+◌, ◌-◌, ◌*◌, ◌/◌, ◌<◌, ◌≤◌, List, drop, arith, length-drop}
use Rattle.std.proofs.Math.Nat.{mul_comm}
use Rattle.std.proofs.lemmas.List.{drop_more}
use Rattle.std.proofs.lemmas.List.FromFn.{get_or-map-range_with_len, length-map-range_with_len}
use Rattle.mx_words.specs.declared.perm.Perm.{Perm}
use Rattle.mx_words.specs.declared.perm.Perm.TheVariants as P
use Rattle.mx_words.specs.Rights.{number, perm_at}
use Rattle.mx_words.specs.Reach.{packed, eighths, vector}
use Rattle.mx_words.proofs.NumberLaws.{packed-below}

-- a number holds the permissions of the last e parts
pub record IsPartVector (m : List Perm) (first part e entry : ℕ) : Type 0 where
  pub entry_is : entry ≡ packed (drop (8 - e) (eighths (8 * part) m first))

pub part-more : (m : List Perm) (first part e entry : ℕ) (p : Perm) → e < 8 → IsPartVector m first part e entry →
    perm_at m (first + (7 - e) * part) ≡ p →
    IsPartVector m first part (e + 1) (number p + 4 * entry)
part-more m first part e entry p below v r =
    let xs : List Perm = eighths (8 * part) m first in let f : ℕ → Perm = λ j. perm_at m (first + 8 * part / 8 * j) in
    grind (
      arith,
      drop_more xs (7 - e) P.None (omega (arith, length-map-range_with_len f 0 8)),
      get_or-map-range_with_len f 0 8 (7 - e)
          (7 - e) P.None (omega arith) (omega arith),
      r,
      mul_comm part,
    )

pub part-small : (m : List Perm) (first part e entry : ℕ) → IsPartVector m first part e entry → entry < 65536
part-small m first part e entry v = search (arith, packed-below 8, length-drop, length-map-range_with_len)

pub part-whole : (m : List Perm) (first part e entry : ℕ) → 8 ≤ e → IsPartVector m first part e entry →
    1 + 4 * entry ≡ vector (8 * part) m first
part-whole m first part e entry all v = let none : 8 - e ≡ 0 = omega arith in cc (none)

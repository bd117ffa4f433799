-- How many segments and bytes a program has, piece by piece.
use Rattle.std.proofs.Common.{◌≡◌, ℕ, ◌+◌, ◌<◌, ◌≤◌, List, [], ◌∷◌, ◌++◌, length, refl, arith}
use Rattle.std.proofs.lemmas.List.{length-append}
use Rattle.std.proofs.lemmas.List.Sums.{sum_by-cons}
use Rattle.std.proofs.lemmas.Bool.{cond_both}
use Rattle.mx_image.specs.declared.segment.Segment.{Segment}
use Rattle.mx_image.specs.Program.{has_bytes, filled, byte_count, with_last_byte}

-- one more byte, in as many segments
pub length-with_last_byte : (b : ℕ) (segments : List Segment) → length (with_last_byte b segments) ≡ length segments
length-with_last_byte b [] = refl
length-with_last_byte b (s ∷ []) = refl
length-with_last_byte b (s ∷ t ∷ segments) = omega (arith, length-with_last_byte b (t ∷ segments))

count-cons : (s : Segment) (segments : List Segment) → byte_count (s ∷ segments) ≡ length s.bytes + byte_count segments
count-cons s segments = sum_by-cons (λ x. length x.bytes) s segments

pub byte_count-with_last_byte : (b : ℕ) (segments : List Segment) → 0 < length segments
    → byte_count (with_last_byte b segments) ≡ byte_count segments + 1
byte_count-with_last_byte b [] some = absurd (omega arith)
byte_count-with_last_byte b (s ∷ []) some =
    omega (arith, count-cons (record s { bytes = s.bytes ++ b ∷ [] }) [], count-cons s [], length-append s.bytes (b ∷ []))
byte_count-with_last_byte b (s ∷ t ∷ segments) some =
    omega (
      arith,
      count-cons s (with_last_byte b (t ∷ segments)),
      count-cons s (t ∷ segments),
      byte_count-with_last_byte b (t ∷ segments)
          (omega arith),
    )

-- one more segment
pub byte_count-append : (segments : List Segment) (s : Segment) → byte_count (segments ++ s ∷ []) ≡ byte_count segments + length s.bytes
byte_count-append [] s = omega (arith, count-cons s [])
byte_count-append (t ∷ segments) s = omega (arith, count-cons t (segments ++ s ∷ []), count-cons t segments, byte_count-append segments s)

-- at most all segments have bytes
pub filled-most : (segments : List Segment) → length (filled segments) ≤ length segments
filled-most [] = omega arith
filled-most (s ∷ segments) =
    cond_both (has_bytes s) (s ∷ filled segments) (filled segments) (λ left. length left ≤ length (s ∷ segments))
    (λ _. omega (arith, filled-most segments)) (λ _. omega (arith, filled-most segments))

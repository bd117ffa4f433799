-- A number put in place byte by byte is its little-endian bytes put in place at once.
use Rattle.std.proofs.Common.{◌≡◌, ℕ, zero, suc, ◌+◌, ◌-◌, ◌/◌, ◌%◌, ◌≤◌, List, [], ◌∷◌, ◌++◌, length, take, drop, set, refl, sym, ◌∙◌}
use Rattle.std.proofs.Common.{arith, bit_and, add-zero, append_assoc, length-set}
use Rattle.std.proofs.lemmas.List.{take-append-drop, take_more_set, drop-set-lt}
use Rattle.std.proofs.lemmas.Nat.{and_mask}
use Rattle.std.specs.Int.{to_le_bytes, w16, w32}
use borrow.Rule.Slice.PartMut.{put_mid, Post-is}
use Rattle.mx_words.specs.Bytes.{put_at}

-- the low bytes of a number, the lowest first
abbrev low_bytes : ℕ → ℕ → List ℕ
low_bytes zero n = []
low_bytes (suc size) n = n % 256 ∷ low_bytes size (n / 256)

put_at-low_bytes : (size : ℕ) (xs : List ℕ) (k n : ℕ) → k + size ≤ length xs
    → put_at xs k size n ≡ take k xs ++ (low_bytes size n ++ drop (k + size) xs)
unfolding put_at
put_at-low_bytes zero xs k n h = rw add-zero (sym (take-append-drop k xs))
put_at-low_bytes (suc size) xs k n h =
    let b = n % 256 in
    let room : k + 1 + size ≤ length (set xs k b) = rw length-set (omega arith) in
    let rest = put_at-low_bytes size (set xs k b) (k + 1) (n / 256) room in
    let front = take_more_set xs k b (omega arith) in
    let back = drop-set-lt (k + 1 + size) xs k b (omega arith) in
    let place : k + 1 + size ≡ k + suc size = omega arith in
    rest ∙ rw (front, back, place, append_assoc) refl

-- the bytes that a copy of two or four bytes puts in place
pub put_mid-half : (xs ys : List ℕ) (k n : ℕ) → k + 2 ≤ length xs → ys ≡ to_le_bytes w16 (bit_and n 0xFFFF)
    → put_mid k (k + 2 - k) xs ys ≡ put_at xs k 2 n
put_mid-half xs ys k n h e =
    let low : n % 65536 % 256 ≡ n % 256 = omega arith in
    let high : n % 65536 / 256 % 256 ≡ n / 256 % 256 = omega arith in
    rw (e, and_mask n 16, Post-is k (k + 2) xs (omega arith), put_at-low_bytes 2 xs k n h, low, high) refl

pub put_mid-word : (xs ys : List ℕ) (k n : ℕ) → k + 4 ≤ length xs → ys ≡ to_le_bytes w32 n → put_mid k (k + 4 - k) xs ys ≡ put_at xs k 4 n
put_mid-word xs ys k n h e =
    let third : n / 65536 % 256 ≡ n / 256 / 256 % 256 = omega arith in
    let fourth : n / 16777216 % 256 ≡ n / 256 / 256 / 256 % 256 = omega arith in
    rw (e, Post-is k (k + 4) xs (omega arith), put_at-low_bytes 4 xs k n h, third, fourth) refl

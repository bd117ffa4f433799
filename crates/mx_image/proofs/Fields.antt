-- Reading numbers from a list of bytes that is put together from parts.
use Rattle.std.proofs.Common.{◌≡◌, ℕ, zero, suc, ◌+◌, ◌*◌, ◌/◌, ◌%◌, ◌^◌, ◌<◌, List, ◌++◌, length, get_or, refl, ap, ◌∙◌, arith, add_assoc}
use Rattle.std.proofs.lemmas.List.{get_or-append-add}
use Rattle.mx_words.specs.Bytes.{number_at}
use Rattle.mx_elf.specs.Field.{half_at, word_at}

-- after a part, the numbers of the rest
pub number-behind : (part rest : List ℕ) (k size : ℕ) → number_at (part ++ rest) (length part + k) size ≡ number_at rest k size
unfolding number_at
number-behind part rest k zero = refl
number-behind part rest k (suc size) =
    let next : number_at (part ++ rest) (length part + k + 1) size ≡ number_at rest (k + 1) size =
    ap (λ (i : ℕ). number_at (part ++ rest) i size) (add_assoc (length part) k 1) ∙ number-behind part rest (k + 1) size in
    let here : get_or (part ++ rest) (length part + k) 0 ≡ get_or rest k 0 = get_or-append-add part rest k 0 in
    rw (here, next) refl

-- a number of 4 bytes at a place after a part
pub word-behind : (bytes part rest : List ℕ) (at k : ℕ) → bytes ≡ part ++ rest → at ≡ length part → word_at bytes (at + k) ≡ word_at rest k
unfolding word_at
word-behind bytes part rest at k is start = rw (is, start) (number-behind part rest k 4)

pub word-begins : (bytes part rest : List ℕ) (at : ℕ) → bytes ≡ part ++ rest → at ≡ length part → word_at bytes at ≡ word_at rest 0
word-begins bytes part rest at is start =
    let same : at ≡ at + 0 = omega arith in
    ap (word_at bytes) same ∙ word-behind bytes part rest at 0 is start

-- a number of 2 bytes at a place after a part
pub half-behind : (bytes part rest : List ℕ) (at k : ℕ) → bytes ≡ part ++ rest → at ≡ length part → half_at bytes (at + k) ≡ half_at rest k
unfolding half_at
half-behind bytes part rest at k is start = rw (is, start) (number-behind part rest k 2)

-- a number from its bytes
pub four-bytes : (n : ℕ) → n < 2 ^ 32
    → n % 256 + 256 * (n / 256 % 256 + 256 * (n / 256 / 256 % 256 + 256 * (n / 256 / 256 / 256 % 256 + 256 * 0))) ≡ n
four-bytes n lt = omega arith

pub two-bytes : (n : ℕ) → n < 2 ^ 16 → n % 256 + 256 * (n / 256 % 256 + 256 * 0) ≡ n
two-bytes n lt = omega arith

-- Little-endian numbers in a list of bytes.
-- The rules: docs/MACHINE.md, "Memory, domains, harts".
use Rattle.std.specs.Prelude.{◌≡◌, ◌⊎◌, ℕ, zero, suc, ◌+◌, ◌*◌, ◌/◌, ◌%◌, List, ◌++◌, take, drop, replicate, slice_index, slice_set}

-- the number that the `size` bytes from place k on hold
unfoldable pub number_at : List ℕ → ℕ → ℕ → ℕ
number_at bytes k zero = 0
number_at bytes k (suc size) = slice_index bytes k + 256 * number_at bytes (k + 1) size

-- the bytes with the low `size` bytes of a number put at place k
unfoldable pub put_at : List ℕ → ℕ → ℕ → ℕ → List ℕ
put_at bytes k zero n = bytes
put_at bytes k (suc size) n = put_at (slice_set bytes k (n % 256)) (k + 1) size (n / 256)

-- the bytes with n zero bytes from place k on
unfoldable pub cleared_at : List ℕ → ℕ → ℕ → List ℕ
cleared_at bytes k n = take k bytes ++ replicate n 0 ++ drop (k + n) bytes

-- the sizes of an access, in bytes
abbrev pub IsSize : ℕ → Type 0
IsSize size = (size ≡ 1) ⊎ ((size ≡ 2) ⊎ (size ≡ 4))

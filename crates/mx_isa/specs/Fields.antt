-- The fields of an instruction's word, and its immediates.
-- The rules: docs/MACHINE.md, "Instructions".
use Rattle.std.specs.Prelude.{ℕ, ◌+◌, ◌-◌, ◌*◌, ◌/◌, ◌%◌, ◌^◌, nat_lt, if◌then◌else◌}

-- `count` bits of a word, from bit `low` upwards
abbrev pub bits_of : ℕ → ℕ → ℕ → ℕ
bits_of w low count = w / 2 ^ low % 2 ^ count

-- bits 6..0
abbrev pub opcode_of : ℕ → ℕ
opcode_of w = bits_of w 0 7

-- bits 11..7
abbrev pub rd_of : ℕ → ℕ
rd_of w = bits_of w 7 5

-- bits 14..12
abbrev pub f3_of : ℕ → ℕ
f3_of w = bits_of w 12 3

-- bits 19..15
abbrev pub rs1_of : ℕ → ℕ
rs1_of w = bits_of w 15 5

-- bits 24..20
abbrev pub rs2_of : ℕ → ℕ
rs2_of w = bits_of w 20 5

-- bits 31..25
abbrev pub f7_of : ℕ → ℕ
f7_of w = bits_of w 25 7

-- a number of `count` bits, its sign extended to 32
unfoldable pub extended : ℕ → ℕ → ℕ
extended count n = if nat_lt n (2 ^ (count - 1)) then n else (n + (2 ^ 32 - 2 ^ count))

-- I: bits 31..20, sign-extended
unfoldable pub imm_i : ℕ → ℕ
imm_i w = extended 12 (bits_of w 20 12)

-- S: bits 31..25 then 11..7, sign-extended
unfoldable pub imm_s : ℕ → ℕ
imm_s w = extended 12 (bits_of w 25 7 * 2 ^ 5 + bits_of w 7 5)

-- B: bit 31 is bit 12, bit 7 is bit 11, bits 30..25 are 10..5, bits 11..8 are 4..1; sign-extended
unfoldable pub imm_b : ℕ → ℕ
imm_b w =
    extended 13
    (bits_of w 31 1 * 2 ^ 12 + bits_of w 7 1 * 2 ^ 11 + bits_of w 25 6 * 2 ^ 5 + bits_of w 8 4 * 2)

-- U: bits 31..12 in place
unfoldable pub imm_u : ℕ → ℕ
imm_u w = bits_of w 12 20 * 2 ^ 12

-- J: bit 31 is bit 20, bits 19..12 in place, bit 20 is bit 11, bits 30..21 are 10..1; sign-extended
unfoldable pub imm_j : ℕ → ℕ
imm_j w =
    extended 21
    (bits_of w 31 1 * 2 ^ 20 + bits_of w 12 8 * 2 ^ 12 + bits_of w 20 1 * 2 ^ 11 +
    bits_of w 21 10 * 2)

-- FENCE's free bits: bits 31..15, then 11..7
unfoldable pub fence_fields : ℕ → ℕ
fence_fields w = bits_of w 15 17 * 2 ^ 5 + bits_of w 7 5

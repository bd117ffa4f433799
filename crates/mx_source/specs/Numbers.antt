-- Numbers as a source writes them.
-- The rules: docs/COMMANDS.md, "The source".
use Rattle.std.specs.Prelude.{ℕ, ◌+◌, ◌-◌, ◌*◌, ◌%◌, ◌^◌, ◌==◌, nat_eq, nat_lt, nat_le, min, Bool, true, false, not, ◌&&◌, ◌||◌, List}
use Rattle.std.specs.Prelude.{length, drop, fold, Option, Some, None, option_map, codes, if◌then◌else◌}
use Rattle.std.specs.Char.{is_ascii_digit, is_ascii_hexdigit}
use Rattle.std.specs.List.{list_all, starts_with}
use Rattle.mx_source.specs.declared.number.Number.{Number}
use Rattle.mx_source.specs.declared.number.Range.{Range}

-- No statement takes a number of 2^33 or more, so they all count as 2^33.
abbrev pub cap : ℕ → ℕ
cap n = min n 8589934592

-- the value of a decimal digit after others
abbrev pub decimal_step : ℕ → ℕ → ℕ
decimal_step value digit = cap (10 * value + (digit - 48))

-- of a hexadecimal one, of either case
abbrev pub hexadecimal_step : ℕ → ℕ → ℕ
hexadecimal_step value digit =
    cap (16 * value + (if nat_lt digit 58 then digit - 48 else digit % 32 + 9))

-- what decimal digits say; there is at least one
unfoldable pub decimal_of : List ℕ → Option ℕ
decimal_of digits =
    if nat_lt 0 (length digits) && list_all is_ascii_digit digits
    then Some (fold decimal_step 0 digits) else None

-- what 1 to 8 hexadecimal digits say
unfoldable pub hexadecimal_of : List ℕ → Option ℕ
hexadecimal_of digits =
    if nat_lt 0 (length digits) && nat_le (length digits) 8 && list_all is_ascii_hexdigit digits
    then Some (fold hexadecimal_step 0 digits) else None

-- a number at or above 0, and one at or below it
abbrev pub plain_number : ℕ → Number
plain_number n = record { negative = false; magnitude = n }

abbrev pub negative_number : ℕ → Number
negative_number n = record { negative = true; magnitude = n }

-- the number that a text is: `-` and decimal digits, `0x` and hexadecimal ones, or decimal ones
unfoldable pub number_of : List ℕ → Option Number
number_of text =
    if starts_with nat_eq text (codes "-")
    then option_map negative_number (decimal_of (drop 1 text))
    else (if starts_with nat_eq text (codes "0x")
    then option_map plain_number (hexadecimal_of (drop 2 text))
    else option_map plain_number (decimal_of text))

-- whether a number lies in a range: from -low to high, and even where the range is of even numbers
abbrev pub fits : Range → Number → Bool
fits range n =
    nat_le n.magnitude (if n.negative then range.low else range.high)
    && (not range.even || (n.magnitude % 2 == 0))

-- the 32 bits of a number
abbrev pub number_bits : Number → ℕ
number_bits n = if n.negative then (2 ^ 32 - n.magnitude) % 2 ^ 32 else n.magnitude % 2 ^ 32

-- the number that leads from an address to another
abbrev pub difference : ℕ → ℕ → Number
difference to from =
    if nat_le from to then plain_number (to - from) else negative_number (from - to)

-- the numbers from -low to high
abbrev pub number_range : ℕ → ℕ → Range
number_range low high = record { low = low; high = high; even = false }

-- the even ones of them
abbrev pub even_range : ℕ → ℕ → Range
even_range low high = record { low = low; high = high; even = true }

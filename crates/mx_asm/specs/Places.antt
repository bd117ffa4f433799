-- Where the bytes of each line stand: a sum of sizes.
-- The rules: docs/COMMANDS.md, "The source".
use Rattle.std.specs.Prelude.{ℕ, ◌+◌, ◌-◌, ◌*◌, List, length, Option, unwrap_or, []}
use Rattle.std.specs.Option.{option_map_or}
use Rattle.mx_asm.specs.declared.places.Place.{Place}
use Rattle.mx_source.specs.declared.mnemonics.Keyword.{Keyword}
use Rattle.mx_source.specs.declared.mnemonics.Keyword.TheVariants.{Text, Data, At, Word, Byte, Ascii, Li, La, Inst}
use Rattle.mx_source.specs.declared.number.Number.{Number}
use Rattle.mx_source.specs.Options.{◌>>=◌}
use Rattle.mx_source.specs.Numbers.{number_of}
use Rattle.mx_source.specs.Operands.{text_of, single_of}
use Rattle.mx_source.specs.Lines.{Statement, Absent, Unlisted, Listed}

-- the number that is the one operand
unfoldable pub address_number : List (List ℕ) → Option Number
address_number operands = single_of operands >>= number_of

-- the address that it is
unfoldable pub address_of : List (List ℕ) → ℕ
address_of operands = option_map_or (λ n. n.magnitude) (address_number operands) 0

-- the text that is the one operand
unfoldable pub ascii_of : List (List ℕ) → Option (List ℕ)
ascii_of operands = single_of operands >>= text_of

-- how many bytes a statement has at an address
unfoldable pub size_of : Keyword → List (List ℕ) → ℕ → ℕ
size_of Text operands here = 0
size_of Data operands here = 0
size_of At operands here = address_of operands - here
size_of Word operands here = 4 * length operands
size_of Byte operands here = length operands
size_of Ascii operands here = length (unwrap_or (ascii_of operands) [])
size_of Li operands here = 8
size_of La operands here = 8
size_of (Inst form) operands here = 4

-- before the first line
abbrev pub start : Place
start = record { segments = 0; here = 0; total = 0 }

-- with the next segment begun, at an address
abbrev pub at_segment : ℕ → Place → Place
at_segment address place =
    record { segments = place.segments + 1; here = address; total = place.total }

-- with more bytes in the present one
abbrev pub with_size : ℕ → Place → Place
with_size size place =
    record { segments = place.segments; here = place.here + size; total = place.total + size }

-- after a listed statement
unfoldable pub place_listed : Keyword → List (List ℕ) → Place → Place
place_listed Text operands place = at_segment (address_of operands) place
place_listed Data operands place = at_segment (address_of operands) place
place_listed keyword operands place = with_size (size_of keyword operands place.here) place

-- after a statement
abbrev pub place_after : Statement → Place → Place
place_after Absent place = place
place_after Unlisted place = place
place_after (Listed keyword operands) place = place_listed keyword operands place

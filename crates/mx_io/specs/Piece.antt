-- The texts of the pieces that lines are put together from.
-- The rules: docs/COMMANDS.md, "The report".
use Rattle.std.specs.Prelude.{ℕ, ◌+◌, ◌/◌, ◌%◌, ◌^◌, List, [], ◌∷◌, ◌++◌, if◌then◌else◌, nat_lt, decimal, codes, flat_map}
use Rattle.std.specs.Char.{is_control, encode_utf8}
use Rattle.std.specs.Str.{chars}
use Rattle.std.specs.Fmt.{signed_decimal}
use Rattle.mx_io.specs.declared.piece.Piece.{Piece}
use Rattle.mx_io.specs.declared.piece.Piece.TheVariants.{Text, Name, Number, Signed, Hex, Digits}

-- the ASCII code of a digit below 16: `0` to `9`, then `a` to `f`
abbrev pub hex_digit : ℕ → ℕ
hex_digit d = if nat_lt d 10 then 48 + d else 87 + d

-- the eight hexadecimal digits of a number below 2^32
abbrev pub hex_digits : ℕ → List ℕ
hex_digits n =
    hex_digit (n / 16 ^ 7 % 16) ∷ hex_digit (n / 16 ^ 6 % 16)
    ∷ hex_digit (n / 16 ^ 5 % 16) ∷ hex_digit (n / 16 ^ 4 % 16)
    ∷ hex_digit (n / 16 ^ 3 % 16) ∷ hex_digit (n / 16 ^ 2 % 16)
    ∷ hex_digit (n / 16 % 16) ∷ hex_digit (n % 16) ∷ []

-- `0x` and the eight digits
abbrev pub hex_number : ℕ → List ℕ
hex_number n = codes "0x" ++ hex_digits n

-- a character as a name shows it: `?` in place of U+0000 to U+001F and U+007F to U+009F
abbrev pub shown_character : ℕ → ℕ
shown_character c = if is_control c then 63 else c

-- the text of a name
unfoldable pub shown_name : List ℕ → List ℕ
shown_name name = flat_map (λ c. encode_utf8 (shown_character c)) (chars name)

-- the text of one piece
abbrev pub piece_text : Piece → List ℕ
piece_text (Text text) = text.now
piece_text (Name name) = shown_name name.now
piece_text (Number n) = decimal n
piece_text (Signed n) = signed_decimal n
piece_text (Hex n) = hex_number n
piece_text (Digits n) = hex_digits n

-- the text of several, one after another
abbrev pub pieces_text : List Piece → List ℕ
pieces_text pieces = flat_map piece_text pieces

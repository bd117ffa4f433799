-- The texts of pieces.
use Rattle.std.specs.Prelude.{ℕ, ◌+◌, ◌==◌, List, [], ◌∷◌, drop, min, flat_map, codes, decimal, if◌then◌else◌}
use Rattle.mx_io.specs.Piece.{hex_digits, hex_number}
use Rattle.mx_debug_texts.specs.declared.window.Piece.{Piece}
use Rattle.mx_debug_texts.specs.declared.window.Piece.TheVariants as P

-- how many zeros a text begins with
abbrev pub zeros : List ℕ → ℕ
zeros [] = 0
zeros (c ∷ more) = if c == 48 then 1 + zeros more else 0

-- a number's hexadecimal digits without leading zeros
unfoldable pub short_digits : ℕ → List ℕ
short_digits n = drop (min 7 (zeros (hex_digits n))) (hex_digits n)

-- a byte as XML has it in a text or between quotation marks
abbrev pub xml_byte : ℕ → List ℕ
xml_byte b =
    if b == 34 then codes "&quot;"
    else if b == 38 then codes "&amp;"
    else if b == 60 then codes "&lt;"
    else if b == 62 then codes "&gt;"
    else b ∷ []

abbrev pub xml_text : List ℕ → List ℕ
xml_text text = flat_map xml_byte text

-- the text of one piece, and of several
abbrev pub piece_text : Piece → List ℕ
piece_text (P.Text text) = text.now
piece_text (P.Bytes bytes) = bytes.now
piece_text (P.Number n) = decimal n
piece_text (P.Hex n) = hex_number n
piece_text (P.Short n) = short_digits n
piece_text (P.Xml text) = xml_text text.now

abbrev pub pieces_text : List Piece → List ℕ
pieces_text pieces = flat_map piece_text pieces

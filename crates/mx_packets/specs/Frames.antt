-- The text of an answer.
use Rattle.std.specs.Prelude.{ℕ, ◌/◌, ◌%◌, List, [], ◌∷◌, take}
use Rattle.mx_io.specs.Piece.{hex_digit}
use Rattle.mx_packets.specs.Packets.{most_packet}

-- what an answer has of a text
abbrev pub cut : List ℕ → List ℕ
cut text = take most_packet text

-- a byte as two digits
abbrev pub pair : ℕ → List ℕ
pair byte = hex_digit (byte / 16) ∷ hex_digit (byte % 16) ∷ []

-- The text of a name, character by character.
use Rattle.std.proofs.Common.{◌≡◌, ℕ, List, [], ◌∷◌, ◌++◌, length, flat_map, ap, arith}
use Rattle.std.specs.Char.{encode_utf8}
use Rattle.std.specs.Str.{IsUtf8}
use Rattle.std.proofs.lemmas.Str.{chars_past_char, chars-nil}
use Rattle.mx_io.specs.Piece.{shown_character, shown_name}

-- the text from a character on: that character as it is shown, then the text after it
pub shown_next : (text rest : List ℕ) (c : ℕ) → IsUtf8 text → text ≡ encode_utf8 c ++ rest
    → shown_name text ≡ encode_utf8 (shown_character c) ++ shown_name rest
unfolding shown_name
shown_next text rest c valid e = ap (flat_map (λ x. encode_utf8 (shown_character x))) (chars_past_char text rest c valid e)

-- of no bytes
pub shown_none : (text : List ℕ) → length text ≡ 0 → shown_name text ≡ []
unfolding shown_name
shown_none [] e = ap (flat_map (λ x. encode_utf8 (shown_character x))) chars-nil
shown_none (b ∷ text) e = absurd (omega arith)

-- The operands of a statement: names, registers, numbers, texts, and a number before a register in brackets.
-- The rules: docs/COMMANDS.md, "The source".
use Rattle.std.specs.Prelude.{ℕ, ◌+◌, ◌-◌, ◌==◌, nat_le, Bool, true, false, ◌&&◌, ◌||◌, List, [], ◌∷◌, length, take, drop, map, position}
use Rattle.std.specs.Prelude.{slice_index, Option, Some, None, is_some, option_map, codes, if◌then◌else◌}
use Rattle.std.specs.List.{list_all}
use Rattle.std.specs.Option.{option_or}
use Rattle.std.specs.Str.{bytes_eq}
use Rattle.mx_source.specs.declared.characters.Quotes.TheVariants.{Outside}
use Rattle.mx_source.specs.declared.number.Number.{Number}
use Rattle.mx_source.specs.Characters.{begins_name, is_in_name, is_printed, trim, parts}
use Rattle.mx_source.specs.Options.{◌>>=◌}
use Rattle.mx_source.specs.Numbers.{number_of}

-- the form of a label: a letter or _, then letters, digits or _, at most 64 bytes
unfoldable pub is_name : List ℕ → Bool
is_name text =
    nat_le (length text) 64 && begins_name (slice_index text 0) && list_all is_in_name text

-- the names of the registers by their numbers
abbrev pub plain_names : List (List ℕ)
plain_names =
    codes "x0" ∷ codes "x1" ∷ codes "x2" ∷ codes "x3"
    ∷ codes "x4" ∷ codes "x5" ∷ codes "x6" ∷ codes "x7"
    ∷ codes "x8" ∷ codes "x9" ∷ codes "x10" ∷ codes "x11"
    ∷ codes "x12" ∷ codes "x13" ∷ codes "x14" ∷ codes "x15"
    ∷ codes "x16" ∷ codes "x17" ∷ codes "x18" ∷ codes "x19"
    ∷ codes "x20" ∷ codes "x21" ∷ codes "x22" ∷ codes "x23"
    ∷ codes "x24" ∷ codes "x25" ∷ codes "x26" ∷ codes "x27"
    ∷ codes "x28" ∷ codes "x29" ∷ codes "x30" ∷ codes "x31" ∷ []

-- and by what they are for
abbrev pub use_names : List (List ℕ)
use_names =
    codes "zero" ∷ codes "ra" ∷ codes "sp" ∷ codes "gp"
    ∷ codes "tp" ∷ codes "t0" ∷ codes "t1" ∷ codes "t2"
    ∷ codes "s0" ∷ codes "s1" ∷ codes "a0" ∷ codes "a1"
    ∷ codes "a2" ∷ codes "a3" ∷ codes "a4" ∷ codes "a5"
    ∷ codes "a6" ∷ codes "a7" ∷ codes "s2" ∷ codes "s3"
    ∷ codes "s4" ∷ codes "s5" ∷ codes "s6" ∷ codes "s7"
    ∷ codes "s8" ∷ codes "s9" ∷ codes "s10" ∷ codes "s11"
    ∷ codes "t3" ∷ codes "t4" ∷ codes "t5" ∷ codes "t6" ∷ []

-- the register with a name
unfoldable pub register_of : List ℕ → Option ℕ
register_of text =
    option_or (position (bytes_eq text) plain_names) (position (bytes_eq text) use_names)

-- the byte that a character after `\` stands for
abbrev pub escape_byte : ℕ → Option ℕ
escape_byte c =
    if c == 110 then Some 10
    else (if c == 48 then Some 0
    else (if c == 34 then Some 34
    else (if c == 92 then Some 92 else None)))

-- a byte before others, if there are any
abbrev pub prepend : ℕ → Option (List ℕ) → Option (List ℕ)
prepend byte bytes = option_map (λ bs. byte ∷ bs) bytes

-- the bytes of a text after its opening `"`, up to the `"` that closes it, with which it ends; `escape` says whether a `\` stands before
abbrev pub quoted_bytes : Bool → List ℕ → Option (List ℕ)
quoted_bytes escape [] = None
quoted_bytes true (c ∷ cs) = escape_byte c >>= λ byte. prepend byte (quoted_bytes false cs)
quoted_bytes false (c ∷ cs) =
    if c == 34 then (if length cs == 0 then Some [] else None)
    else (if c == 92 then quoted_bytes true cs
    else (if is_printed c then prepend c (quoted_bytes false cs) else None))

-- the bytes of a text in quotes
unfoldable pub text_of : List ℕ → Option (List ℕ)
text_of text = if slice_index text 0 == 34 then quoted_bytes false (drop 1 text) else None

-- a number, and the name that stands in round brackets after it
pub record Indexed : Type 0 where
  pub number : Number
  pub name : List ℕ

-- the name between two places of a text, the second of which is its end
unfoldable pub name_between : List ℕ → ℕ → ℕ → Option (List ℕ)
name_between text first last =
    if (last + 1 == length text)
    && is_name (trim (take (last - (first + 1)) (drop (first + 1) text)))
    then Some (trim (take (last - (first + 1)) (drop (first + 1) text))) else None

unfoldable pub indexed_of : List ℕ → Option Indexed
indexed_of text = do
  first ← position (λ c. c == 40) text
  last ← position (λ c. c == 41) text
  n ← number_of (trim (take first text))
  name_between text first last >>= λ name. Some (record { number = n; name = name })

-- whether a part of a line is an operand
abbrev pub is_operand : List ℕ → Bool
is_operand text =
    is_name text || is_some (number_of text) || is_some (text_of text) || is_some (indexed_of text)

-- the parts between the commas of a statement's operands, none where there is no text
unfoldable pub pieces_of : List ℕ → List (List ℕ)
pieces_of operands = if length operands == 0 then [] else map trim (parts 44 Outside operands)

-- the one operand, the two, the three
abbrev pub single_of : List (List ℕ) → Option (List ℕ)
single_of (a ∷ []) = Some a
single_of _ = None

abbrev pub pair_of : List (List ℕ) → Option (List ℕ × List ℕ)
pair_of (a ∷ b ∷ []) = Some (a, b)
pair_of _ = None

abbrev pub triple_of : List (List ℕ) → Option (List ℕ × List ℕ × List ℕ)
triple_of (a ∷ b ∷ c ∷ []) = Some (a, b, c)
triple_of _ = None

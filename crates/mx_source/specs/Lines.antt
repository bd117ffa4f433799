-- How a line is split: an optional label with a colon, then an optional statement, a word with operands.
-- The rules: docs/COMMANDS.md, "The source".
use Rattle.std.specs.Prelude.{ℕ, ◌==◌, Bool, ◌&&◌, ◌||◌, List, length, drop, slice_index, Option, Some, None, if◌then◌else◌}
use Rattle.std.specs.List.{list_all, take_while}
use Rattle.std.specs.Option.{option_map_or}
use Rattle.mx_source.specs.declared.mnemonics.Keyword.{Keyword}
use Rattle.mx_source.specs.Characters.{is_in_name, is_in_word, trim, trim_start, without_comment}
use Rattle.mx_source.specs.Operands.{is_name, is_operand, pieces_of}
use Rattle.mx_source.specs.Mnemonics.{keyword_of}

-- the statement of a line: none, one that isn't listed, or a listed one with its operands
pub data Statement : Type 0 where
  Absent : Statement
  Unlisted : Statement
  Listed : Keyword → List (List ℕ) → Statement

-- a line: the name of its label, and its statement
pub record Line : Type 0 where
  pub label : Option (List ℕ)
  pub statement : Statement

-- a line whose rest behind its label has another form: what follows doesn't matter to the label
abbrev pub other_form : Option (List ℕ) → Line
other_form label = record { label = label; statement = Unlisted }

-- a statement's word: a name, or a point and a name
unfoldable pub is_word : List ℕ → Bool
is_word text = is_name text || ((slice_index text 0 == 46) && is_name (drop 1 text))

-- what a word and operands say
unfoldable pub statement_of : List ℕ → List (List ℕ) → Statement
statement_of word operands = option_map_or (λ k. Listed k operands) (keyword_of word) Unlisted

-- the line with a label and a word, whose operands are this text
unfoldable pub line_with_word : Option (List ℕ) → List ℕ → List ℕ → Line
line_with_word label word operands =
    if is_word word && list_all is_operand (pieces_of operands)
    then record { label = label; statement = statement_of word (pieces_of operands) }
    else other_form label

-- the line with a label, whose statement is this text
unfoldable pub line_with_label : Option (List ℕ) → List ℕ → Line
line_with_label label text =
    if length text == 0 then record { label = label; statement = Absent }
    else line_with_word label (take_while is_in_word text)
    (trim_start (drop (length (take_while is_in_word text)) text))

-- the line with a name before its colon
unfoldable pub line_with_name : List ℕ → List ℕ → Line
line_with_name name text = if is_name name then line_with_label (Some name) text else other_form None

-- the line that begins with these characters of a name, and goes on with this text
unfoldable pub line_by_colon : List ℕ → List ℕ → List ℕ → Line
line_by_colon name after text =
    if slice_index after 0 == 58 then line_with_name name (trim_start (drop 1 after))
    else line_with_label None text

-- the line of a text without comment and without blanks at its ends
unfoldable pub trimmed_line : List ℕ → Line
trimmed_line text =
    line_by_colon (take_while is_in_name text)
    (trim_start (drop (length (take_while is_in_name text)) text)) text

-- the line of a text
unfoldable pub line_of : List ℕ → Line
line_of text = trimmed_line (trim (without_comment text))

-- The characters of a source by their bytes, blanks, and what stands inside quotes.
-- The rules: docs/COMMANDS.md, "The source".
use Rattle.std.specs.Prelude.{ℕ, ◌+◌, ◌==◌, nat_le, Bool, false, ◌&&◌, ◌||◌, List, [], ◌∷◌, take, reverse, if◌then◌else◌}
use Rattle.std.specs.Char.{is_ascii_digit, is_ascii_alphabetic}
use Rattle.std.specs.List.{onto_first}
use Rattle.mx_source.specs.declared.characters.Quotes.{Quotes}
use Rattle.mx_source.specs.declared.characters.Quotes.TheVariants.{Outside, Inside, Escape}

-- a space or a tab
abbrev pub is_blank : ℕ → Bool
is_blank c = (c == 32) || (c == 9)

-- a letter or _, with which a name begins
abbrev pub begins_name : ℕ → Bool
begins_name c = is_ascii_alphabetic c || (c == 95)

-- a letter, a digit or _
abbrev pub is_in_name : ℕ → Bool
is_in_name c = begins_name c || is_ascii_digit c

-- a character of a statement's word: one of a name, or the point of a directive
abbrev pub is_in_word : ℕ → Bool
is_in_word c = is_in_name c || (c == 46)

-- a character that ASCII prints
abbrev pub is_printed : ℕ → Bool
is_printed c = nat_le 32 c && nat_le c 126

-- a text without the blanks at its front
abbrev pub trim_start : List ℕ → List ℕ
trim_start [] = []
trim_start (c ∷ cs) = if is_blank c then trim_start cs else c ∷ cs

-- without those at its end
abbrev pub trim_end : List ℕ → List ℕ
trim_end cs = reverse (trim_start (reverse cs))

-- without either
abbrev pub trim : List ℕ → List ℕ
trim cs = trim_end (trim_start cs)

-- where a character leaves the text: `"` opens quotes and closes them, but right after a `\`
abbrev pub quotes_after : Quotes → ℕ → Quotes
quotes_after Outside c = if c == 34 then Inside else Outside
quotes_after Inside c = if c == 34 then Outside else (if c == 92 then Escape else Inside)
quotes_after Escape c = Inside

-- whether a character that stands there is this mark outside quotes
abbrev pub is_mark : ℕ → Quotes → ℕ → Bool
is_mark mark Outside c = c == mark
is_mark mark Inside c = false
is_mark mark Escape c = false

-- how many characters stand before the first such mark
abbrev pub mark_place : ℕ → Quotes → List ℕ → ℕ
mark_place mark quotes [] = 0
mark_place mark quotes (c ∷ cs) =
    if is_mark mark quotes c then 0 else mark_place mark (quotes_after quotes c) cs + 1

-- the parts of a text between such marks
abbrev pub parts : ℕ → Quotes → List ℕ → List (List ℕ)
parts mark quotes [] = [] ∷ []
parts mark quotes (c ∷ cs) =
    if is_mark mark quotes c then [] ∷ parts mark Outside cs
    else onto_first c (parts mark (quotes_after quotes c) cs)

-- a line without its comment, which `#` outside quotes begins
abbrev pub without_comment : List ℕ → List ℕ
without_comment line = take (mark_place 35 Outside line) line

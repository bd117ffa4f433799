-- The labels of a source.
-- The rules: docs/COMMANDS.md, "The source".
use Rattle.std.specs.Prelude.{ℕ, ◌+◌, List, [], ◌∷◌, ◌++◌, find, Option, Some, None, is_some, if◌then◌else◌}
use Rattle.std.specs.Option.{option_map_or}
use Rattle.std.specs.Str.{bytes_eq}
use Rattle.mx_asm.specs.declared.places.Place.{Place}
use Rattle.mx_source.specs.Lines.{line_of}
use Rattle.mx_asm.specs.Places.{place_after}

-- a label, the address for which it stands, and the line that defines it first
pub record Definition : Type 0 where
  pub name : List ℕ
  pub address : ℕ
  pub line : ℕ

-- the definition of a name
unfoldable pub definition_of : List Definition → List ℕ → Option Definition
definition_of labels name = find (λ d. bytes_eq name d.name) labels

-- its address, 0 where there is none
abbrev pub address_of_label : List Definition → List ℕ → ℕ
address_of_label labels name = option_map_or (λ d. d.address) (definition_of labels name) 0

-- with a name that a line at an address defines, if no earlier line does
unfoldable pub with_name : Option (List ℕ) → ℕ → ℕ → List Definition → List Definition
with_name None address line labels = labels
with_name (Some name) address line labels =
    if is_some (definition_of labels name) then labels
    else labels ++ record { name = name; address = address; line = line } ∷ []

-- the labels of lines and of those before them; the first of the lines has this number and stands at this place
unfoldable pub labels_from : Place → ℕ → List Definition → List (List ℕ) → List Definition
labels_from place number labels [] = labels
labels_from place number labels (text ∷ lines) =
    let line = line_of text in
    labels_from (place_after line.statement place) (number + 1)
    (with_name line.label place.here number labels) lines

-- What a source denotes: a program, or its first fault.
-- The rules: docs/COMMANDS.md, "The source".
use Rattle.std.specs.Prelude.{◌≡◌, ℕ, ◌-◌, ◌%◌, ◌==◌, List, [], ◌∷◌, map, replicate, length, Option, Some, None, unwrap_or, codes}
use Rattle.std.specs.Prelude.{if◌then◌else◌}
use Rattle.std.specs.Option.{option_map_or, option_or}
use Rattle.std.specs.Str.Lines.{lines}
use Rattle.mx_isa.specs.Table.{encoded}
use Rattle.mx_image.specs.Program.{Program, no_program, with_entry, with_segment, with_label, with_bytes}
use Rattle.mx_image.specs.Image.{words}
use Rattle.mx_asm.specs.declared.places.Place.{Place}
use Rattle.mx_source.specs.declared.mnemonics.Form.{Form}
use Rattle.mx_source.specs.declared.mnemonics.Keyword.{Keyword}
use Rattle.mx_source.specs.declared.mnemonics.Keyword.TheVariants.{Text, Data, At, Word, Byte, Ascii, Li, La, Inst}
use Rattle.mx_asm.specs.declared.faults.SourceFault.{SourceFault}
use Rattle.mx_asm.specs.declared.refusal.AsmRefused.{AsmRefused}
use Rattle.mx_asm.specs.declared.refusal.AsmRefused.TheVariants.{Fault, NoMemory}
use Rattle.mx_source.specs.Numbers.{number_of, number_bits}
use Rattle.mx_source.specs.Lines.{Statement, Absent, Unlisted, Listed, Line, line_of}
use Rattle.mx_source.specs.Fields.{Fields, value_of, value_fields, label_fields, fields_of}
use Rattle.mx_asm.specs.Places.{address_of, ascii_of, start, place_after}
use Rattle.mx_asm.specs.Labels.{Definition, definition_of, labels_from}
use Rattle.mx_asm.specs.Instructions.{offset_of, bits_of_value, inst_of, upper_inst, low_inst}
use Rattle.mx_asm.specs.Faults.{fault_from, offset_from}

-- the word of one value of `.word`, and the byte of one number of `.byte`
abbrev pub word_of_value : List Definition → List ℕ → ℕ
word_of_value labels text = option_map_or (bits_of_value labels) (value_of text) 0

abbrev pub byte_of_number : List ℕ → ℕ
byte_of_number text = option_map_or (λ n. number_bits n % 256) (number_of text) 0

-- the word of an instruction at an address
abbrev pub inst_word : List Definition → ℕ → Form → Fields → ℕ
inst_word labels here form f =
    encoded (inst_of form f (number_bits (offset_of labels here f.value)))

-- the words of `li` and `la`
abbrev pub pair_words : List Definition → Fields → List ℕ
pair_words labels f =
    encoded (upper_inst f.rd (bits_of_value labels f.value))
    ∷ encoded (low_inst f.rd (bits_of_value labels f.value)) ∷ []

-- the bytes of a statement at an address
unfoldable pub bytes_of : List Definition → ℕ → Keyword → List (List ℕ) → List ℕ
bytes_of labels here Text operands = []
bytes_of labels here Data operands = []
bytes_of labels here At operands = replicate (address_of operands - here) 0
bytes_of labels here Word operands = words (map (word_of_value labels) operands)
bytes_of labels here Byte operands = map byte_of_number operands
bytes_of labels here Ascii operands = unwrap_or (ascii_of operands) []
bytes_of labels here Li operands =
    option_map_or (λ f. words (pair_words labels f)) (value_fields operands) []
bytes_of labels here La operands =
    option_map_or (λ f. words (pair_words labels f)) (label_fields operands) []
bytes_of labels here (Inst form) operands =
    option_map_or (λ f. words (inst_word labels here form f ∷ [])) (fields_of form operands) []

-- with a segment of these flags begun at an address, which is the entry where it is the first
abbrev pub with_begun : ℕ → ℕ → Program → Program
with_begun flags address p =
    with_segment (record { address = address; flags = flags; bytes = [] })
    (if length p.segments == 0 then with_entry address p else p)

-- with a listed statement at an address
unfoldable pub with_listed : List Definition → ℕ → Keyword → List (List ℕ) → Program → Program
with_listed labels here Text operands p = with_begun 5 (address_of operands) p
with_listed labels here Data operands p = with_begun 6 (address_of operands) p
with_listed labels here keyword operands p = with_bytes (bytes_of labels here keyword operands) p

-- with a statement
abbrev pub with_statement : List Definition → ℕ → Statement → Program → Program
with_statement labels here Absent p = p
with_statement labels here Unlisted p = p
with_statement labels here (Listed keyword operands) p = with_listed labels here keyword operands p

-- with a label at an address
abbrev pub with_defined : Option (List ℕ) → ℕ → Program → Program
with_defined None here p = p
with_defined (Some name) here p = with_label (record { name = name; address = here }) p

-- with a line at an address
abbrev pub with_line : List Definition → ℕ → Line → Program → Program
with_line labels here line p =
    with_statement labels here line.statement (with_defined line.label here p)

-- with lines, the first of which stands at this place
unfoldable pub program_from : List Definition → Place → List (List ℕ) → Program → Program
program_from labels place [] p = p
program_from labels place (text ∷ more) p =
    let line = line_of text in
    program_from labels (place_after line.statement place) more (with_line labels place.here line p)

-- the labels of a source
abbrev pub labels_of_source : List ℕ → List Definition
labels_of_source source = labels_from start 1 [] (lines source)

-- with the label `start` as its entry, where it is defined
abbrev pub with_start : List Definition → Program → Program
with_start labels p =
    option_map_or (λ d. with_entry d.address p) (definition_of labels (codes "start")) p

-- the program that a source denotes
unfoldable pub program_of : List ℕ → Program
program_of source =
    with_start (labels_of_source source)
    (program_from (labels_of_source source) start (lines source) no_program)

-- the first fault of a source; offsets to labels are judged only where no line has another one
unfoldable pub first_fault : List ℕ → Option SourceFault
first_fault source =
    option_or (fault_from (labels_of_source source) start 1 (lines source))
    (offset_from (labels_of_source source) start 1 (lines source))

-- a refusal tells the first fault, or that memory is wanting
abbrev pub IsToldOf : Option SourceFault → AsmRefused → Type 0
IsToldOf first (Fault line number) = first ≡ Some (record { line = line; number = number })
IsToldOf first NoMemory = Unit {0}

-- The faults of a source by line and number.
-- The rules: docs/COMMANDS.md, "The source".
use Rattle.std.specs.Prelude.{ℕ, ◌+◌, ◌%◌, ◌^◌, ◌==◌, nat_lt, nat_le, min, Bool, true, false, not, ◌&&◌, ◌||◌, List, [], ◌∷◌, length}
use Rattle.std.specs.Prelude.{Option, Some, None, is_some, option_map, if◌then◌else◌}
use Rattle.std.specs.Option.{option_map_or, option_or}
use Rattle.mx_asm.specs.declared.places.Place.{Place}
use Rattle.mx_source.specs.declared.number.Range.{Range}
use Rattle.mx_source.specs.declared.mnemonics.Keyword.{Keyword}
use Rattle.mx_source.specs.declared.mnemonics.Keyword.TheVariants.{Text, Data, At, Word, Byte, Ascii, Li, La, Inst}
use Rattle.mx_asm.specs.declared.faults.SourceFault.{SourceFault}
use Rattle.mx_source.specs.Numbers.{number_of, fits}
use Rattle.mx_source.specs.Lines.{Statement, Absent, Unlisted, Listed, line_of}
use Rattle.mx_source.specs.Fields.{Value, Given, Label, Fields, value_of, value_fields, label_fields, fields_of, range_of, word_range}
use Rattle.mx_source.specs.Fields.{byte_range, address_range}
use Rattle.mx_asm.specs.Places.{address_number, address_of, ascii_of, size_of, place_after}
use Rattle.mx_asm.specs.Labels.{Definition, definition_of}
use Rattle.mx_asm.specs.Instructions.{offset_of}
use Rattle.mx_words.specs.FirstRow.{first_row}
use Rattle.mx_words.specs.Limits.{most_segments, most_segment_bytes}

-- the lesser of two fault numbers, where there are any
abbrev pub lesser_fault : Option ℕ → Option ℕ → Option ℕ
lesser_fault None b = b
lesser_fault (Some a) b = Some (option_map_or (min a) b a)

-- the least of the faults that operands have one by one
abbrev pub least_fault : (List ℕ → Option ℕ) → List (List ℕ) → Option ℕ
least_fault fault [] = None
least_fault fault (a ∷ operands) = lesser_fault (fault a) (least_fault fault operands)

-- 2 where there is no value
abbrev pub kind_fault : {T : Type 0} → (T → Option ℕ) → Option T → Option ℕ
kind_fault fault None = Some 2
kind_fault fault (Some value) = fault value

-- 3: a number out of its range. 4: a label that isn't defined
abbrev pub value_fault : List Definition → Range → Value → Option ℕ
value_fault labels range (Given n) = if fits range n then None else Some 3
value_fault labels range (Label name) = if is_some (definition_of labels name) then None else Some 4

-- of one value of `.word`, and one number of `.byte`
abbrev pub word_fault : List Definition → List ℕ → Option ℕ
word_fault labels text = kind_fault (value_fault labels word_range) (value_of text)

abbrev pub byte_fault : List ℕ → Option ℕ
byte_fault text = kind_fault (λ n. if fits byte_range n then None else Some 3) (number_of text)

-- of operands of which there must be one
abbrev pub some_fault : (List ℕ → Option ℕ) → List (List ℕ) → Option ℕ
some_fault fault operands = if length operands == 0 then Some 2 else least_fault fault operands

-- of an address
abbrev pub address_fault : List (List ℕ) → Option ℕ
address_fault operands =
    kind_fault (λ n. if fits address_range n then None else Some 3) (address_number operands)

-- of fields with a value in this range
abbrev pub fields_fault : List Definition → Range → Option Fields → Option ℕ
fields_fault labels range found = kind_fault (λ f. value_fault labels range f.value) found

-- the faults 2 to 4 of a statement's operands
unfoldable pub operand_fault : List Definition → Keyword → List (List ℕ) → Option ℕ
operand_fault labels Text operands = address_fault operands
operand_fault labels Data operands = address_fault operands
operand_fault labels At operands = address_fault operands
operand_fault labels Word operands = some_fault (word_fault labels) operands
operand_fault labels Byte operands = some_fault byte_fault operands
operand_fault labels Ascii operands = kind_fault (λ text. None) (ascii_of operands)
operand_fault labels Li operands = fields_fault labels word_range (value_fields operands)
operand_fault labels La operands = fields_fault labels word_range (label_fields operands)
operand_fault labels (Inst form) operands =
    fields_fault labels (range_of form) (fields_of form operands)

-- 5: the label was defined on an earlier line, so this isn't the line that defines it first
unfoldable pub label_fault : List Definition → ℕ → Option (List ℕ) → Option ℕ
label_fault labels number None = None
label_fault labels number (Some name) =
    if option_map_or (λ d. d.line == number) (definition_of labels name) true then None else Some 5

-- whether a statement begins a segment
abbrev pub begins_segment : Keyword → Bool
begins_segment Text = true
begins_segment Data = true
begins_segment _ = false

-- whether it must stand at a multiple of 4
abbrev pub is_aligned : Keyword → Bool
is_aligned Word = true
is_aligned Li = true
is_aligned La = true
is_aligned (Inst form) = true
is_aligned _ = false

-- whether it is `.at`
abbrev pub is_at : Keyword → Bool
is_at At = true
is_at _ = false

-- 6: before the first segment. 10: a label at 2^32
abbrev pub label_place_fault : Option (List ℕ) → Place → Option ℕ
label_place_fault label place =
    first_row (
    (is_some label && (place.segments == 0), 6)
    ∷ (is_some label && nat_le (2 ^ 32) place.here, 10)
    ∷ [])

-- a segment or a word that would not begin at a multiple of 4
abbrev pub is_misplaced : Keyword → List (List ℕ) → Place → Bool
is_misplaced keyword operands place =
    (begins_segment keyword && not (address_of operands % 4 == 0))
    || (is_aligned keyword && not (place.here % 4 == 0))

-- too many bytes, a segment that passes 2^32, or a label at 2^32
abbrev pub is_full : Option (List ℕ) → Place → ℕ → Bool
is_full label place size =
    nat_lt most_segment_bytes (place.total + size) || nat_lt (2 ^ 32) (place.here + size)
    || (is_some label && nat_le (2 ^ 32) place.here)

-- 6: before the first segment. 7: not at a multiple of 4. 8: `.at` before the present address. 9: the seventeenth segment.
-- 10: too many bytes, a segment that passes 2^32, or a label at 2^32
unfoldable pub place_fault : Option (List ℕ) → Keyword → List (List ℕ) → Place → Option ℕ
place_fault label keyword operands place =
    first_row (
    ((place.segments == 0) && (is_some label || not (begins_segment keyword)), 6)
    ∷ (is_misplaced keyword operands place, 7)
    ∷ (is_at keyword && nat_lt (address_of operands) place.here, 8)
    ∷ (begins_segment keyword && nat_le most_segments place.segments, 9)
    ∷ (is_full label place (size_of keyword operands place.here), 10)
    ∷ [])

-- the least fault of a line with this number at this place, offsets to labels aside
unfoldable pub line_fault : List Definition → ℕ → Place → Option (List ℕ) → Statement → Option ℕ
line_fault labels number place label Absent =
    option_or (label_fault labels number label) (label_place_fault label place)
line_fault labels number place label Unlisted = Some 1
line_fault labels number place label (Listed keyword operands) =
    option_or (operand_fault labels keyword operands)
    (option_or (label_fault labels number label) (place_fault label keyword operands place))

-- whether an instruction's number, or its offset to a label, is in its range
abbrev pub offset_fits : List Definition → ℕ → Keyword → List (List ℕ) → Bool
offset_fits labels here (Inst form) operands =
    option_map_or (λ f. fits (range_of form) (offset_of labels here f.value))
    (fields_of form operands) true
offset_fits labels here _ operands = true

-- 3: an offset to a label out of its range
unfoldable pub offset_fault : List Definition → Place → Statement → Option ℕ
offset_fault labels place (Listed keyword operands) =
    if offset_fits labels place.here keyword operands then None else Some 3
offset_fault labels place _ = None

-- a fault with its line
abbrev pub at_line : ℕ → Option ℕ → Option SourceFault
at_line line number = option_map (λ n. record { line = line; number = n }) number

-- the first fault of lines, the first of which has this number and stands at this place, offsets to labels aside
unfoldable pub fault_from : List Definition → Place → ℕ → List (List ℕ) → Option SourceFault
fault_from labels place number [] = None
fault_from labels place number (text ∷ lines) =
    let line = line_of text in
    option_or (at_line number (line_fault labels number place line.label line.statement))
    (fault_from labels (place_after line.statement place) (number + 1) lines)

-- the first of their offsets to labels out of its range
unfoldable pub offset_from : List Definition → Place → ℕ → List (List ℕ) → Option SourceFault
offset_from labels place number [] = None
offset_from labels place number (text ∷ lines) =
    let line = line_of text in
    option_or (at_line number (offset_fault labels place line.statement))
    (offset_from labels (place_after line.statement place) (number + 1) lines)

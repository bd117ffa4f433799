-- What a file is read as: an image, or its first fault.
-- The rules: docs/COMMANDS.md, "The manifest".
use Rattle.std.specs.Prelude.{◌≡◌, ◌<◌, ◌≤◌, ℕ, ◌+◌, ◌*◌, ◌%◌, ◌==◌, nat_eq, nat_lt, Bool, not, ◌&&◌, ◌||◌, List, [], ◌∷◌, ◌++◌, length}
use Rattle.std.specs.Prelude.{map, filter, Option, Some, None, Result, Ok, Err}
use Rattle.std.specs.List.{starts_with, flat_map, enumerate_from}
use Rattle.mx_words.specs.FirstRow.{Row, first_row}
use Rattle.mx_words.specs.Limits.{most_segments}
use Rattle.mx_elf.specs.declared.image.Image.{Image}
use Rattle.mx_elf.specs.declared.image.ImageFault.{ImageFault}
use Rattle.mx_elf.specs.declared.segment.Seg.{Seg}
use Rattle.mx_elf.specs.Field.{places}
use Rattle.mx_elf.specs.Header.{ei_class, ei_data, e_type, e_machine, e_entry, e_phoff, e_phentsize, e_phnum, p_type, p_offset, p_vaddr}
use Rattle.mx_elf.specs.Header.{p_filesz, p_memsz, p_flags}

-- a row of the table of faults: whether it applies, and its number
abbrev pub Fault : Type 0
Fault = Row ℕ

-- the number of the first row that applies
abbrev pub first_fault : List Fault → Option ℕ
first_fault rows = first_row rows

-- the bytes 7F 45 4C 46, with which each file begins
abbrev pub magic : List ℕ
magic = 0x7F ∷ 0x45 ∷ 0x4C ∷ 0x46 ∷ []

-- whether program headers have another size than 32 bytes, or reach past the file
abbrev pub has_unreadable_headers : List ℕ → Bool
has_unreadable_headers bytes =
    not (e_phentsize bytes == 32) || nat_lt (length bytes) (e_phoff bytes + 32 * e_phnum bytes)

-- the faults of the file header and of the table of program headers, in order
abbrev pub header_rows : List ℕ → List Fault
header_rows bytes =
    (nat_lt (length bytes) 52, 1)
    ∷ (not (starts_with nat_eq bytes magic), 2)
    ∷ (not (ei_class bytes == 1) || not (ei_data bytes == 1), 3)
    ∷ (not (e_type bytes == 2), 4)
    ∷ (not (e_machine bytes == 243), 5)
    ∷ (not (e_phnum bytes == 0) && has_unreadable_headers bytes, 6)
    ∷ []

-- the faults of a segment with its place among the loaded ones, in a file of size bytes
abbrev pub segment_rows : ℕ → ℕ × Seg → List Fault
segment_rows size placed =
    let s = placed.1 in
    (placed.0 == most_segments, 7)
    ∷ (not (s.file == 0) && nat_lt size (s.offset + s.file), 8)
    ∷ (nat_lt s.memory s.file, 9)
    ∷ (not (s.address % 4 == 0), 10)
    ∷ []

-- whether the program header at a place is a loaded segment
abbrev pub is_loaded : List ℕ → ℕ → Bool
is_loaded bytes at = (p_type bytes at == 1) && nat_lt 0 (p_memsz bytes at)

-- what it says
abbrev pub segment_at : List ℕ → ℕ → Seg
segment_at bytes at = record {
  offset = p_offset bytes at;
  file = p_filesz bytes at;
  address = p_vaddr bytes at;
  memory = p_memsz bytes at;
  flags = p_flags bytes at;
}

-- the loaded segments among program headers at these places
abbrev pub segments_at : List ℕ → List ℕ → List Seg
segments_at bytes headers = map (segment_at bytes) (filter (is_loaded bytes) headers)

-- the loaded segments of the file, in its order
abbrev pub segments_of : List ℕ → List Seg
segments_of bytes = segments_at bytes (places (e_phoff bytes) 32 (e_phnum bytes))

-- the rows of segments, one after the other, the first one being at this place among the loaded ones
abbrev pub rows_from : ℕ → ℕ → List Seg → List Fault
rows_from size place segments = flat_map (segment_rows size) (enumerate_from place segments)

-- all faults that a file may have, in the order in which they are tested
abbrev pub rows_of : List ℕ → List Fault
rows_of bytes = header_rows bytes ++ rows_from (length bytes) 0 (segments_of bytes)

-- a value, unless there is a fault
abbrev pub unless : {T : Type 0} → Option ℕ → T → Result T ImageFault
unless None value = Ok value
unless (Some number) value = Err (record { number = number })

-- what is known of a loaded segment in a file of size bytes
pub record IsSound (size : ℕ) (s : Seg) : Type 0 where
  pub inside : 0 < s.file → s.offset + s.file ≤ size
  pub held : s.file ≤ s.memory
  pub covers : 0 < s.memory
  pub aligned : s.address % 4 ≡ 0

-- the image of a file, or its first fault
unfoldable pub image_of : List ℕ → Result Image ImageFault
image_of bytes =
    unless (first_fault (rows_of bytes))
    (record { entry = e_entry bytes; segments = segments_of bytes })

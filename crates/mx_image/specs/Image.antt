-- The bytes of a program's image, part by part (System V gABI, "ELF Header", "Program Header", "Sections", "Symbol Table").
-- All numbers are little-endian.
-- The rules: docs/COMMANDS.md, "The image".
use Rattle.std.specs.Prelude.{ℕ, zero, suc, ◌+◌, ◌-◌, ◌*◌, ◌/◌, ◌%◌, List, [], ◌∷◌, ◌++◌, length, replicate}
use Rattle.std.specs.List.{flat_map}
use Rattle.mx_image.specs.declared.segment.Segment.{Segment}
use Rattle.mx_image.specs.Program.{Label, Program, filled}

-- the bytes of a number, its lowest first
abbrev pub little_endian : ℕ → ℕ → List ℕ
little_endian zero n = []
little_endian (suc size) n = n % 256 ∷ little_endian size (n / 256)

-- numbers of 2 bytes each
abbrev pub halves : List ℕ → List ℕ
halves numbers = flat_map (little_endian 2) numbers

-- numbers of 4 bytes each
abbrev pub words : List ℕ → List ℕ
words numbers = flat_map (little_endian 4) numbers

-- the next multiple of 4
abbrev pub rounded : ℕ → ℕ
rounded n = (n + 3) / 4 * 4

-- bytes with zero bytes after them up to the next multiple of 4
abbrev pub padded : List ℕ → List ℕ
padded bytes = bytes ++ replicate (rounded (length bytes) - length bytes) 0

-- magic, class 1 for 32 bits, data 1 for the lowest byte first, version 1, and nine bytes that are 0
abbrev pub ident : List ℕ
ident = 0x7F ∷ 0x45 ∷ 0x4C ∷ 0x46 ∷ 1 ∷ 1 ∷ 1 ∷ 0 ∷ 0 ∷ 0 ∷ 0 ∷ 0 ∷ 0 ∷ 0 ∷ 0 ∷ 0 ∷ []

-- e_type 2, e_machine 243; e_version 1, e_entry, e_phoff 52, e_shoff, e_flags;
-- e_ehsize 52, e_phentsize 32, e_phnum, e_shentsize 40, e_shnum 3, e_shstrndx 2
abbrev pub file_header : ℕ → ℕ → ℕ → List ℕ
file_header entry sections_at count =
    ident ++ halves (2 ∷ 243 ∷ []) ++ words (1 ∷ entry ∷ 52 ∷ sections_at ∷ 0 ∷ [])
    ++ halves (52 ∷ 32 ∷ count ∷ 40 ∷ 3 ∷ 2 ∷ [])

-- of a segment whose bytes stand at a place: p_type 1, p_offset, p_vaddr, p_paddr, p_filesz, p_memsz, p_flags, p_align 4
abbrev pub program_header : ℕ → Segment → List ℕ
program_header at s =
    words (1 ∷ at ∷ s.address ∷ s.address ∷ length s.bytes ∷ length s.bytes ∷ s.flags ∷ 4 ∷ [])

-- of segments whose bytes stand one after the other, the first at a place
abbrev pub program_headers : ℕ → List Segment → List ℕ
program_headers at [] = []
program_headers at (s ∷ segments) =
    program_header at s ++ program_headers (at + rounded (length s.bytes)) segments

-- the bytes of segments, each followed by zero bytes up to a multiple of 4
abbrev pub contents : List Segment → List ℕ
contents segments = flat_map (λ s. padded s.bytes) segments

-- the null symbol
abbrev pub null_symbol : List ℕ
null_symbol = words (0 ∷ 0 ∷ 0 ∷ 0 ∷ [])

-- of a label whose name stands at a place in the strings: st_name, st_value, st_size; st_info, st_other; st_shndx
abbrev pub symbol : ℕ → Label → List ℕ
symbol at l = words (at ∷ l.address ∷ 0 ∷ []) ++ 0 ∷ 0 ∷ halves (0xFFF1 ∷ [])

-- of labels whose names stand one after the other, the first at a place
abbrev pub symbols_from : ℕ → List Label → List ℕ
symbols_from at [] = []
symbols_from at (l ∷ labels) = symbol at l ++ symbols_from (at + length l.name + 1) labels

-- the symbol table; the first name stands right after the zero byte with which the strings begin
abbrev pub symbol_table : List Label → List ℕ
symbol_table labels = null_symbol ++ symbols_from 1 labels

-- names, each with a zero byte after it
abbrev pub names : List Label → List ℕ
names labels = flat_map (λ l. l.name ++ 0 ∷ []) labels

-- the strings: a zero byte and the names
abbrev pub strings : List Label → List ℕ
strings labels = 0 ∷ names labels

-- the null section header
abbrev pub null_section : List ℕ
null_section = words (0 ∷ 0 ∷ 0 ∷ 0 ∷ 0 ∷ 0 ∷ 0 ∷ 0 ∷ 0 ∷ 0 ∷ [])

-- of so many symbols at a place: sh_name, sh_type 2, sh_flags, sh_addr; sh_offset, sh_size; sh_link 2, sh_info, which counts
-- the local ones, as all are; sh_addralign, sh_entsize 16
abbrev pub symbol_section : ℕ → ℕ → List ℕ
symbol_section at count = words (0 ∷ 2 ∷ 0 ∷ 0 ∷ at ∷ 16 * count ∷ 2 ∷ count ∷ 0 ∷ 16 ∷ [])

-- of strings with so many bytes at a place: sh_type 3; sh_offset, sh_size
abbrev pub string_section : ℕ → ℕ → List ℕ
string_section at size = words (0 ∷ 3 ∷ 0 ∷ 0 ∷ at ∷ size ∷ 0 ∷ 0 ∷ 0 ∷ 0 ∷ [])

-- the null section header, that of so many symbols at a place, and that of the strings with so many bytes at a place
abbrev pub section_headers : ℕ → ℕ → ℕ → ℕ → List ℕ
section_headers symbols_at count strings_at size =
    null_section ++ symbol_section symbols_at count ++ string_section strings_at size

-- where the bytes of segments begin, after the headers of so many
abbrev pub contents_at : ℕ → ℕ
contents_at count = 52 + 32 * count

-- where the symbol table stands
abbrev pub symbols_at : List Segment → ℕ
symbols_at segments = contents_at (length segments) + length (contents segments)

-- where the strings stand
abbrev pub strings_at : List Segment → List Label → ℕ
strings_at segments labels = symbols_at segments + 16 * (length labels + 1)

-- where the section headers stand
abbrev pub sections_at : List Segment → List Label → ℕ
sections_at segments labels = strings_at segments labels + rounded (length (strings labels))

-- the image of segments that have bytes, and of labels
unfoldable pub image_with : ℕ → List Segment → List Label → List ℕ
image_with entry segments labels =
    file_header entry (sections_at segments labels) (length segments)
    ++ program_headers (contents_at (length segments)) segments
    ++ contents segments
    ++ symbol_table labels
    ++ padded (strings labels)
    ++ section_headers (symbols_at segments) (length labels + 1) (strings_at segments labels)
    (length (strings labels))

-- the image of a program: segments without bytes are left out
abbrev pub image_of : Program → List ℕ
image_of p = image_with p.entry (filled p.segments) p.labels

-- The fields of a file's headers and symbols, by their offsets (System V gABI, "ELF Header", "Program Header", "Sections", "Symbol Table").
-- The rules: docs/COMMANDS.md, "The manifest".
use Rattle.std.specs.Prelude.{ℕ, ◌+◌, List}
use Rattle.mx_elf.specs.Field.{byte_at, half_at, word_at}

-- the class of the file: 1 for 32 bits
abbrev pub ei_class : List ℕ → ℕ
ei_class bytes = byte_at bytes 4

-- the order of a number's bytes: 1 for the lowest first
abbrev pub ei_data : List ℕ → ℕ
ei_data bytes = byte_at bytes 5

-- the kind of the file: 2 for an executable one
abbrev pub e_type : List ℕ → ℕ
e_type bytes = half_at bytes 16

-- the machine: 243 for RISC-V
abbrev pub e_machine : List ℕ → ℕ
e_machine bytes = half_at bytes 18

-- the address at which the program begins
abbrev pub e_entry : List ℕ → ℕ
e_entry bytes = word_at bytes 24

-- the place of the first program header
abbrev pub e_phoff : List ℕ → ℕ
e_phoff bytes = word_at bytes 28

-- the place of the first section header
abbrev pub e_shoff : List ℕ → ℕ
e_shoff bytes = word_at bytes 32

-- the size of a program header
abbrev pub e_phentsize : List ℕ → ℕ
e_phentsize bytes = half_at bytes 42

-- the number of program headers
abbrev pub e_phnum : List ℕ → ℕ
e_phnum bytes = half_at bytes 44

-- the size of a section header
abbrev pub e_shentsize : List ℕ → ℕ
e_shentsize bytes = half_at bytes 46

-- the number of section headers
abbrev pub e_shnum : List ℕ → ℕ
e_shnum bytes = half_at bytes 48

-- of the program header at a place: its type, 1 for a part of memory
abbrev pub p_type : List ℕ → ℕ → ℕ
p_type bytes at = word_at bytes at

-- where its bytes stand in the file
abbrev pub p_offset : List ℕ → ℕ → ℕ
p_offset bytes at = word_at bytes (at + 4)

-- the address of its first byte
abbrev pub p_vaddr : List ℕ → ℕ → ℕ
p_vaddr bytes at = word_at bytes (at + 8)

-- how many bytes the file has of it
abbrev pub p_filesz : List ℕ → ℕ → ℕ
p_filesz bytes at = word_at bytes (at + 16)

-- how many bytes it has in memory
abbrev pub p_memsz : List ℕ → ℕ → ℕ
p_memsz bytes at = word_at bytes (at + 20)

-- its flags: 1 executable, 2 writable, 4 readable
abbrev pub p_flags : List ℕ → ℕ → ℕ
p_flags bytes at = word_at bytes (at + 24)

-- of the section header at a place: its type, 2 for a symbol table
abbrev pub sh_type : List ℕ → ℕ → ℕ
sh_type bytes at = word_at bytes (at + 4)

-- where its bytes stand in the file
abbrev pub sh_offset : List ℕ → ℕ → ℕ
sh_offset bytes at = word_at bytes (at + 16)

-- how many bytes it has
abbrev pub sh_size : List ℕ → ℕ → ℕ
sh_size bytes at = word_at bytes (at + 20)

-- the number of the section that goes with it
abbrev pub sh_link : List ℕ → ℕ → ℕ
sh_link bytes at = word_at bytes (at + 24)

-- of the symbol at a place: where its name stands in the strings
abbrev pub st_name : List ℕ → ℕ → ℕ
st_name symbols at = word_at symbols at

-- its value, an address
abbrev pub st_value : List ℕ → ℕ → ℕ
st_value symbols at = word_at symbols (at + 4)

-- the number of the section that defines it, 0 for none
abbrev pub st_shndx : List ℕ → ℕ → ℕ
st_shndx symbols at = half_at symbols (at + 14)

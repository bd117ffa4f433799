-- The value of a symbol.
-- The rules: docs/COMMANDS.md, "The manifest".
use Rattle.std.specs.Prelude.{◌≡◌, ℕ, ◌+◌, ◌*◌, ◌/◌, ◌==◌, nat_lt, nat_le, Bool, false, not, ◌&&◌, if◌then◌else◌, List, [], ◌∷◌, length}
use Rattle.std.specs.Prelude.{take, drop, find, Option, Some, None, option_and_then, option_map}
use Rattle.std.specs.List.{list_any}
use Rattle.std.specs.Option.{option_map_or}
use Rattle.std.specs.Str.{bytes_eq}
use Rattle.mx_elf.specs.Field.{places}
use Rattle.mx_elf.specs.Header.{e_shoff, e_shentsize, e_shnum, sh_type, sh_offset, sh_size, sh_link, st_name, st_value, st_shndx}

infixl 10 ◌>>=◌
abbrev pub ◌>>=◌ : {A B : Type 0} → Option A → (A → Option B) → Option B
o >>= f = option_and_then f o

-- whether the file has section headers, of the usual size and all inside it
abbrev pub has_sections : List ℕ → Bool
has_sections bytes =
    nat_le 52 (length bytes) && not (e_shnum bytes == 0) && (e_shentsize bytes == 40)
    && nat_le (e_shoff bytes + 40 * e_shnum bytes) (length bytes)

-- the place of the symbol table's header: of the first section of type 2
unfoldable pub symbol_table_of : List ℕ → Option ℕ
symbol_table_of bytes =
    if has_sections bytes
    then find (λ at. sh_type bytes at == 2) (places (e_shoff bytes) 40 (e_shnum bytes))
    else None

-- the place of the header of the section with a number
unfoldable pub section_place : List ℕ → ℕ → Option ℕ
section_place bytes number =
    if nat_lt number (e_shnum bytes) then Some (e_shoff bytes + 40 * number) else None

-- the bytes of the section whose header stands at a place, if they lie in the file
unfoldable pub section_bytes : List ℕ → ℕ → Option (List ℕ)
section_bytes bytes at =
    if nat_le (sh_offset bytes at + sh_size bytes at) (length bytes)
    then Some (take (sh_size bytes at) (drop (sh_offset bytes at) bytes)) else None

-- the name with which these strings begin: their bytes up to a zero byte
abbrev pub name_of : List ℕ → Option (List ℕ)
name_of [] = None
name_of (b ∷ strings) = if b == 0 then Some [] else option_map (λ name. b ∷ name) (name_of strings)

-- whether these strings begin with this name
abbrev pub begins_with_name : List ℕ → List ℕ → Bool
begins_with_name strings name = option_map_or (λ found. bytes_eq found name) (name_of strings) false

-- no byte of a name is zero
abbrev pub HasNoZero : List ℕ → Type 0
HasNoZero name = list_any (λ b. b == 0) name ≡ false

-- whether the symbol at a place is defined and has this name
abbrev pub is_defined : List ℕ → List ℕ → List ℕ → ℕ → Bool
is_defined symbols strings name at =
    not (st_shndx symbols at == 0) && begins_with_name (drop (st_name symbols at) strings) name

-- the value of the first symbol that is defined and has this name
unfoldable pub value_of : List ℕ → List ℕ → List ℕ → Option ℕ
value_of symbols strings name =
    option_map (st_value symbols)
    (find (is_defined symbols strings name) (places 0 16 (length symbols / 16)))

-- the value of the symbol with this name in a file, if there is one
unfoldable pub symbol_of : List ℕ → List ℕ → Option ℕ
symbol_of bytes name = do
  table ← symbol_table_of bytes
  symbols ← section_bytes bytes table
  strings_at ← section_place bytes (sh_link bytes table)
  strings ← section_bytes bytes strings_at
  value_of symbols strings name

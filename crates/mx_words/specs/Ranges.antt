-- Ranges of RAM words, and the addresses of words. Word i has the address 0x80000000 + 4 i.
-- The rules: docs/MACHINE.md, "Memory, domains, harts" and "Supervisor calls".
use Rattle.std.specs.Prelude.{ℕ, ◌+◌, ◌-◌, ◌*◌, ◌/◌, ◌%◌, Bool, ◌==◌, ◌&&◌, nat_lt, nat_le, if◌then◌else◌, Option, Some, None, unwrap_or}
-- the greatest number of words of a RAM
pub use Rattle.mx_words.specs.Limits.{most_words}

-- the address of RAM's first byte
abbrev pub ram_base : ℕ
ram_base = 0x80000000

-- the address of a word
abbrev pub address_of : ℕ → ℕ
address_of word = ram_base + 4 * word

-- whether word w is one of the words first to first + count - 1
abbrev pub covers : ℕ → ℕ → ℕ → Bool
covers first count w = nat_le first w && nat_lt (w - first) count

-- whether some word lies in both ranges; in an empty one there is none
abbrev pub overlaps : ℕ → ℕ → ℕ → ℕ → Bool
overlaps a n b m =
    nat_lt 0 n && nat_lt 0 m && (if nat_lt a b then nat_lt (b - a) n else nat_lt (a - b) m)

-- whether an address lies in a RAM of `words` words
abbrev pub in_ram : ℕ → ℕ → Bool
in_ram address words = nat_le ram_base address && nat_lt (address - ram_base) (4 * words)

-- the word that holds an address, and nothing outside RAM
abbrev pub word_of : ℕ → ℕ → Option ℕ
word_of address words = if in_ram address words then Some ((address - ram_base) / 4) else None

-- whether `size` bytes from an address on are a range: at least one byte, from a multiple of 4 on, all in RAM
abbrev pub is_range : ℕ → ℕ → ℕ → Bool
is_range address size words =
    nat_lt 0 size && (address % 4 == 0) && nat_le ram_base address &&
    nat_le (address + size) (ram_base + 4 * words)

-- the words of a range, as its first word and their number, and nothing where it is no range
abbrev pub word_range : ℕ → ℕ → ℕ → Option (ℕ × ℕ)
word_range address size words =
    if is_range address size words then Some ((address - ram_base) / 4, (size + 3) / 4) else None

-- the same, where no words, (0, 0), stand for what is no range
abbrev pub range_words : ℕ → ℕ → ℕ → ℕ × ℕ
range_words address size words = unwrap_or (word_range address size words) (0, 0)

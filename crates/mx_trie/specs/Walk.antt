-- The stored words of a trie: where a walk for a word goes, and the reaches of a line's entry by a map.
use Rattle.std.specs.Prelude.{ℕ, ◌*◌, ◌/◌, ◌%◌, ◌==◌, ◌&&◌, Bool, nat_lt, if◌then◌else◌, List, length, Option, unwrap_or}
use Rattle.std.specs.Option.{option_map_or}
use Rattle.mx_words.specs.declared.perm.Perm.{Perm}
use Rattle.mx_words.specs.declared.tables.Kind.{Kind}
use Rattle.mx_words.specs.declared.tables.Kind.TheVariants as K
use Rattle.mx_words.specs.Ranges.{address_of}
use Rattle.mx_words.specs.Runs.{line_words, region_words}
use Rattle.mx_words.specs.Reach.{left_reach, right_reach}
use Rattle.mx_pool.specs.Frames.{word_at}
use Rattle.mx_trie.specs.Digits.{digit, numbered}
use Rattle.mx_trie.specs.Leaf.{spill_number}

-- the meaning of a pool: by frame number, its words where it is taken
abbrev pub Frames : Type 0
Frames = List (Option (List ℕ))

-- the greatest numbers of regions, pages and lines
abbrev pub most_regions : ℕ
most_regions = 16

abbrev pub most_pages : ℕ
most_pages = 16384

abbrev pub most_lines : ℕ
most_lines = 1048576

-- whether an upper entry is a pointer, and where it points
abbrev pub is_pointer : ℕ → Bool
is_pointer entry = entry % 4 == 0

abbrev pub target : ℕ → ℕ
target entry = entry / 4

-- the place of region x in a root table: an entry there maps 4 MiB of the address space, and RAM doesn't begin
-- at address 0
unfoldable pub root_place : ℕ → ℕ
root_place x = address_of (x * region_words) / (4 * region_words)

-- the entry of region x in a root table, and of page y in the mid table of its region
abbrev pub root_word : Frames → ℕ → ℕ → ℕ
root_word upper root x = word_at upper root (root_place x)

abbrev pub mid_word : Frames → ℕ → ℕ → ℕ
mid_word upper root y = word_at upper (target (root_word upper root (y / 1024))) (y % 1024)

-- the spill word of a leaf entry, or 0 where it has none
abbrev pub spilled_word : Kind → Frames → ℕ → ℕ
spilled_word kind spill entry = option_map_or (λ n. word_at spill n 0) (spill_number kind entry) 0

-- whether region x has a mid table, and whether page y has a leaf table
abbrev pub has_mid : Frames → ℕ → ℕ → Bool
has_mid upper root x = is_pointer (root_word upper root x)

abbrev pub has_leaf : Frames → ℕ → ℕ → Bool
has_leaf upper root y = has_mid upper root (y / 1024) && is_pointer (mid_word upper root y)

-- the permission of part e of a block that has a vector
abbrev pub vector_perm : ℕ → ℕ → Perm
vector_perm entry e = numbered (digit (entry / 4) e)

-- the reaches of a line's entry by the map: 0 where entries have none
abbrev pub form_left : Kind → List Perm → ℕ → ℕ
form_left K.Packed m line = left_reach m line
form_left kind m line = 0

abbrev pub form_right : Kind → List Perm → ℕ → ℕ
form_right K.Packed m line = right_reach m line
form_right kind m line = 0

-- the reaches of line z's entry by the map; a line outside RAM has none
abbrev pub map_left : Kind → List Perm → ℕ → ℕ
map_left kind m z = if nat_lt (z * line_words) (length m) then form_left kind m (z * line_words) else 0

abbrev pub map_right : Kind → List Perm → ℕ → ℕ
map_right kind m z = if nat_lt (z * line_words) (length m) then form_right kind m (z * line_words) else 0

-- the number of a leaf entry's spill word, or 0 where it has none
abbrev pub line_number : Kind → ℕ → ℕ
line_number kind entry = unwrap_or (spill_number kind entry) 0

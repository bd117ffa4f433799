-- What a walk of the tables answers for a word, and the stored item that decides it. Both are functions of the map.
-- The rules: docs/MACHINE.md, "What a walk answers, and what is stored".
use Rattle.std.specs.Prelude.{ℕ, ◌+◌, ◌-◌, ◌*◌, ◌/◌, ◌^◌, Bool, true, ◌==◌, min, List, [], ◌∷◌, length, take, drop, slice_range}
use Rattle.std.specs.Prelude.{slice_index, if◌then◌else◌}
use Rattle.std.specs.Prelude.{map as list_map}
use Rattle.std.specs.List.{prefix_len, suffix_len, range_with_len}
use Rattle.mx_words.specs.declared.perm.Perm.{Perm}
use Rattle.mx_words.specs.declared.perm.Span.{Span}
use Rattle.mx_words.specs.declared.tables.Kind.{Kind}
use Rattle.mx_words.specs.declared.tables.Kind.TheVariants as K
use Rattle.mx_words.specs.declared.tables.Level.{Level}
use Rattle.mx_words.specs.declared.tables.Level.TheVariants as L
use Rattle.mx_words.specs.declared.tables.Shown.{Shown}
use Rattle.mx_words.specs.Rights.{number, same, perm_at}
use Rattle.mx_words.specs.Ranges.{address_of}
use Rattle.mx_words.specs.Runs.{Run, runs_of, line_words, page_words, region_words, block_at, is_eighth_uniform, is_crowded, whole_line}

-- a crowded line of a packed trie is decided by its spill word
abbrev pub line_level : Kind → Bool → Level
line_level K.Packed true = L.Spill
line_level kind crowded = L.Leaf

-- the level of a trie at which word i is decided
abbrev pub trie_level : Kind → List Perm → ℕ → Level
trie_level kind m i =
    if is_eighth_uniform region_words (block_at region_words m i) then L.Root else
    if is_eighth_uniform page_words (block_at page_words m i) then L.Mid else
    line_level kind (is_crowded (block_at line_words m i))

-- the level at which a kind of tables decides word i
abbrev pub level : Kind → List Perm → ℕ → Level
level K.Segments m i = L.Segment
level K.Multilevel m i = trie_level K.Multilevel m i
level K.Packed m i = trie_level K.Packed m i

-- the run of equal permissions round word i among the words from low up to high
abbrev pub span_within : List Perm → ℕ → ℕ → ℕ → Span
span_within m low high i =
    let p = perm_at m i in
    let left = suffix_len (same p) (slice_range m low i) in
    let right = prefix_len (same p) (slice_range m i high) in
    record { first = i - left; count = left + right; perm = p }

-- word i's aligned block of `size` words, cut at RAM's end
abbrev pub first_in : ℕ → ℕ → ℕ
first_in size i = i / size * size

abbrev pub count_in : ℕ → List Perm → ℕ → ℕ
count_in size m i = min size (length m - first_in size i)

abbrev pub block_span : ℕ → List Perm → ℕ → Span
block_span size m i =
    record { first = first_in size i; count = count_in size m i; perm = perm_at m i }

-- the run of word i within its line
abbrev pub line_span : List Perm → ℕ → Span
line_span m i = span_within m (first_in line_words i) (first_in line_words i + line_words) i

-- the greatest reach of an entry
abbrev pub most_reach : ℕ
most_reach = 31

-- how many words right before the line all have the permission of its first word, at most 31
abbrev pub left_reach : List Perm → ℕ → ℕ
left_reach m line = min most_reach (suffix_len (same (perm_at m line)) (take line m))

-- how many words right after the line all have the permission of its last word, at most 31
abbrev pub right_reach : List Perm → ℕ → ℕ
right_reach m line =
    min most_reach
    (prefix_len (same (perm_at m (line + line_words - 1))) (drop (line + line_words) m))

-- a run of a line, lengthened by the reaches where it stands at the line's edges
abbrev pub reached : List Perm → ℕ → Span → Span
reached m line s =
    let left : ℕ = if s.first == line then left_reach m line else 0 in
    let right : ℕ = if s.first + s.count == line + line_words then right_reach m line else 0 in
    record { first = s.first - left; count = left + s.count + right; perm = s.perm }

-- the span that a walk answers at each level
abbrev pub span_at : Kind → Level → List Perm → ℕ → Span
span_at kind L.Segment m i = span_within m 0 (length m) i
span_at kind L.Root m i = block_span (region_words / 8) m i
span_at kind L.Mid m i = block_span (page_words / 8) m i
span_at K.Packed L.Leaf m i = reached m (first_in line_words i) (line_span m i)
span_at kind L.Leaf m i = line_span m i
span_at kind L.Spill m i = line_span m i

-- the span that a walk answers for word i
abbrev pub span : Kind → List Perm → ℕ → Span
span kind m i = span_at kind (level kind m i) m i

-- permissions of two bits each, the first in the lowest bits
abbrev pub packed : List Perm → ℕ
packed [] = 0
packed (p ∷ ps) = number p + 4 * packed ps

-- the permissions of the first words of the eight parts of a block that begins at a word
abbrev pub eighths : ℕ → List Perm → ℕ → List Perm
eighths size m first = list_map (λ e. perm_at m (first + size / 8 * e)) (range_with_len 0 8)

-- the entry of an upper table for a block that is eighth-uniform: bits 1..0 are 1, bits 17..2 its eight permissions
abbrev pub vector : ℕ → List Perm → ℕ → ℕ
vector size m first = 1 + 4 * packed (eighths size m first)

-- the starts of runs of which the first begins at `start`
abbrev pub starts_from : ℕ → List (Run Perm) → List ℕ
starts_from start [] = []
starts_from start (r ∷ rs) = start ∷ starts_from (start + r.count) rs

-- the packed entry of a line's runs, at most four: bits 1..0 are 2, bits 9..2 the permissions, bits 13..10, 17..14 and 21..18
-- the starts of the second, third and fourth run, 0 for one that isn't there, bits 26..22 and 31..27 the right and left reach
abbrev pub mini_entry : List (Run Perm) → ℕ → ℕ → ℕ
mini_entry rs left right =
    let perms = list_map (λ (r : Run Perm). number r.value) rs in
    let starts = starts_from 0 rs in
    2 + 4 * slice_index perms 0 + 2 ^ 4 * slice_index perms 1 + 2 ^ 6 * slice_index perms 2 +
    2 ^ 8 * slice_index perms 3
    + 2 ^ 10 * slice_index starts 1 + 2 ^ 14 * slice_index starts 2 + 2 ^ 18 * slice_index starts 3
    + 2 ^ 22 * right + 2 ^ 27 * left

-- the permissions of the line that begins at a word, those outside RAM being none
abbrev pub line_at : List Perm → ℕ → List Perm
line_at m line = whole_line (block_at line_words m line)

-- the stored word of a line that isn't crowded
abbrev pub line_entry : Kind → List Perm → ℕ → ℕ
line_entry K.Packed m line =
    mini_entry (runs_of same (line_at m line)) (left_reach m line) (right_reach m line)
line_entry kind m line = packed (line_at m line)

-- an item that stands for word i's block of `size` words, cut at RAM's end
abbrev pub shown_block : Level → ℕ → List Perm → ℕ → ℕ → Shown
shown_block l size m i word =
    record { level = l; first = first_in size i; count = count_in size m i; stored = word }

abbrev pub shown_run : Span → Shown
shown_run s =
    record {
      level = L.Segment;
      first = s.first;
      count = s.count;
      stored = address_of s.first + number s.perm;
    }

-- the item at each level
abbrev pub stored_at : Kind → Level → List Perm → ℕ → Shown
stored_at kind L.Segment m i = shown_run (span_within m 0 (length m) i)
stored_at kind L.Root m i =
    shown_block L.Root region_words m i (vector region_words m (first_in region_words i))
stored_at kind L.Mid m i =
    shown_block L.Mid page_words m i (vector page_words m (first_in page_words i))
stored_at kind L.Leaf m i =
    shown_block L.Leaf line_words m i (line_entry kind m (first_in line_words i))
stored_at kind L.Spill m i =
    shown_block L.Spill line_words m i (packed (line_at m (first_in line_words i)))

-- the stored item that decides word i
abbrev pub stored : Kind → List Perm → ℕ → Shown
stored kind m i = stored_at kind (level kind m i) m i

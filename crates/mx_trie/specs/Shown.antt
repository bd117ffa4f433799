-- How stored words stand for a map: each block has a pointer exactly where it isn't eighth-uniform, else its
-- vector, else its parts.
use Rattle.std.specs.Prelude.{◌≡◌, ℕ, ◌+◌, ◌*◌, ◌^◌, ◌<◌, ◌≤◌, true, false, List, length, Some}
use Rattle.mx_words.specs.declared.perm.Perm.{Perm}
use Rattle.mx_words.specs.declared.tables.Kind.{Kind}
use Rattle.mx_words.specs.Ranges.{most_words}
use Rattle.mx_words.specs.Blocks.{is_broken}
use Rattle.mx_words.specs.Reach.{vector, line_at, packed}
use Rattle.mx_words.specs.Runs.{page_words, region_words}
use Rattle.mx_pool.specs.Frames.{IsTaken, word_at}
use Rattle.mx_trie.specs.Leaf.{leaf_entry, needs_spill, spill_number}
use Rattle.mx_trie.specs.Walk.{Frames, most_regions, is_pointer, target, root_word, line_number, map_left, map_right}

-- a leaf entry stands for line z: its permissions, and its reaches by the map, with a spill word where the line
-- needs one
pub record IsLine (kind : Kind) (spill : Frames) (m : List Perm) (z e : ℕ) : Type 0 where
  pub entry : e ≡ leaf_entry kind (line_at m (z * 16)) (map_left kind m z) (map_right kind m z) (line_number kind e)
  pub spilled : needs_spill kind (line_at m (z * 16)) ≡ true →
      word_at spill (line_number kind e) 0 ≡ packed (line_at m (z * 16))
  pub numbered : line_number kind e < 2 ^ 30

-- an entry of line z of some map
pub record IsLineOfSome (kind : Kind) (spill : Frames) (z e : ℕ) : Type 0 where
  pub map : List Perm
  pub few : length map ≤ most_words
  pub line : IsLine kind spill map z e

-- the same, and its spill word is taken
pub record IsSomeLine (kind : Kind) (spill : Frames) (z e : ℕ) : Type 0 where
  pub map : List Perm
  pub few : length map ≤ most_words
  pub line : IsLine kind spill map z e
  pub taken : (g : ℕ) → spill_number kind e ≡ Some g → IsTaken spill g

-- the entries of a leaf table stand for the lines of page y
abbrev pub AreLines : Kind → Frames → Frames → List Perm → ℕ → ℕ → Type 0
AreLines kind leaf spill m y frame = (k : ℕ) → k < 64 → IsLine kind spill m (y * 64 + k) (word_at leaf frame k)

-- a mid entry stands for page y
pub record IsPage (kind : Kind) (leaf spill : Frames) (m : List Perm) (y e : ℕ) : Type 0 where
  pub broken : is_pointer e ≡ is_broken page_words m y
  pub vector_is : is_pointer e ≡ false → e ≡ vector page_words m (y * page_words)
  pub lines : is_pointer e ≡ true → AreLines kind leaf spill m y (target e)

-- the entries of a mid table stand for the pages of region x
abbrev pub ArePages : Kind → Frames → Frames → Frames → List Perm → ℕ → ℕ → Type 0
ArePages kind upper leaf spill m x frame = (k : ℕ) → k < 1024 →
    IsPage kind leaf spill m (x * 1024 + k) (word_at upper frame k)

-- a root entry stands for region x
pub record IsRegion (kind : Kind) (upper leaf spill : Frames) (m : List Perm) (x e : ℕ) : Type 0 where
  pub broken : is_pointer e ≡ is_broken region_words m x
  pub vector_is : is_pointer e ≡ false → e ≡ vector region_words m (x * region_words)
  pub pages : is_pointer e ≡ true → ArePages kind upper leaf spill m x (target e)

-- a root table stands for a domain's map
abbrev pub IsDomain : Kind → Frames → Frames → Frames → List Perm → ℕ → Type 0
IsDomain kind upper leaf spill m root = (x : ℕ) → x < most_regions →
    IsRegion kind upper leaf spill m x (root_word upper root x)

-- What a walk finds for a word.
use Rattle.std.specs.Prelude.{◌≡◌, ℕ, Bool, true, false, List}
use Rattle.mx_words.specs.declared.perm.Perm.{Perm}
use Rattle.mx_words.specs.declared.tables.Kind.{Kind}
use Rattle.mx_words.specs.declared.tables.Level.TheVariants as L
use Rattle.mx_words.specs.Runs.{line_words, page_words, region_words}
use Rattle.mx_words.specs.Reach.{vector, level, line_at, first_in}
use Rattle.mx_words.specs.Blocks.{IsEven}
use Rattle.mx_trie.specs.Leaf.{needs_spill, IsStored}
use Rattle.mx_trie.specs.Walk.{form_left, form_right}
use Rattle.mx_trie.specs.declared.walk.Found.{Found}
use Rattle.mx_trie.specs.declared.walk.Found.TheVariants as F

-- a vector of the block of `size` words that holds word i
pub record IsVector (size part : ℕ) (m : List Perm) (i entry : ℕ) : Type 0 where
  pub even : IsEven m (first_in size i) part
  pub entry_is : entry ≡ vector size m (first_in size i)

-- an entry of word i's line, with its spill word where the line needs one
pub record IsLeaf (kind : Kind) (crowded : Bool) (m : List Perm) (i entry spilled : ℕ) : Type 0 where
  pub crowded_is : needs_spill kind (line_at m (first_in line_words i)) ≡ crowded
  pub left : ℕ
  pub right : ℕ
  pub number : ℕ
  pub left_is : left ≡ form_left kind m (first_in line_words i)
  pub right_is : right ≡ form_right kind m (first_in line_words i)
  pub stored : IsStored kind (line_at m (first_in line_words i)) left right number
      (first_in line_words i) entry spilled

-- a walk for word i ends at the level that decides it, with the word that stands there
abbrev pub IsFound : Kind → List Perm → ℕ → Found → Type 0
IsFound kind m i (F.Root entry) = (level kind m i ≡ L.Root) × IsVector region_words 131072 m i entry
IsFound kind m i (F.Mid entry) = (level kind m i ≡ L.Mid) × IsVector page_words 128 m i entry
IsFound kind m i (F.Leaf entry) = (level kind m i ≡ L.Leaf) × IsLeaf kind false m i entry 0
IsFound kind m i (F.Spill entry spilled) = (level kind m i ≡ L.Spill) × IsLeaf kind true m i entry spilled

-- what a walk for word i finds in the tables of some map
pub record IsSomeFound (kind : Kind) (i : ℕ) (found : Found) : Type 0 where
  pub map : List Perm
  pub found_in : IsFound kind map i found

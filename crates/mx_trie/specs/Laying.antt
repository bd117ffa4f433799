-- One permission laid over a range of words of one domain: which blocks it cuts, and what is known of the words
-- beside it.
use Rattle.std.specs.Prelude.{◌≡◌, ℕ, ◌+◌, ◌-◌, ◌*◌, ◌/◌, ◌<◌, ◌≤◌, min, List, length, take, drop}
use Rattle.std.specs.List.{prefix_len, suffix_len}
use Rattle.mx_words.specs.declared.perm.Perm.{Perm}
use Rattle.mx_words.specs.declared.tables.Kind.{Kind}
use Rattle.mx_words.specs.Rights.{same, perm_at}
use Rattle.mx_words.specs.Newest.{laid}
use Rattle.mx_words.specs.Changes.{grant_of}
use Rattle.mx_trie.specs.declared.laying.Laying.{Laying}
use Rattle.mx_trie.specs.declared.laying.Beside.{Beside}
use Rattle.mx_trie.specs.declared.laying.Outer.{Outer}
use Rattle.mx_words.specs.Counting.{count_below}
use Rattle.mx_words.specs.Reach.{line_at}
use Rattle.mx_words.specs.Runs.{line_words}
use Rattle.mx_trie.specs.Leaf.{form_reach, needs_spill}
use Rattle.mx_trie.specs.Walk.{most_lines, map_left, map_right}

-- a map with a permission on the words first to end - 1
abbrev pub with_range : ℕ → ℕ → Perm → List Perm → List Perm
with_range first end p m = laid (grant_of first (end - first) p) m

abbrev pub laid_by : Laying → List Perm → List Perm
laid_by lay m = with_range lay.first lay.end lay.perm m

-- a map that has the permission on the range
pub record IsLaid (m : List Perm) (lay : Laying) : Type 0 where
  pub long : length m ≡ lay.words
  pub laid : (k : ℕ) → lay.first ≤ k → k < lay.end → perm_at m k ≡ lay.perm

-- 1 where the range begins or ends at a word inside block b, 0 elsewhere; and both together
abbrev pub cut : ℕ → ℕ → ℕ → ℕ
cut size b word = min 1 (min (word - b * size) (b * size + size - word))

abbrev pub cuts : ℕ → ℕ → Laying → ℕ
cuts size b lay = cut size b lay.first + cut size b lay.end

-- how many lines of a map need a spill word
abbrev pub spill_lines : Kind → List Perm → ℕ
spill_lines kind m = count_below most_lines (λ z. needs_spill kind (line_at m (z * line_words)))

-- how many words right before a word, and from a word on, have a permission, at most so many
abbrev pub back : ℕ → Perm → List Perm → ℕ → ℕ
back most p m at = min most (suffix_len (same p) (take at m))

abbrev pub ahead : ℕ → Perm → List Perm → ℕ → ℕ
ahead most p m at = min most (prefix_len (same p) (drop at m))

-- the outer reaches of page y
pub record IsOuter (kind : Kind) (m : List Perm) (y : ℕ) (o : Outer) : Type 0 where
  pub left : o.left ≡ map_left kind m (y * 64)
  pub right : o.right ≡ map_right kind m (y * 64 + 63)

-- what is known of the old map beside the range
pub record IsBeside (kind : Kind) (m : List Perm) (lay : Laying) (b : Beside) : Type 0 where
  pub long : length m ≡ lay.words
  pub before : b.before ≡ back (form_reach kind) lay.perm m lay.first
  pub behind : b.behind ≡ ahead (form_reach kind) lay.perm m lay.end
  pub left : b.left ≡ map_left kind m (lay.first / 16)
  pub right : b.right ≡ map_right kind m ((lay.end - 1) / 16)
  pub first_page : IsOuter kind m (lay.first / 1024) b.first_page
  pub last_page : IsOuter kind m ((lay.end - 1) / 1024) b.last_page

-- a line's permissions with one of them on the places from `from` up to `to`
pub record IsLaidOver (old new : List Perm) (from to : ℕ) (p : Perm) : Type 0 where
  pub whole : length new ≡ 16
  pub inside : (k : ℕ) → from ≤ k → k < to → k < 16 → perm_at new k ≡ p
  pub before : (k : ℕ) → k < from → k < 16 → perm_at new k ≡ perm_at old k
  pub behind : (k : ℕ) → to ≤ k → k < 16 → perm_at new k ≡ perm_at old k

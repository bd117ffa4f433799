-- Maps that are read span by span.
use Rattle.std.specs.Prelude.{◌≡◌, ℕ, ◌+◌, ◌*◌, ◌/◌, ◌%◌, ◌<◌, ◌≤◌, List, length}
use Rattle.mx_words.specs.declared.perm.Perm.{Perm}
use Rattle.mx_words.specs.declared.perm.Span.{Span}
use Rattle.mx_words.specs.Rights.{perm_at}
use Rattle.mx_pool.specs.Frames.{word_at}
use Rattle.mx_table.specs.Tables.{most_words}
use Rattle.mx_table.specs.Rows.{span_at}
use Rattle.mx_trie.specs.Walk.{Frames}

-- a span round a word, on which the map has one permission; words outside RAM have none
pub record IsRound (m : List Perm) (word : ℕ) (s : Span) : Type 0 where
  pub from : s.first ≤ word
  pub to : word < s.first + s.count
  pub whole : s.first + s.count ≤ most_words
  pub alike : (k : ℕ) → s.first ≤ k → k < s.first + s.count → perm_at m k ≡ s.perm

-- a span round a word that holds the word's block, and the eighth that is told by it: the eighth's blocks, as
-- many as `places`, have one entry in a frame
pub record IsWide (frames : Frames) (frame places block word : ℕ) (near far : Span) : Type 0 where
  pub from : near.first ≤ word / block * block
  pub to : word / block * block + block ≤ near.first + near.count
  pub alike : (k : ℕ) → k < places →
      word_at frames frame (word / (places * block) % 8 * places + k)
      ≡ word_at frames frame (word / (places * block) % 8 * places)
  pub first : far.first ≡ word / (places * block) * (places * block)
  pub count : far.count ≡ places * block
  pub perm : far.perm ≡ near.perm

-- how many spans of a row begin at a word or before it
pub record IsBegun (row : List Span) (word next : ℕ) : Type 0 where
  pub within : next ≤ length row
  pub begun : (k : ℕ) → k < next → (span_at row k).first ≤ word
  pub later : (k : ℕ) → next ≤ k → k < length row → word < (span_at row k).first

-- where the span at a place begins, or the end of all words where there is none
pub record IsBegin (row : List Span) (place begin : ℕ) : Type 0 where
  pub inside : place < length row → begin ≡ (span_at row place).first
  pub behind : length row ≤ place → begin ≡ most_words

-- The frames of a page given back: the spill words of its lines, and its leaf table.
use Rattle.std.proofs.Common.{◌≡◌, ◌≢◌, ℕ, ◌+◌, ◌<◌, true, length, Some, None, arith}
use Rattle.mx_words.specs.declared.tables.Kind.{Kind}
use Rattle.mx_words.proofs.CountingLaws.{cases_below}
use Rattle.mx_pool.specs.Frames.{frame_at, word_at, free_in}
use Rattle.mx_trie.specs.Leaf.{IsTrieKind, form_reach, spill_number}
use Rattle.mx_trie.specs.Walk.{Frames, is_pointer, target}
use Rattle.mx_trie.specs.Owned.{IsLeafTable}
use Rattle.mx_trie.specs.Steps.{IsPlaceWritten, IsLineFreed, AreLinesFreed, IsPageFreed}
use Rattle.mx_trie.proofs.HeapLaws.{move-then, move-none}
use Rattle.mx_trie.proofs.PageLines.{place-put, place-spills}
use Rattle.mx_trie.proofs.PageTables.{plain-spills}

-- a line's spill word is given back, and then an entry without one is written
module _ (kind : Kind) (leaf spill leaf' spill' : Frames) (frame place number : ℕ)
    (was : spill_number kind (word_at leaf frame place) ≡ Some number)
    (written : IsPlaceWritten leaf leaf' frame place (word_at leaf' frame place))
    (none : spill_number kind (word_at leaf' frame place) ≡ None)
    (elsewhere : (g : ℕ) → g ≢ number → frame_at spill' g ≡ frame_at spill g)
    (more : free_in spill' ≡ free_in spill + 1) (total : length spill' ≡ length spill) where
  pub line-given : IsLineFreed kind leaf spill leaf' spill' frame place
  line-given = search (arith, elsewhere)

module _ (kind : Kind) (leaf spill leaf' spill' leaf'' spill'' : Frames) (frame next : ℕ) (within : next < 64)
    (way : AreLinesFreed kind leaf spill leaf' spill' frame next)
    (line : IsLineFreed kind leaf' spill' leaf'' spill'' frame next) where
  pub lines-freed : AreLinesFreed kind leaf spill leaf'' spill'' frame (next + 1)
  lines-freed =
      let spills = place-spills _ _ _ _ _ _ _ _ within way.table line.written line.move (λ g is. absurd cc)
      (search (arith, line.none, line.count)) in
      let none : (k : ℕ) → k < next + 1 → spill_number kind (word_at leaf'' frame k) ≡ None =
      search (arith, cases_below, line.written.others, way.none) in
      search (arith, place-put _ _ _ _ _ _ _ _ within way.table line.written line.move (λ g is. absurd cc), move-then, way.move)

-- a leaf table whose lines have no spill words is given back
module _ (kind : Kind) (leaf spill leaf' spill' leaf'' : Frames) (e : ℕ) (open_ : is_pointer e ≡ true)
    (lines : AreLinesFreed kind leaf spill leaf' spill' (target e) 64)
    (elsewhere : (g : ℕ) → g ≢ target e → frame_at leaf'' g ≡ frame_at leaf' g)
    (more : free_in leaf'' ≡ free_in leaf' + 1) (total : length leaf'' ≡ length leaf') where
  pub page-freed : IsPageFreed kind leaf spill leaf'' spill' e
  page-freed = search (arith, plain-spills, elsewhere, open_)

-- entries without reaches name no spill words
pub reach-none : (kind : Kind) → IsTrieKind kind → form_reach kind ≡ 0 → (e : ℕ) → spill_number kind e ≡ None
reach-none kind x none e = grind arith

pub lines-plain : (kind : Kind) (leaf spill : Frames) (frame : ℕ) → IsLeafTable kind leaf spill frame →
    ((e : ℕ) → spill_number kind e ≡ None) → AreLinesFreed kind leaf spill leaf spill frame 64
lines-plain kind leaf spill frame table none = search (arith, move-none)

-- The lines of a page, changed one by one in its leaf table.
use Rattle.std.proofs.Common.{◌≡◌, ◌≢◌, ℕ, ◌+◌, ◌-◌, ◌*◌, ◌/◌, ◌%◌, ◌<◌, ◌≤◌, ◌⊎◌, inl, inr, min, List, [], Option, Some, IsSome, is_some}
use Rattle.std.proofs.Common.{unwrap_or, slice_index, refl, ap, arith}
use Rattle.mx_words.specs.declared.perm.Perm.{Perm}
use Rattle.mx_words.specs.declared.tables.Kind.{Kind}
use Rattle.mx_words.specs.Counting.{bit}
use Rattle.mx_words.proofs.CountingLaws.{count_below_changed}
use Rattle.mx_pool.specs.Frames.{frame_at, IsTaken, word_at, free_in}
use Rattle.mx_trie.specs.declared.laying.Laying.{Laying}
use Rattle.mx_trie.specs.declared.laying.Beside.{Beside}
use Rattle.mx_table.specs.Tables.{most_words}
use Rattle.mx_trie.specs.Leaf.{IsTrieKind, form_reach, spill_number}
use Rattle.mx_trie.specs.Walk.{Frames, most_pages, most_lines}
use Rattle.mx_trie.specs.Heap.{heap, IsMove}
use Rattle.mx_trie.specs.Owned.{LineOwns, PlacesOwn, LeafOwns, IsLeafTable, line_spills}
use Rattle.mx_trie.specs.Shown.{IsLine, IsSomeLine}
use Rattle.mx_trie.specs.Steps.{AreSomeLines, IsPlaceWritten}
use Rattle.mx_trie.specs.Laying.{laid_by, IsBeside}
use Rattle.mx_trie.specs.Changed.{IsLineChanged, AreLinesChanged}
use Rattle.mx_trie.specs.OnWay.{AreLinesOnWay}
use Rattle.mx_trie.proofs.HeapLaws.{move-then, move-none, node-put, node-move}
use Rattle.mx_trie.proofs.NodeLaws.{either}
use Rattle.mx_trie.proofs.Stored.{line-named}
use Rattle.mx_trie.proofs.LineReaches.{left-before, right-behind, left-far, right-far}
use Rattle.mx_trie.proofs.LineCuts.{apart-perms}
use Rattle.mx_trie.proofs.Cuts.{cuts-step, cuts-start, room-more, room-start, room-end}

-- a frame that holds what it held
pub word-kept : (frames frames' : Frames) (f place : ℕ) → frame_at frames' f ≡ frame_at frames f →
    word_at frames' f place ≡ word_at frames f place
word-kept frames frames' f place e = ap (λ (o : Option (List ℕ)). slice_index (unwrap_or o []) place) e

-- an entry whose spill word stays stands for the line as before
pub line-kept : (kind : Kind) → IsTrieKind kind → (spill spill' : Frames) (m : List Perm) (z e : ℕ) →
    ((g : ℕ) → spill_number kind e ≡ Some g → frame_at spill' g ≡ frame_at spill g) →
    IsLine kind spill m z e → IsLine kind spill' m z e
line-kept kind k spill spill' m z e kept line = search (arith, line-named kind k spill m z e line, word-kept, kept)

-- an entry is written at a place of a leaf table, and its spill word was changed before
module _ (kind : Kind) (leaf spill leaf' spill' : Frames) (frame place e' : ℕ) (within : place < 64)
    (table : IsLeafTable kind leaf spill frame) (written : IsPlaceWritten leaf leaf' frame place e')
    (move : IsMove (heap [] [] spill) (heap [] [] spill') (LineOwns kind (word_at leaf frame place)) (LineOwns kind e')) (taken : (g : ℕ)
    → spill_number kind e' ≡ Some g → IsTaken spill' g) where
  stays : (a g : ℕ) → IsSome (heap [] leaf spill a g) → (PlacesOwn kind leaf frame place a g → ⊥) →
      ((a ≡ 1) × (g ≡ frame) → ⊥) → heap [] leaf' spill' a g ≡ heap [] leaf spill a g
  stays x g there not other = grind (arith, written.elsewhere g, move.stays 2 g)

  fresh : (a g : ℕ) → IsSome (heap [] leaf spill a g) → (PlacesOwn kind leaf frame place a g → ⊥) →
      PlacesOwn kind leaf' frame place a g → ⊥
  fresh x g there not own = grind (arith, move.none 2 g, written.here)

  pub place-put : IsLeafTable kind leaf' spill' frame × IsMove (heap [] leaf spill) (heap [] leaf' spill')
      (LeafOwns kind leaf frame) (LeafOwns kind leaf' frame)
  place-put =
      let same : (i a g : ℕ) → i < 64 → i ≢ place → PlacesOwn kind leaf' frame i a g → PlacesOwn kind leaf frame i a g =
      λ i a g below ne own. search (arith, written.others, own.0, own.1) in
      let now : (a g : ℕ) → PlacesOwn kind leaf' frame place a g → IsSome (heap [] leaf' spill' a g) =
      λ x g own. grind (arith, written.here, taken g) in
      search (arith, node-put, node-move, within, same, stays, fresh, now)

  -- the other lines stand as before
  pub place-other : IsTrieKind kind → (m : List Perm) (z i : ℕ) → i < 64 → i ≢ place →
      IsLine kind spill m z (word_at leaf frame i) → IsLine kind spill' m z (word_at leaf' frame i)
  place-other k m z i below ne line =
      rw (written.others i ne) (line-kept _ k _ _ m z _ (λ g is.
      grind (arith, move.stays 2 g, table.parts.taken i 2 g, table.parts.apart i place 2 g)) line)

  pub place-spills : (free_in spill' + bit (is_some (spill_number kind e')) ≡ free_in spill
      + bit (is_some (spill_number kind (word_at leaf frame place)))) →
      free_in spill' + line_spills kind leaf' frame ≡ free_in spill + line_spills kind leaf frame
  place-spills count =
      let changed = count_below_changed 64 place (λ i. is_some (spill_number kind (word_at leaf frame i))) (λ i.
      is_some (spill_number kind (word_at leaf' frame i))) within in
      search (arith, changed, written.others, written.here)

-- one more line is changed
module _ (kind : Kind) (k : IsTrieKind kind) (leaf spill leaf' spill' leaf'' spill'' : Frames) (lay : Laying)
    (beside : Beside) (y frame next e' : ℕ) (from : y * 64 ≤ next) (to : next < y * 64 + 64)
    (way : AreLinesOnWay kind leaf spill leaf' spill' lay beside y frame next) (e : ℕ)
    (was : e ≡ word_at leaf' frame (next % 64)) (told : IsLineChanged kind spill' spill'' lay beside next e e')
    (written : IsPlaceWritten leaf' leaf'' frame (next % 64) e') where
  pub lines-more : AreLinesOnWay kind leaf spill leaf'' spill'' lay beside y frame (next + 1)
  lines-more =
      let less = cuts-step 16 next (y * 1024 + 1024) lay (omega arith) (omega arith) in
      let within : next % 64 < 64 = omega arith in let line = rw was at told in
      let spills = place-spills _ _ _ _ _ _ _ _ within way.table written line.move line.taken line.count in
      let other = place-other _ _ _ _ _ _ _ _ within way.table written line.move line.taken k in
      let done = λ (m : _) (known : IsBeside kind m lay beside) (old : _) (i : ℕ) (b : i < 64) (lt : y * 64 + i < next + 1).
      either (y * 64 + i) next (IsLine kind spill'' (laid_by lay m) (y * 64 + i) (word_at leaf'' frame i)) (λ h.
      other (laid_by lay m) _ i b (omega arith) (way.done m known old i b h))
      (λ h. let p : i ≡ next % 64 = omega arith in let q : y * 64 + i ≡ next = omega arith in
      rw (q, p, written.here) (line.shown m known (rw p at (rw q at (way.ahead m known old i b h))))) in
      let ahead = λ (m : List Perm) (known : _) (old : _) (i : ℕ) (b : i < 64) (le : next + 1 ≤ y * 64 + i).
      other m _ i b (omega arith) (way.ahead m known old i b (omega arith)) in
      search (
        arith,
        place-put _ _ _ _ _ _ _ _ within way.table written line.move
            line.taken,
        move-then,
        way.move,
        done,
        ahead,
        room-more,
        way.spill_room,
        line.room,
      )

-- a line far from the range
module _ (kind : Kind) (spill : Frames) (m : List Perm) (lay : Laying) (b : Beside) (known : IsBeside kind m lay b)
    (z e : ℕ) (below : z < most_lines) where
  pub far-line : (z < (lay.first - form_reach kind) / 16) ⊎ (min (lay.end - 1 + form_reach kind) (most_words - 1) / 16 < z)
      → IsLine kind spill m z e → IsLine kind spill (laid_by lay m) z e
  far-line (inl lt) line =
      search (
        arith,
        apart-perms kind m lay b known z below,
        left-before kind m lay b known z,
        right-far kind m lay b known
            z,
        inl,
        line.spilled,
      )
  far-line (inr lt) line =
      search (
        arith,
        apart-perms kind m lay b known z below,
        left-far kind m lay b known z,
        right-behind kind m lay b known
            z,
        inr,
        line.spilled,
      )

module _ (kind : Kind) (k : IsTrieKind kind) (leaf spill : Frames) (lay : Laying) (beside : Beside) (y frame : ℕ)
    (below : y < most_pages) where
  -- nothing is changed yet
  pub lines-none : (next : ℕ) → IsLeafTable kind leaf spill frame → y * 64 ≤ next →
      ((k : ℕ) → k < 64 → y * 64 + k < next → y * 64 + k < (lay.first - form_reach kind) / 16) →
      AreLinesOnWay kind leaf spill leaf spill lay beside y frame next
  lines-none next table from far =
      let start = cuts-start 16 next 1024 y lay (omega arith) in
      let done = λ (m : _) (known : IsBeside kind m lay beside)
      (i : ℕ) (b : _) (lt : _). far-line kind spill m _ _ known (y * 64 + i) (word_at leaf frame i) (omega arith) (inl (far i b lt)) in
      search (arith, move-none, done, room-start)

  module _ (leaf' spill' : Frames) (next : ℕ)
      (way : AreLinesOnWay kind leaf spill leaf' spill' lay beside y frame next) where
    -- all lines are changed that may be
    pub lines-all : ((k : ℕ) → k < 64 → next ≤ y * 64 + k →
        min (lay.end - 1 + form_reach kind) (most_words - 1) / 16 < y * 64 + k) →
        AreLinesChanged kind leaf spill leaf' spill' lay beside y frame
    lines-all far =
        let shown = λ (m : _) (known : IsBeside kind m lay beside) (old : _) (i : ℕ) (b : _). either (y * 64 + i) next _
        (way.done m known old i b) (λ h. far-line _ _ m _ _ known (y * 64 + i) _ (omega arith) (inr (far i b h))
        (way.ahead m known old i b h)) in search (arith, shown, room-end, way.spill_room)

    -- the next line's entry
    pub next-line : y * 64 ≤ next → next < y * 64 + 64 → (e : ℕ) → e ≡ word_at leaf' frame (next % 64) →
        AreSomeLines kind leaf spill lay beside y frame → IsSomeLine kind spill' next e
    next-line from to e is some =
        let within : next % 64 < 64 = omega arith in let here : y * 64 + next % 64 ≡ next = omega arith in
        let line : IsLine kind spill' some.map next e =
        rw is (rw here at (way.ahead some.map some.known some.lines (next % 64) within (omega arith))) in
        let taken = λ (g : ℕ) (named : spill_number kind e ≡ Some g). way.table.parts.taken (next % 64) 2 g within (refl, rw is at named) in
        search (arith, some.known, taken)

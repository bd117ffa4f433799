-- The leaf table of a page, made and given back.
use Rattle.std.proofs.Common.{◌≡◌, ◌≢◌, ℕ, ◌+◌, ◌*◌, ◌%◌, ◌<◌, ◌≤◌, Bool, true, false, List, [], length, if◌then◌else◌, Some, None, IsSome}
use Rattle.std.proofs.Common.{refl, sym, ◌∙◌, arith, eq-eqb}
use Rattle.std.proofs.lemmas.Bool.{ne_eqb}
use Rattle.mx_words.specs.declared.perm.Perm.{Perm}
use Rattle.mx_words.specs.declared.tables.Kind.{Kind}
use Rattle.mx_words.specs.Reach.{vector}
use Rattle.mx_words.specs.Runs.{page_words}
use Rattle.mx_words.specs.Blocks.{is_broken}
use Rattle.mx_words.proofs.CountingLaws.{count_below_none}
use Rattle.mx_table.specs.Tables.{most_words}
use Rattle.mx_pool.specs.Frames.{frame_at, word_at, free_in}
use Rattle.mx_trie.specs.declared.laying.Laying.{Laying}
use Rattle.mx_trie.specs.declared.laying.Beside.{Beside}
use Rattle.mx_trie.specs.declared.laying.Outer.{Outer}
use Rattle.mx_trie.specs.Leaf.{IsTrieKind, spill_number}
use Rattle.mx_trie.specs.Walk.{Frames, is_pointer, target}
use Rattle.mx_trie.specs.Heap.{Heap, heap, IsMove}
use Rattle.mx_trie.specs.Owned.{LeafOwns, IsLeafTable, line_spills}
use Rattle.mx_trie.specs.Shown.{AreLines, IsPage}
use Rattle.mx_trie.specs.Laying.{IsBeside, IsOuter}
use Rattle.mx_trie.specs.Steps.{IsEntryOf, IsPageMade, IsPageOpened, IsClosable, IsPageClosed}
use Rattle.mx_trie.proofs.HeapLaws.{move-none}
use Rattle.mx_trie.proofs.LineChanges.{taken-differs}
use Rattle.mx_trie.proofs.Stored.{line-named}
use Rattle.mx_trie.proofs.FlatLaws.{flat-needs, even-line}
use Rattle.mx_trie.proofs.EvenTables.{even-of}

-- a vector is no pointer
pub vector-closed : (size : ℕ) (m : List Perm) (first entry : ℕ) → entry ≡ vector size m first →
    is_pointer entry ≡ false
vector-closed size m first entry e = ne_eqb (entry % 4) 0 (λ h. omega arith)

pub pointer-open : (frame : ℕ) → is_pointer (4 * frame) ≡ true
pointer-open frame = eq-eqb (4 * frame % 4) 0 (omega arith)

-- a step of what a pointer owns
pub move-below : (h h' : Heap) (e : ℕ) (O O' : ℕ → ℕ → Type 0) → is_pointer e ≡ true → IsMove h h' O O' →
    IsMove h h' (λ a g. (is_pointer e ≡ true) × O a g) (λ a g. (is_pointer e ≡ true) × O' a g)
move-below h h' e O O' pointer move =
    record { stays = λ a g t n. move.stays a g t (λ o. n (pointer, o)); none = λ a g t n own. move.none a g t (λ o. n (pointer, o)) own.1 }

-- a table of which no line has a spill word owns its frame alone
pub plain-spills : (kind : Kind) (leaf spill : Frames) (frame : ℕ) →
    ((k : ℕ) → k < 64 → spill_number kind (word_at leaf frame k) ≡ None) → line_spills kind leaf frame ≡ 0
plain-spills kind leaf spill frame none = search (arith, count_below_none, none)

-- a table that was made
pub page-made : (kind : Kind) (leaf spill leaf' : Frames) (lay : Laying) (beside : Beside) (outer : Outer)
    (y e frame : ℕ) → is_pointer e ≡ false →
    IsPageMade kind lay.words leaf leaf' outer y e frame 64 →
    ((m : List Perm) → IsBeside kind m lay beside → IsOuter kind m y outer) →
    IsPageOpened kind leaf spill leaf' lay beside y e frame
page-made kind leaf spill leaf' lay beside outer y e frame closed made o =
    let shown = λ (m : List Perm) (known : IsBeside kind m lay beside) (q : IsPage kind leaf spill m y e) (k : ℕ) (h : k < 64).
    made.lines k h m spill known.long (o m known) (even-of 1024 128 m y refl refl (omega arith) (sym q.broken ∙ closed)) in
    search (arith, shown, taken-differs, made.none, plain-spills, closed)

-- what the told entry of a page says
pub told-some : (b : Bool) (v e : ℕ) → Some e ≡ (if b then None else Some v) → (b ≡ false) × (e ≡ v)
told-some x v e h = grind arith

pub told-none : (b : Bool) (v : ℕ) → None ≡ (if b then None else Some v) → b ≡ true
told-none x v h = grind arith

-- a table that stays where the page is broken
pub page-open : (kind : Kind) (leaf spill : Frames) (y frame : ℕ) → IsLeafTable kind leaf spill frame →
    ((m : List Perm) → length m ≤ most_words → AreLines kind leaf spill m y frame → IsEntryOf page_words m y None) →
    IsPageClosed kind leaf spill leaf y frame (4 * frame)
page-open kind leaf spill y frame table broken =
    let at : target (4 * frame) ≡ frame = omega arith in search (arith, pointer-open, at, move-none, told-none)

-- a table that is given back where it isn't
pub page-closed : (kind : Kind) → IsTrieKind kind → (leaf spill leaf' : Frames) (y frame e : ℕ) →
    IsClosable kind leaf spill y frame →
    ((m : List Perm) → length m ≤ most_words → AreLines kind leaf spill m y frame →
    IsEntryOf page_words m y (Some e)) → ((g : ℕ) → g ≢ frame → frame_at leaf' g ≡ frame_at leaf g) →
    free_in leaf' ≡ free_in leaf + 1 → length leaf' ≡ length leaf → IsPageClosed kind leaf spill leaf' y frame e
page-closed kind k leaf spill leaf' y frame e closable whole elsewhere more total = let s = closable.stands in
    let some = told-some (is_broken page_words s.map y) (vector page_words s.map (y * page_words)) e (whole s.map s.few s.lines) in
    let none : (i : ℕ) → i < 64 → spill_number kind (word_at leaf frame i) ≡ None = λ i below. grind (
      arith,
      some,
      even-of 1024 128 s.map y refl refl,
      even-line s.map y (y * 64 + i),
      flat-needs,
      line-named kind k spill s.map (y * 64 + i) (word_at leaf frame i) (s.lines i below),
    ) in
    let told = λ (m : List Perm) (few : length m ≤ most_words) (lines : AreLines kind leaf spill m y frame).
    told-some (is_broken page_words m y) (vector page_words m (y * page_words)) e (whole m few lines) in
    let stays : (a g : ℕ) → IsSome (heap [] leaf spill a g) → (LeafOwns kind leaf frame a g → ⊥)
    → heap [] leaf' spill a g ≡ heap [] leaf spill a g =
    λ a g t n. grind arith in
    search (arith, vector-closed page_words s.map (y * page_words) e some.1, stays, none, told, plain-spills)

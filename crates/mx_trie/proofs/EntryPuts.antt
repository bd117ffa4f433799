-- Tables of entries that own frames: a mid table with its pages and a root table with its regions. What an entry owns is changed, and then
-- its new entry is written in the table's own frame.
use Rattle.std.proofs.Common.{◌≡◌, ◌≢◌, ℕ, ◌+◌, ◌<◌, Bool, IsSome, ◌∙◌, arith}
use Rattle.std.proofs.lemmas.Bool.{cases_eq}
use Rattle.mx_words.specs.Counting.{bit, count_below, sum_below}
use Rattle.mx_words.proofs.CountingLaws.{count_below_changed, sum_below_changed}
use Rattle.mx_pool.specs.Frames.{frame_at, IsTaken}
use Rattle.mx_trie.specs.Walk.{Frames}
use Rattle.mx_trie.specs.Heap.{heap, IsMove, IsNode, NodeOwns}
use Rattle.mx_trie.proofs.HeapLaws.{taken-on, node-put, node-move}

-- what an entry owns stays in all pools
abbrev pub IsKept : (Frames → Frames → ℕ → ℕ → ℕ → Type 0) → Frames → Frames → Frames → Frames → Frames → Frames → ℕ →
    Type 0
IsKept Owns upper leaf spill upper' leaf' spill' e =
    (a g : ℕ) → Owns upper leaf e a g → heap upper' leaf' spill' a g ≡ heap upper leaf spill a g

-- what is so of an entry stays so where its frames stay
abbrev pub IsFrameLaw : (Frames → Frames → ℕ → ℕ → ℕ → Type 0) → (Frames → Frames → Frames → ℕ → Type 0) → Type 0
IsFrameLaw Owns Holds =
    (u l s u' l' s' : Frames) (e : ℕ) → IsKept Owns u l s u' l' s' e → Holds u l s e → Holds u' l' s' e

-- a new entry is written at place k of a table's entries
pub record IsEntryWritten (word : Frames → ℕ → ℕ) (upper upper' : Frames) (frame k entry : ℕ) : Type 0 where
  pub taken : IsTaken upper' frame
  pub here : word upper' k ≡ entry
  pub others : (i : ℕ) → i ≢ k → word upper' i ≡ word upper i
  pub elsewhere : (g : ℕ) → g ≢ frame → frame_at upper' g ≡ frame_at upper g

-- the entries of a table, read from its own frame, and what they own
pub record IsLevel (word : Frames → ℕ → ℕ) (Owns : Frames → Frames → ℕ → ℕ → ℕ → Type 0) (frame : ℕ) : Type 0 where
  pub reads : (u u' : Frames) → frame_at u' frame ≡ frame_at u frame → (i : ℕ) → word u' i ≡ word u i
  pub law : (u l s u' l' s' : Frames) (e : ℕ) → IsKept Owns u l s u' l' s' e → (a g : ℕ) → Owns u' l' e a g → Owns u l e a g

-- what entry k owns is moved, and then its new entry is written
pub record IsEntryPut (word : Frames → ℕ → ℕ) (Owns : Frames → Frames → ℕ → ℕ → ℕ
    → Type 0) (frame n k e' : ℕ) (upper leaf spill upper' leaf' spill' upper'' : Frames) : Type 0 where
  pub within : k < n
  pub node : IsNode (heap upper leaf spill) 0 frame n (λ i. Owns upper leaf (word upper i))
  pub move : IsMove (heap upper leaf spill) (heap upper' leaf' spill') (Owns upper leaf (word upper k)) (Owns upper' leaf' e')
  pub taken : (a g : ℕ) → Owns upper' leaf' e' a g → IsSome (heap upper' leaf' spill' a g)
  pub written : IsEntryWritten word upper' upper'' frame k e'

module _ {word : Frames → ℕ → ℕ} {Owns : Frames → Frames → ℕ → ℕ → ℕ → Type 0} {frame n k e' : ℕ}
    {upper leaf spill upper' leaf' spill' upper'' : Frames}
    (level : IsLevel word Owns frame)
    (put : IsEntryPut word Owns frame n k e' upper leaf spill upper' leaf' spill' upper'') where
  -- the table's own frame is written alone
  wrote : (a g : ℕ) → ((a ≡ 0) × (g ≡ frame) → ⊥) → heap upper'' leaf' spill' a g ≡ heap upper' leaf' spill' a g
  wrote x g not = grind arith

  words : (i : ℕ) → i ≢ k → word upper'' i ≡ word upper i
  words i ne =
      put.written.others i ne ∙ level.reads upper upper' (put.move.stays 0 frame put.node.self (put.node.other k put.within)) i

  -- another part keeps its frames
  pub others-kept : (i : ℕ) → i < n → i ≢ k → IsKept Owns upper leaf spill upper'' leaf' spill' (word upper i)
  others-kept i below ne a g own =
      search (arith, wrote, put.node.other, put.move.stays, put.node.parts.taken, put.node.parts.apart, put.within)

  -- and so does the changed one, when its entry is written
  pub here-kept : IsKept Owns upper' leaf' spill' upper'' leaf' spill' e'
  here-kept a g own = search (arith, wrote, put.move.none, put.node.self, put.node.other)

  pub entry-put : IsNode (heap upper'' leaf' spill') 0 frame n (λ i. Owns upper'' leaf' (word upper'' i)) ×
      IsMove (heap upper leaf spill) (heap upper'' leaf' spill')
      (NodeOwns 0 frame n (λ i. Owns upper leaf (word upper i)))
      (NodeOwns 0 frame n (λ i. Owns upper'' leaf' (word upper'' i)))
  entry-put =
      let same : (i a g : ℕ) → i < n → i ≢ k → Owns upper'' leaf' (word upper'' i) a g → Owns upper leaf (word upper i) a g =
      λ i a g b ne own. search (arith, level.law, others-kept, words) in
      let as-new : (a g : ℕ) → Owns upper'' leaf' (word upper'' k) a g → Owns upper' leaf' e' a g =
      λ a g own. level.law _ _ _ _ _ _ _ here-kept a g (rw put.written.here at own) in
      search (
        arith,
        node-put,
        node-move,
        put.within,
        put.node,
        same,
        wrote,
        put.move.stays,
        put.move.none,
        as-new,
        taken-on,
        here-kept,
        put.taken,
      )

  -- what is so of another part, and of the changed one, is so afterwards
  pub holds-other : (Holds : Frames → Frames → Frames → ℕ → Type 0) → IsFrameLaw Owns Holds → (i : ℕ) → i < n →
      i ≢ k → Holds upper leaf spill (word upper i) → Holds upper'' leaf' spill' (word upper'' i)
  holds-other Holds frame-law i below ne was = search (arith, words, others-kept)

  pub holds-here : (Holds : Frames → Frames → Frames → ℕ → Type 0) → IsFrameLaw Owns Holds →
      Holds upper' leaf' spill' e' → Holds upper'' leaf' spill' (word upper'' k)
  holds-here Holds frame-law new = search (arith, here-kept)

  -- what is so of all parts
  pub holds-all : (Holds : Frames → Frames → Frames → ℕ → Type 0) → IsFrameLaw Owns Holds →
      ((i : ℕ) → i < n → Holds upper leaf spill (word upper i)) → Holds upper' leaf' spill' e' →
      (i : ℕ) → i < n → Holds upper'' leaf' spill' (word upper'' i)
  holds-all Holds frame-law all new i below =
      grind (arith, holds-here Holds frame-law new, holds-other Holds frame-law, all, cases_eq)

  -- what is counted of the parts
  pub entry-sum : (f : Frames → Frames → ℕ → ℕ) →
      ((u l s u' l' s' : Frames) (e : ℕ) → IsKept Owns u l s u' l' s' e → f u' l' e ≡ f u l e) → (free free' : ℕ) →
      free' + f upper' leaf' e' ≡ free + f upper leaf (word upper k) →
      free' + sum_below n (λ i. f upper'' leaf' (word upper'' i)) ≡ free + sum_below n (λ i. f upper leaf (word upper i))
  entry-sum f a b b' c =
      search (
        arith,
        sum_below_changed n k (λ i. f upper leaf (word upper i)) (λ i. f upper'' leaf' (word upper'' i))
            put.within,
        words,
        a,
        others-kept,
        put.written.here,
        here-kept,
      )

  pub entry-count : (test : ℕ → Bool) → (free free' : ℕ) → free' + bit (test e') ≡ free + bit (test (word upper k)) →
      free' + count_below n (λ i. test (word upper'' i)) ≡ free + count_below n (λ i. test (word upper i))
  entry-count test free free' count =
      let changed = count_below_changed n k (λ i. test (word upper i)) (λ i. test (word upper'' i)) put.within in
      search (arith, changed, words, put.written.here)

-- The lines of a range that need a spill word, page by page.
use Rattle.std.proofs.Common.{◌≡◌, ℕ, ◌+◌, ◌-◌, ◌*◌, ◌%◌, ◌<◌, ◌≤◌, Bool, false, min, max, List, is_some, sym, ap, ◌∙◌, arith, refl}
use Rattle.mx_words.specs.declared.perm.Perm.{Perm}
use Rattle.mx_words.specs.declared.tables.Kind.{Kind}
use Rattle.mx_words.specs.Counting.{count_below}
use Rattle.mx_words.specs.Reach.{line_at}
use Rattle.mx_words.specs.Runs.{page_words}
use Rattle.mx_words.specs.Blocks.{is_broken}
use Rattle.mx_words.proofs.CountingLaws.{count_below_agree, count_below_none, count_below-plus, count_below-zero}
use Rattle.mx_pool.specs.Frames.{word_at}
use Rattle.mx_trie.specs.Leaf.{IsTrieKind, needs_spill, spill_number}
use Rattle.mx_trie.specs.Walk.{Frames}
use Rattle.mx_trie.specs.Shown.{AreLines}
use Rattle.mx_trie.specs.After.{count_from, count_within}
use Rattle.mx_trie.proofs.EvenTables.{even-of}
use Rattle.mx_trie.proofs.BuiltBlocks.{even-needs}
use Rattle.mx_trie.proofs.EntryLaws.{some-named}
use Rattle.mx_trie.proofs.Stored.{line-named}

-- a line of a leaf table has a spill word just where it needs one
pub lines-needed : (kind : Kind) → IsTrieKind kind →
    (leaf spill : Frames) (m : List Perm) (y frame first last from to : ℕ) → AreLines kind leaf spill m y frame →
    from ≡ max first (y * 64) →
    to ≡ min last (y * 64 + 64) →
    count_from from to (λ z. is_some (spill_number kind (word_at leaf frame (z % 64))))
    ≡ count_within first last (y * 64) 64 (λ z. needs_spill kind (line_at m (z * 16)))
lines-needed kind k leaf spill m y frame first last from to lines begin end =
    rw (← begin, ← end) (count_below_agree (to - from) _ _ (λ i below.
    let here : y * 64 + (from + i) % 64 ≡ from + i = omega arith in
    some-named _ _ _ (line-named kind k spill m (from + i) _ (rw here at (lines ((from + i) % 64) (omega arith))))))

-- the lines up to the next page, and those in a page
pub count-none : (from to : ℕ) (test : ℕ → Bool) → to ≤ from → 0 ≡ count_from from to test
count-none from to test le =
    sym (ap (λ n. count_below n (λ i. test (from + i))) (omega arith) ∙ count_below-zero (λ i. test (from + i)))

pub count-within : (from to page : ℕ) (test : ℕ → Bool) → page * 64 < to → from < page * 64 + 64 → from < to →
    count_from from (min to (page * 64)) test + count_within from to (page * 64) 64 test ≡ count_from from (min to ((page + 1) * 64)) test
count-within from to page test here behind some =
    let b : ℕ = max from (page * 64) in let c : ℕ = min to (page * 64 + 64) in
    grind (
      arith,
      count_below_agree (c - b) (λ i. test (from + (b - from + i))) (λ i. test (b + i)) (λ i below.
          ap test (omega arith)),
      count_below-plus (b - from) (c - b) (λ i. test (from + i)),
    )

-- no line of a page that isn't broken needs a spill word
pub even-within : (kind : Kind) (m : List Perm) (from to page : ℕ) → is_broken page_words m page ≡ false →
    0 ≡ count_within from to (page * 64) 64 (λ z. needs_spill kind (line_at m (z * 16)))
even-within kind m from to page whole =
    sym (count_below_none _ _ (λ i below. even-needs kind m page (max from (page * 64) + i) (omega arith)
    (even-of 1024 128 m page refl refl (omega arith) whole)))

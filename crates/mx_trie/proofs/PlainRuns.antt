-- The run of a place of a plain entry, by its digits.
use Rattle.std.proofs.Common.{◌≡◌, ◌≢◌, ℕ, ◌+◌, ◌-◌, ◌<◌, ◌≤◌, Bool, false, List, arith, eq-eqb}
use Rattle.std.proofs.lemmas.Bool.{ne_eqb, cases_lt}
use Rattle.mx_words.specs.declared.perm.Perm.{Perm}
use Rattle.mx_words.specs.declared.perm.Span.{Span}
use Rattle.mx_words.specs.declared.tables.Kind.TheVariants as K
use Rattle.mx_words.specs.Rights.{number, same, perm_at}
use Rattle.mx_words.specs.Runs.{line_words}
use Rattle.mx_words.specs.Reach.{packed}
use Rattle.mx_trie.specs.Digits.{digit}
use Rattle.mx_trie.specs.Leaf.{IsStored, entry_run, left_of_run, right_of_run, lengthened}
use Rattle.mx_words.proofs.NumberLaws.{number-one_to_one}
use Rattle.mx_trie.proofs.Digits.{digit-packed}
use Rattle.mx_trie.proofs.RunBounds.{span_within-is}

-- what a scan of a plain entry's digits round a place finds
pub record IsScan (entry place begin last : ℕ) : Type 0 where
  pub begun : begin ≤ place
  pub ended : place < last
  pub whole : last ≤ 16
  pub before : (k : ℕ) → begin ≤ k → k ≤ place → digit entry k ≡ digit entry place
  pub behind : (k : ℕ) → place ≤ k → k < last → digit entry k ≡ digit entry place
  pub edge_before : 0 < begin → digit entry (begin - 1) ≢ digit entry place
  pub edge_behind : last < 16 → digit entry last ≢ digit entry place

-- digits of a plain entry agree where its permissions do
differ : (ps : List Perm) (j k : ℕ) → digit (packed ps) k ≢ digit (packed ps) j →
    same (perm_at ps j) (perm_at ps k) ≡ false
differ ps j k e =
    grind (arith, ne_eqb (number (perm_at ps j)) (number (perm_at ps k)), digit-packed ps j, digit-packed ps k)

-- no reach lengthens by nothing
pub left_of_run-none : (b : Bool) (s : Span) → left_of_run b s 0 ≡ 0
left_of_run-none x s = grind arith

pub right_of_run-none : (b : Bool) (s : Span) → right_of_run b s 0 ≡ 0
right_of_run-none x s = grind arith

pub lengthened-none : (s : Span) → lengthened 0 0 s ≡ s
lengthened-none s = search (arith, s.first, s.count)

-- the run of a plain entry's word
pub plain-run : (ps : List Perm) (left right spill line entry spilled word begin last : ℕ) (p : Perm) →
    IsStored K.Multilevel ps left right spill line entry spilled →
    IsScan entry (word - line) begin last → number p ≡ digit entry (word - line) →
    record { first = line + begin; count = last - begin; perm = p } ≡ entry_run K.Multilevel ps left right line word
plain-run ps left right spill line entry spilled word begin last p st sc e =
    let l : left ≡ 0 = omega (arith, st.left_most) in let r : right ≡ 0 = omega (arith, st.right_most) in
    let t : IsScan (packed ps) (word - line) begin last = rw st.entry_is at sc in
    let run = span_within-is ps 0 line_words (word - line) begin last
    (search (arith, st.whole, eq-eqb, ← digit-packed, differ, t.before, t.behind, t.edge_before, t.edge_behind, cases_lt)) in
    search (
      arith,
      l,
      r,
      number-one_to_one p (perm_at ps (word - line))
          (cc (e, st.entry_is, digit-packed ps (word - line))),
      run,
      left_of_run-none,
      right_of_run-none,
      lengthened-none,
    )

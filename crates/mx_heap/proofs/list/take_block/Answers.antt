use Rattle.std.proofs.Common.{◌≡◌, ◌≢◌, ℕ, ◌-◌, ◌<◌, ◌≤◌, List, length, sym, ap, ◌∙◌, arith, ⊎_elim}
use Rattle.std.proofs.lemmas.Bool.{cases_lt}
use Rattle.std.proofs.lemmas.List.{get_or_read}
use Rattle.mx_heap.specs.declared.block.Block.{Block}
use Rattle.mx_heap.specs.Places.{listed_at, no_block}
use Rattle.mx_heap.proofs.ListLaws.{take_listed, none_listed, blocks_to, listed_before, listed_behind}
use Rattle.mx_heap.proofs.list.take_block.Goals as goal
use Rattle.mx_heap.proofs.list.take_block.Goals.{else-behind-gt0-via-then-behind-gt0+else-index-word, else-behind-gt0-via-else-behind-gt0}

pub returns-then-index-word-clause-items : goal.returns-then-index-word-clause-items
returns-then-index-word-clause-items c =
    let bs : List Block = c.args.blocks.now.items in
    let n : ℕ = c.blocks_to-behind.result in
    let within : n - 1 < length bs = omega (arith, c.if-behind-gt0.true, rw c.deref.ensures.value at c.blocks_to-behind.ensures.within) in
    let read : c.index.result.now ≡ listed_at bs (n - 1) = get_or_read bs (n - 1) c.index.result.now within c.index.ensures no_block in
    let is : (listed_at bs (n - 1)).first ≡ c.args.word = ap (λ (b : Block). b.first) (sym read) ∙ c.if-index-word.true in
    rw c.remove.ensures.items (take_listed c.args.word bs (n - 1) c.requires.rising within is)

pub returns-else-behind-gt0-clause-items : goal.returns-else-behind-gt0-clause-items
returns-else-behind-gt0-clause-items c =
    let bs : List Block = c.args.blocks.now.items in
    let w : ℕ = c.args.word in
    let n : ℕ = c.blocks_to-behind.result in
    let place : n ≡ blocks_to w bs = rw c.deref.ensures.value at c.blocks_to-behind.ensures.place in
    let most : n ≤ length bs = rw c.deref.ensures.value at c.blocks_to-behind.ensures.within in
    let behind : (k : ℕ) → n ≤ k → k < length bs → w < (listed_at bs k).first = λ k le lt.
    listed_behind w bs c.requires.rising k (omega (arith, place, le)) lt in
    let other : (k : ℕ) → k < length bs → (listed_at bs k).first ≢ w = elim c.else-behind-gt0.branch [
      | else-behind-gt0-via-then-behind-gt0+else-index-word v ↦
          let within : n - 1 < length bs = omega (arith, v.if-behind-gt0.true, most) in
          let read : v.index.result.now ≡ listed_at bs (n - 1) =
          get_or_read bs (n - 1) v.index.result.now within v.index.ensures no_block in
          let differs : (listed_at bs (n - 1)).first ≢ w = λ e. v.if-index-word.false (ap (λ (b : Block). b.first) read ∙ e) in
          λ k lt e. ⊎_elim
          (λ (low : k < n - 1). let less = c.requires.rising k (n - 1) low within in let last =
          listed_before w bs (n - 1) (omega (arith, place, v.if-behind-gt0.true)) in absurd (omega (arith, less, last, e)))
          (λ (up : n - 1 ≤ k). ⊎_elim
          (λ (here : k < n). let same : k ≡ n - 1 = omega arith in absurd (differs (ap (λ (j : ℕ). (listed_at bs j).first) (sym same) ∙ e)))
          (λ (past : n ≤ k). let more = behind k past lt in absurd (omega (arith, more, e)))
          (cases_lt k n))
          (cases_lt k (n - 1))
      | else-behind-gt0-via-else-behind-gt0 v ↦ λ k lt e. let more = behind k (omega (arith, v.if-behind-gt0.false)) lt in
          absurd (omega (arith, more, e))
    ] in
    sym (none_listed w bs other)

use Rattle.std.proofs.Common.{◌≡◌, ℕ, ◌-◌, ◌≤◌, false, List, length, sym, ◌∙◌, arith}
use Rattle.std.proofs.lemmas.List.{get_or_default}
use Rattle.mx_heap.specs.declared.parts.Part.{Part}
use Rattle.mx_heap.specs.Places.{wall, parts_to, is_block_at}
use Rattle.mx_heap.proofs.OrderLaws.{firsts, place_only, place_nowhere, block_before, block_behind}
use Rattle.mx_heap.proofs.parts.block_place.Goals as goal
use Rattle.mx_heap.proofs.parts.block_place.Goals.{else-behind-gt0-via-then-behind-gt0+else-is_block_at}
use Rattle.mx_heap.proofs.parts.block_place.Goals.{else-behind-gt0-via-else-behind-gt0}

-- what the code reads where there is no part
abbrev no_part : Part
no_part = record { first = 0; count = 0; live = false }

pub parts_to-behind-requires-clause-few : goal.parts_to-behind-requires-clause-few
parts_to-behind-requires-clause-few c = c.requires.few

pub parts_to-behind-requires-clause-rising : goal.parts_to-behind-requires-clause-rising
parts_to-behind-requires-clause-rising c = firsts c.args.parts.now c.requires

pub returns-then-is_block_at : goal.returns-then-is_block_at
returns-then-is_block_at c =
    let ps : List Part = c.args.parts.now in
    let word : ℕ = c.args.first in
    let n : c.parts_to-behind.result ≡ parts_to word ps = c.parts_to-behind.ensures.place in
    let within : parts_to word ps ≤ length ps = omega (arith, n, c.parts_to-behind.ensures.within) in
    rw n (place_only ps c.requires word (is_block_at c.args.first) (λ k lt. block_before ps c.requires word k lt within)
    (block_behind ps c.requires word) (omega (arith, n, c.if-behind-gt0.true)) within
    (rw (
      sym n,
      get_or_default ps (c.parts_to-behind.result - 1) wall no_part
          (omega (arith, c.if-behind-gt0.true, c.parts_to-behind.ensures.within)),
    ) (sym c.is_block_at.ensures ∙ c.if-is_block_at.true)))

pub returns-else-behind-gt0 : goal.returns-else-behind-gt0
returns-else-behind-gt0 c =
    let ps : List Part = c.args.parts.now in
    let word : ℕ = c.args.first in
    let n : c.parts_to-behind.result ≡ parts_to word ps = c.parts_to-behind.ensures.place in
    let within : parts_to word ps ≤ length ps = omega (arith, n, c.parts_to-behind.ensures.within) in
    place_nowhere ps c.requires word (is_block_at c.args.first) (λ k lt. block_before ps c.requires word k lt within)
    (block_behind ps c.requires word) within (elim c.else-behind-gt0.branch [
      | else-behind-gt0-via-then-behind-gt0+else-is_block_at w ↦ λ _.
          rw (
            sym n,
            get_or_default ps (c.parts_to-behind.result - 1) wall no_part
                (omega (arith, w.if-behind-gt0.true, c.parts_to-behind.ensures.within)),
          ) (sym w.is_block_at.ensures ∙ w.if-is_block_at.false)
      | else-behind-gt0-via-else-behind-gt0 w ↦ λ some. absurd (omega (arith, some, n, w.if-behind-gt0.false))
    ])

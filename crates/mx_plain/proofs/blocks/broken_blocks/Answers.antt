use Rattle.std.proofs.Common.{◌≡◌, ◌+◌, ◌*◌, ◌/◌, ◌≤◌, not, true, false, length, sym, ap, ◌∙◌, arith}
use Rattle.mx_words.specs.Blocks.{is_broken}
use Rattle.mx_words.proofs.CountingLaws.{count_below-zero, count_below_yes, count_below_no}
use Rattle.mx_words.proofs.BlockLaws.{broken_blocks-count}
use Rattle.mx_plain.proofs.BlockTests.{blocks_hold}
use Rattle.mx_plain.proofs.blocks.broken_blocks.Goals as goal
use Rattle.mx_plain.proofs.blocks.broken_blocks.Goals.{then-not-is_eighth_uniform, else-not-is_eighth_uniform}

pub loop-block-init : goal.loop-block-init
loop-block-init g c = (sym (count_below-zero (is_broken c.args.size (g.M.WordMap.list c.args.map.now))), omega arith)

pub loop-block-preserved : goal.loop-block-preserved
loop-block-preserved g c =
    let m = g.M.WordMap.list c.args.map.now in
    elim c.if-not-is_eighth_uniform.branch [
      | then-not-is_eighth_uniform w ↦
          (let hit : is_broken c.args.size m c.loop-block.block ≡ true =
          ap not (sym c.is_eighth_uniform.ensures ∙ w.if-not-is_eighth_uniform.true) in (
            w.count-is ∙ ap (λ n. n + 1) c.loop-block.invariant.0
                ∙ sym (count_below_yes c.loop-block.block (is_broken c.args.size m) hit),
            omega arith,
          ))
      | else-not-is_eighth_uniform w ↦
          (let miss : is_broken c.args.size m c.loop-block.block ≡ false =
          ap not (sym c.is_eighth_uniform.ensures ∙ w.if-not-is_eighth_uniform.false) in
          (w.count-is ∙ c.loop-block.invariant.0 ∙ sym (count_below_no c.loop-block.block (is_broken c.args.size m) miss), omega arith))
    ]

pub returns-clause-count : goal.returns-clause-count
returns-clause-count g c =
    let m = g.M.WordMap.list c.args.map.now in
    let hold : length m ≤ (length m / c.args.size + 1) * c.args.size = blocks_hold c.args.size (length m) c.requires.some in
    let blocks : c.words.result / c.args.size + 1 ≡ length m / c.args.size + 1 = ap (λ n. n / c.args.size + 1) c.words.ensures in
    let all : c.loop-block.block ≡ length m / c.args.size + 1 = omega arith in
    c.loop-block.invariant.0 ∙ sym (broken_blocks-count c.args.size m c.loop-block.block c.requires.some (rw all hold))

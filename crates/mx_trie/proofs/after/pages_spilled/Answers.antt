use Rattle.std.proofs.Common.{◌≡◌, ℕ, ◌+◌, ◌-◌, ◌*◌, ◌/◌, min, ap, ◌∙◌, arith}
use Rattle.mx_words.specs.Reach.{line_at}
use Rattle.mx_trie.specs.Leaf.{needs_spill}
use Rattle.mx_trie.specs.After.{count_from}
use Rattle.mx_trie.proofs.SpillCounts.{count-none, count-within}
use Rattle.mx_trie.proofs.after.pages_spilled.Goals as goal

pub loop-page-init : goal.loop-page-init
loop-page-init g c = search (arith, count-none, c.args.lay.now.first, c.args.lay.now.end, g.L.LeafForm.kind)

pub loop-page-preserved : goal.loop-page-preserved
loop-page-preserved g c =
    let begun = c.loop-page.auto.page in
    let below = c.loop-page-test.true in
    let some = c.args.lay.now.some in
    record {
      counted = λ spill m shown.
          (let test = λ (z : ℕ). needs_spill g.L.LeafForm.kind (line_at m (z * 16)) in
          let before = c.loop-page.invariant.counted spill m shown in
          let here = c.page_spilled-count.ensures.count spill m shown in
          let step = count-within (c.args.lay.now.first / 16) ((c.args.lay.now.end - 1) / 16 + 1) c.loop-page.page test (omega arith)
          (omega arith) (omega arith) in
          omega (arith, before, here, step));
      few = omega (arith, c.loop-page.invariant.few, c.page_spilled-count.ensures.most);
    }

pub returns-clause-count : goal.returns-clause-count
returns-clause-count g c spill m shown =
    let all : min ((c.args.lay.now.end - 1) / 16 + 1) (c.loop-page.page * 64) ≡ (c.args.lay.now.end - 1) / 16 + 1 =
    omega arith in
    c.loop-page.invariant.counted spill m shown ∙ ap (λ n. count_from (c.args.lay.now.first / 16) n (λ z.
    needs_spill g.L.LeafForm.kind (line_at m (z * 16)))) all

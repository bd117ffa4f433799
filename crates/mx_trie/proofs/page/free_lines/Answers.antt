use Rattle.std.proofs.Common.{arith}
use Rattle.mx_trie.proofs.PageFrees.{lines-freed}
use Rattle.mx_trie.proofs.page.free_lines.Goals as goal

pub loop-place-preserved : goal.loop-place-preserved
loop-place-preserved g c = search (arith, lines-freed, c.loop-place-test.true, c.loop-place.invariant)

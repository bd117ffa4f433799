use Rattle.std.proofs.Common.{sym}
use denote.Enum.Bare.{differs_true}
use Rattle.mx_words.specs.contracts.perm.Perm.{the_type}
use Rattle.mx_trie.proofs.Scans.{uniform-same}
use Rattle.mx_trie.proofs.scan.is_uniform.Goals as goal

pub returns-then-ne-clause-no : goal.returns-then-ne-clause-no
returns-then-ne-clause-no g c u =
    absurd (differs_true the_type _ _ (sym c.if-ne.ensures)
    (uniform-same _ _ _ _ _ _ u c.loop-at.invariant.from c.loop-at-test.true c.around_far-span.ensures c.around-next.ensures))

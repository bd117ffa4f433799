use Rattle.mx_trie.specs.OnWay.{IsRegionFilled}
use Rattle.mx_trie.proofs.region.open_region.Given as goal

abbrev pub invariant-loop-part : goal.invariant-loop-part
invariant-loop-part l = IsRegionFilled l.fn.upper l.upper l.entry l.frame l.part

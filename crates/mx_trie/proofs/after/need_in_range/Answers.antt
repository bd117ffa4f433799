use Rattle.std.proofs.Common.{arith}
use Rattle.mx_trie.proofs.NeedOfRange.{range-taken}
use Rattle.mx_trie.proofs.after.need_in_range.Goals as goal

pub returns : goal.returns
returns g c spill m shown =
    search (arith, range-taken, c.args.lay.now, c.regions_opened.ensures.count, c.pages_opened.ensures.count, c.pages_spilled.ensures.count)

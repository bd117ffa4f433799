use Rattle.std.proofs.Common.{sym, ◌∙◌}
use Rattle.mx_trie.proofs.RegionTables.{region-open, region-closed}
use Rattle.mx_trie.proofs.region.close_region.Goals as goal

pub returns-in-Some : goal.returns-in-Some
returns-in-Some c = λ kind leaf spill closable.
    region-closed kind c.args.upper.now leaf spill c.give.new.self c.args.region c.args.frame c.in-Some.entry closable
    (λ m pages. sym c.in-Some.is ∙ c.region_entry.ensures kind leaf spill m c.args.region pages) c.give.ensures.elsewhere
    c.give.ensures.more c.give.ensures.total

pub returns-in-None : goal.returns-in-None
returns-in-None c = λ kind leaf spill closable.
    region-open kind c.args.upper.now leaf spill c.args.region c.args.frame closable.table
    (λ m pages. sym c.in-None.is ∙ c.region_entry.ensures kind leaf spill m c.args.region pages)

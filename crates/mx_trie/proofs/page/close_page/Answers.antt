use Rattle.std.proofs.Common.{sym, ◌∙◌}
use Rattle.mx_trie.proofs.PageTables.{page-open, page-closed}
use Rattle.mx_trie.proofs.page.close_page.Goals as goal

pub returns-in-Some : goal.returns-in-Some
returns-in-Some g c = λ spill closable.
    page-closed g.L.LeafForm.kind g.met.L.LeafForm.trie c.args.leaf.now spill c.give.new.self c.args.page c.args.frame c.in-Some.entry
    closable
    (λ m few lines. sym c.in-Some.is ∙ c.page_entry.ensures spill m few lines) c.give.ensures.elsewhere c.give.ensures.more
    c.give.ensures.total

pub returns-in-None : goal.returns-in-None
returns-in-None g c = λ spill closable.
    page-open g.L.LeafForm.kind c.args.leaf.now spill c.args.page c.args.frame closable.table
    (λ m few lines. sym c.in-None.is ∙ c.page_entry.ensures spill m few lines)

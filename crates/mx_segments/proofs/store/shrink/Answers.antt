use Rattle.mx_segments.proofs.StoreLaws.{shrink_store, shrink_words}
use Rattle.mx_segments.proofs.store.shrink.Goals as goal

pub returns-clause-store : goal.returns-clause-store
returns-clause-store c =
    let e = c.give.ensures in
    shrink_store c.args.leaf.now c.give.new.self c.args.chains.now.lists c.pop-frame.new.self.lists c.requires.store c.args.row
    c.pop-frame.result c.requires.row c.requires.some c.pop-frame.ensures.rest c.pop-frame.ensures.frame e.elsewhere e.more e.total

pub returns-clause-words : goal.returns-clause-words
returns-clause-words c =
    let e = c.give.ensures in
    shrink_words c.args.leaf.now c.give.new.self c.args.chains.now.lists c.pop-frame.new.self.lists c.requires.store c.args.row
    c.pop-frame.result c.requires.row c.requires.some c.pop-frame.ensures.rest c.pop-frame.ensures.frame e.elsewhere e.more e.total

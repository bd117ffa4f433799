use Rattle.mx_segments.proofs.StoreLaws.{grow_store, grow_zeros, grow_words}
use Rattle.mx_segments.proofs.store.grow.Goals as goal

pub returns-clause-store : goal.returns-clause-store
returns-clause-store c =
    let e = c.in-Some.ensures in
    grow_store c.args.leaf.now c.take.new.self c.args.chains.now.lists c.push.new.self.lists c.requires.store c.args.row c.in-Some.frame
    c.requires.row c.push.ensures.lists e.was_free e.here e.elsewhere e.fewer e.total

pub returns-clause-zeros : goal.returns-clause-zeros
returns-clause-zeros c =
    let e = c.in-Some.ensures in
    grow_zeros c.args.leaf.now c.take.new.self c.args.chains.now.lists c.push.new.self.lists c.requires.store c.args.row c.in-Some.frame
    c.requires.row c.push.ensures.lists e.was_free e.here e.elsewhere e.fewer e.total

pub returns-clause-words : goal.returns-clause-words
returns-clause-words c =
    let e = c.in-Some.ensures in
    grow_words c.args.leaf.now c.take.new.self c.args.chains.now.lists c.push.new.self.lists c.requires.store c.args.row c.in-Some.frame
    c.requires.row c.push.ensures.lists e.was_free e.here e.elsewhere e.fewer e.total

use Rattle.std.proofs.Common.{◌≡◌, ◌-◌, ◌/◌, ◌%◌, ◌∙◌, arith}
use Rattle.mx_trie.specs.Leaf.{placed, line_run}
use Rattle.mx_packed.proofs.EntryRuns.{spill-entry, spill-run, stored-mini, read-made, can-lengthen, CanLengthen, mini-run}
use Rattle.mx_packed.proofs.form.PackedLeafForm.run.Goals as goal
use Rattle.mx_packed.proofs.form.PackedLeafForm.run.Goals.{After-run_of-run}

pub run-requires-clause-entry : goal.run-requires-clause-entry
run-requires-clause-entry c = spill-entry c.args.line c.args.entry c.args.spilled c.requires.entry c.if-entry-eq3.true

pub returns-then-entry-eq3 : goal.returns-then-entry-eq3
returns-then-entry-eq3 c perms left right spill stored =
    spill-run perms left right spill c.args.line c.args.entry c.args.spilled c.args.word c.run.result stored c.if-entry-eq3.true
    c.run.ensures

pub run_of-run-requires-clause-coded : goal.run_of-run-requires-clause-coded
run_of-run-requires-clause-coded c =
    let made = read-made c.args.line c.args.entry c.args.spilled c.requires.entry c.if-entry-eq3.false in
    record { perms = c.requires.entry.perms; whole = c.requires.entry.stored.whole; values_are = made.values; starts_are = made.starts }

pub run_of-run-requires-clause-room : goal.run_of-run-requires-clause-room
run_of-run-requires-clause-room c = omega (arith, c.requires.entry.stored.behind)

run-is : (c : After-run_of-run) → c.run_of-run.result ≡ placed c.args.line (line_run c.requires.entry.perms (c.args.word - c.args.line))
run-is c =
    let made = read-made c.args.line c.args.entry c.args.spilled c.requires.entry c.if-entry-eq3.false in
    c.run_of-run.ensures c.requires.entry.perms c.requires.entry.stored.whole made.values made.starts

can : (c : After-run_of-run) → CanLengthen c.args.line (c.args.entry / 134217728) (c.args.entry / 4194304 % 32) c.run_of-run.result
can c =
    can-lengthen c.args.line c.args.entry c.args.spilled c.args.word c.run_of-run.result c.requires.entry c.if-entry-eq3.false
    c.requires.from c.requires.below (run-is c)

pub lengthen-requires-clause-at : goal.lengthen-requires-clause-at
lengthen-requires-clause-at c = (can c).at

pub lengthen-requires-clause-before : goal.lengthen-requires-clause-before
lengthen-requires-clause-before c = (can c).before

pub lengthen-requires-clause-behind : goal.lengthen-requires-clause-behind
lengthen-requires-clause-behind c = (can c).behind

pub lengthen-requires-clause-room : goal.lengthen-requires-clause-room
lengthen-requires-clause-room c = (can c).room

pub returns : goal.returns
returns c perms left right spill stored =
    let made = (stored-mini perms left right spill c.args.line c.args.entry c.args.spilled stored c.if-entry-eq3.false).1 in
    c.lengthen.ensures
    ∙ mini-run perms left right spill c.args.line c.args.entry c.args.spilled c.args.word c.run_of-run.result stored c.if-entry-eq3.false
    (c.run_of-run.ensures perms stored.whole made.values made.starts)

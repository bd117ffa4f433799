use Rattle.std.proofs.Common.{◌≡◌, rules}
use Rattle.std.specs.Option.{option_map_or}
use Rattle.mx_pool.specs.Frames.{word_at}
use Rattle.mx_trie.specs.Leaf.{spill_number}
use Rattle.mx_trie.proofs.EntryCuts.{line-cut, cut-round, entry-of}
use Rattle.mx_trie.proofs.entry.around_line.Goals as goal

pub run-requires-clause-entry : goal.run-requires-clause-entry
run-requires-clause-entry g c =
    let is : c.map_or-spilled.result ≡ option_map_or (λ n. word_at c.args.spill.now n 0) (spill_number g.L.LeafForm.kind c.args.entry) 0 =
    rw (← c.spill_of.ensures.value) (search rules) in
    entry-of g.L.LeafForm.kind g.met.L.LeafForm.trie c.args.spill.now c.args.line c.args.entry c.map_or-spilled.result c.requires.line
    c.requires.stands is

pub in_line-requires : goal.in_line-requires
in_line-requires g c =
    let is : c.map_or-spilled.result ≡ option_map_or (λ n. word_at c.args.spill.now n 0) (spill_number g.L.LeafForm.kind c.args.entry) 0 =
    rw (← c.spill_of.ensures.value) (search rules) in
    let some = c.requires.stands in
    let cut = line-cut g.L.LeafForm.kind g.met.L.LeafForm.trie c.args.spill.now some.map c.args.line c.args.word c.args.entry
    c.map_or-spilled.result c.run.result some.few c.requires.line c.requires.from c.requires.to some.line is c.run.ensures in
    record { line = c.requires.line; from = cut.from; to = cut.to; whole = cut.whole; begin = c.requires.from; end = c.requires.to }

pub returns : goal.returns
returns g c = λ m few line.
    let is : c.map_or-spilled.result ≡ option_map_or (λ n. word_at c.args.spill.now n 0) (spill_number g.L.LeafForm.kind c.args.entry) 0 =
    rw (← c.spill_of.ensures.value) (search rules) in
    let cut = line-cut g.L.LeafForm.kind g.met.L.LeafForm.trie c.args.spill.now m c.args.line c.args.word c.args.entry
    c.map_or-spilled.result c.run.result few c.requires.line c.requires.from c.requires.to line is c.run.ensures in
    cut-round m c.args.line c.args.word c.run.result c.in_line.result c.requires.line c.requires.from c.requires.to cut
    c.in_line.ensures.first c.in_line.ensures.end c.in_line.ensures.perm

use Rattle.std.proofs.Common.{arith}
use Rattle.mx_trie.proofs.LineReads.{last-run, entry-plain}
use Rattle.mx_trie.proofs.VectorLines.{reach-small}
use Rattle.mx_trie.proofs.Stored.{reaches-fit}
use Rattle.mx_trie.proofs.entry.right_in.Goals as goal

pub run-run-requires-clause-entry : goal.run-run-requires-clause-entry
run-run-requires-clause-entry g c = entry-plain g.L.LeafForm.kind g.met.L.LeafForm.trie c.requires.stands.0 c.args.line c.args.entry
    c.requires.line c.requires.none
    (let some = c.requires.stands.1 in record { map = some.map; few = some.few; line = some.line })

pub overflow_add-result : goal.overflow_add-result
overflow_add-result g c =
    let some = c.requires.stands.1 in
    let h = last-run g.L.LeafForm.kind g.met.L.LeafForm.trie c.requires.stands.0 some.map c.args.line c.args.entry some.few c.requires.line
    some.line c.requires.none c.run-run.result c.run-run.ensures in
    let fit = (reaches-fit g.L.LeafForm.kind some.map c.args.line some.few c.requires.line).behind in
    record { fits = omega arith }

pub overflow_sub-result : goal.overflow_sub-result
overflow_sub-result g c =
    let some = c.requires.stands.1 in
    let h = last-run g.L.LeafForm.kind g.met.L.LeafForm.trie c.requires.stands.0 some.map c.args.line c.args.entry some.few c.requires.line
    some.line c.requires.none c.run-run.result c.run-run.ensures in
    omega arith

pub returns-clause-few : goal.returns-clause-few
returns-clause-few g c =
    let some = c.requires.stands.1 in
    let h = last-run g.L.LeafForm.kind g.met.L.LeafForm.trie c.requires.stands.0 some.map c.args.line c.args.entry some.few c.requires.line
    some.line c.requires.none c.run-run.result c.run-run.ensures in
    let most = (reaches-fit g.L.LeafForm.kind some.map c.args.line some.few c.requires.line).right_most in
    let small = reach-small g.L.LeafForm.kind g.met.L.LeafForm.trie in
    omega arith

pub returns-clause-value : goal.returns-clause-value
returns-clause-value g c = λ m spill few line.
    let h = last-run g.L.LeafForm.kind g.met.L.LeafForm.trie spill m c.args.line c.args.entry few c.requires.line line c.requires.none
    c.run-run.result c.run-run.ensures in
    omega arith

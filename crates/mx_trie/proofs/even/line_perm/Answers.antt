use Rattle.std.proofs.Common.{◌≡◌, ◌*◌, None, is_some, sym, ap, ◌∙◌, arith}
use Rattle.mx_trie.specs.Leaf.{spill_number}
use Rattle.mx_trie.proofs.EvenLines.{some-none, perm-none, perm-some, mixed-crowded, mixed-short, run-whole, alike-run}
use Rattle.mx_trie.proofs.LineReads.{entry-plain}
use Rattle.mx_trie.proofs.even.line_perm.Goals as goal

pub returns-then-is_some : goal.returns-then-is_some
returns-then-is_some g c = λ spill m few line.
    perm-none m (c.args.line * 16) 16 (λ alike. mixed-crowded g.L.LeafForm.kind g.met.L.LeafForm.trie spill m c.args.line c.args.entry few
    c.requires.line line alike
    (sym (ap is_some c.spill_of.ensures.value) ∙ sym c.is_some.ensures ∙ c.if-is_some.true))

pub run-run-requires-clause-entry : goal.run-run-requires-clause-entry
run-run-requires-clause-entry g c =
    let none : spill_number g.L.LeafForm.kind c.args.entry ≡ None =
    some-none _ (sym (ap is_some c.spill_of.ensures.value) ∙ sym c.is_some.ensures ∙ c.if-is_some.false) in
    entry-plain g.L.LeafForm.kind g.met.L.LeafForm.trie c.requires.stands.0 c.args.line c.args.entry c.requires.line none
    c.requires.stands.1

pub overflow_add-run : goal.overflow_add-run
overflow_add-run g c =
    let some = c.requires.stands.1 in
    let none : spill_number g.L.LeafForm.kind c.args.entry ≡ None =
    some-none _ (sym (ap is_some c.spill_of.ensures.value) ∙ sym c.is_some.ensures ∙ c.if-is_some.false) in
    let h = run-whole g.L.LeafForm.kind g.met.L.LeafForm.trie c.requires.stands.0 some.map c.args.line c.args.entry some.few c.requires.line
    some.line c.run-run.result none c.run-run.ensures in
    record { fits = omega arith }

pub returns-then-run-begin : goal.returns-then-run-begin
returns-then-run-begin g c = λ spill m few line.
    let none : spill_number g.L.LeafForm.kind c.args.entry ≡ None =
    some-none _ (sym (ap is_some c.spill_of.ensures.value) ∙ sym c.is_some.ensures ∙ c.if-is_some.false) in
    perm-none m (c.args.line * 16) 16 (λ alike. mixed-short g.L.LeafForm.kind g.met.L.LeafForm.trie spill m c.args.line c.args.entry few
    c.requires.line line alike c.run-run.result none c.run-run.ensures c.if-run-begin.true)

pub returns : goal.returns
returns g c = λ spill m few line.
    let none : spill_number g.L.LeafForm.kind c.args.entry ≡ None =
    some-none _ (sym (ap is_some c.spill_of.ensures.value) ∙ sym c.is_some.ensures ∙ c.if-is_some.false) in
    perm-some m (c.args.line * 16) 16 c.run-run.result.perm
    (alike-run g.L.LeafForm.kind g.met.L.LeafForm.trie spill m c.args.line c.args.entry few c.requires.line line c.run-run.result none
    c.run-run.ensures c.if-run-begin.false)

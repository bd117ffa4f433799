use Rattle.std.proofs.Common.{◌≡◌, Some, refl, sym, ap, ◌∙◌, arith}
use Rattle.mx_words.specs.declared.perm.Perm.TheVariants as P
use Rattle.mx_pool.specs.Frames.{word_at}
use Rattle.mx_trie.specs.Leaf.{spill_number}
use Rattle.mx_trie.proofs.FlatLaws.{flat-spill}
use Rattle.mx_trie.proofs.PageFrees.{line-given}
use Rattle.mx_trie.proofs.page.free_line.Goals as goal

pub give-requires : goal.give-requires
give-requires g c =
    let named : spill_number g.L.LeafForm.kind (word_at c.args.leaf.now c.args.frame c.args.place) ≡ Some c.in-Some.number =
    ap (spill_number g.L.LeafForm.kind) (sym c.get.ensures) ∙ sym c.spill_of.ensures.value ∙ c.in-Some.is in
    (omega arith, c.requires.table.parts.taken c.args.place 2 c.in-Some.number c.requires.place (refl, named))

pub returns-in-Some : goal.returns-in-Some
returns-in-Some g c =
    let named : spill_number g.L.LeafForm.kind (word_at c.args.leaf.now c.args.frame c.args.place) ≡ Some c.in-Some.number =
    ap (spill_number g.L.LeafForm.kind) (sym c.get.ensures) ∙ sym c.spill_of.ensures.value ∙ c.in-Some.is in
    line-given g.L.LeafForm.kind c.args.leaf.now c.args.spill.now c.set.new.self c.give.new.self c.args.frame c.args.place c.in-Some.number
    named
    (search arith)
    (ap (spill_number g.L.LeafForm.kind) c.set.ensures.here ∙ flat-spill g.L.LeafForm.kind g.met.L.LeafForm.trie P.None 0 0 0 c.flat.result
    (c.flat.ensures 0))
    c.give.ensures.elsewhere c.give.ensures.more c.give.ensures.total

use Rattle.std.proofs.Common.{◌∙◌, sym, arith}
use Rattle.mx_trie.proofs.WalkLaws.{end-root, end-mid, end-leaf, end-spill}
use Rattle.mx_trie.proofs.WalkWords.{way-mid, way-spill}
use Rattle.mx_trie.proofs.walk.find.Goals as goal

pub returns-then-in_root-ne0 : goal.returns-then-in_root-ne0
returns-then-in_root-ne0 g c =
    search (arith, end-root, g.met.L.LeafForm.trie, c.requires.read, c.requires.inside, c.root_entry-in_root.ensures)

pub get-in_mid-requires : goal.get-in_mid-requires
get-in_mid-requires g c =
    let table = way-mid g.L.LeafForm.kind c.args.upper.now c.args.leaf.now c.args.spill.now c.args.words c.args.root c.requires.read
    c.args.word (omega (arith, c.requires.inside, c.requires.read.few_words))
    c.root_entry-in_root.result c.root_entry-in_root.ensures c.if-in_root-ne0.false in
    (omega arith, (table.node.self, omega arith))

pub returns-then-in_mid-ne0 : goal.returns-then-in_mid-ne0
returns-then-in_mid-ne0 g c =
    end-mid g.L.LeafForm.kind g.met.L.LeafForm.trie c.args.upper.now c.args.leaf.now c.args.spill.now c.args.words c.args.root
    c.requires.read c.args.word c.requires.inside
    c.root_entry-in_root.result c.root_entry-in_root.ensures c.if-in_root-ne0.false c.get-in_mid.result c.get-in_mid.ensures
    c.if-in_mid-ne0.true

pub get-requires : goal.get-requires
get-requires g c =
    let taken = way-spill g.L.LeafForm.kind c.args.upper.now c.args.leaf.now c.args.spill.now c.args.words c.args.root c.requires.read
    c.args.word (omega (arith, c.requires.inside, c.requires.read.few_words))
    c.root_entry-in_root.result c.root_entry-in_root.ensures c.if-in_root-ne0.false c.get-in_mid.result c.get-in_mid.ensures
    c.if-in_mid-ne0.false c.get-in_leaf.result c.get-in_leaf.ensures
    c.in-Some.number (sym c.spill_of.ensures.value ∙ c.in-Some.is) in
    (omega arith, (taken, omega arith))

pub returns-in-None : goal.returns-in-None
returns-in-None g c =
    end-leaf g.L.LeafForm.kind g.met.L.LeafForm.trie c.args.upper.now c.args.leaf.now c.args.spill.now c.args.words c.args.root
    c.requires.read c.args.word c.requires.inside
    c.root_entry-in_root.result c.root_entry-in_root.ensures c.if-in_root-ne0.false c.get-in_mid.result c.get-in_mid.ensures
    c.if-in_mid-ne0.false c.get-in_leaf.result c.get-in_leaf.ensures
    (sym c.spill_of.ensures.value ∙ c.in-None.is)

pub returns-in-Some : goal.returns-in-Some
returns-in-Some g c =
    end-spill g.L.LeafForm.kind g.met.L.LeafForm.trie c.args.upper.now c.args.leaf.now c.args.spill.now c.args.words c.args.root
    c.requires.read c.args.word c.requires.inside
    c.root_entry-in_root.result c.root_entry-in_root.ensures c.if-in_root-ne0.false c.get-in_mid.result c.get-in_mid.ensures
    c.if-in_mid-ne0.false c.get-in_leaf.result c.get-in_leaf.ensures
    c.in-Some.number c.get.result (sym c.spill_of.ensures.value ∙ c.in-Some.is) c.get.ensures

use Rattle.std.proofs.Common.{◌*◌, ◌≡◌, ℕ, not, sym, ap, ◌∙◌, subst, arith}
use Rattle.std.proofs.Math.Bool.{not-not}
use Rattle.mx_trie.specs.Built.{AreLinesBuilt}
use Rattle.mx_trie.specs.Walk.{target}
use Rattle.mx_trie.proofs.PageTables.{pointer-open}
use Rattle.mx_trie.proofs.BuiltBlocks.{page-built, page-even, broken-room}
use Rattle.mx_trie.proofs.build.build_page.Goals as goal

pub returns-then-is_page_even : goal.returns-then-is_page_even
returns-then-is_page_even g c =
    page-even g.L.LeafForm.kind (g.V.View.map c.args.view.now) c.args.page c.args.leaf.now c.args.spill.now c.page_vector.result
    (sym (not-not _) ∙ ap not (sym c.is_page_even.ensures ∙ c.if-is_page_even.true)) c.page_vector.ensures

pub build_lines-requires-clause-leaf_room : goal.build_lines-requires-clause-leaf_room
build_lines-requires-clause-leaf_room g c = search (arith, broken-room, g.V.View.map, not-not)

pub returns-else-is_page_even : goal.returns-else-is_page_even
returns-else-is_page_even g c =
    let f : ℕ = c.build_lines.result in
    let at : target (4 * f) ≡ f = omega arith in
    page-built g.L.LeafForm.kind g.met.L.LeafForm.trie (g.V.View.map c.args.view.now) c.args.page c.args.leaf.now c.args.spill.now
    c.build_lines.new.leaf c.build_lines.new.spill (4 * f)
    (pointer-open f) (sym (not-not _) ∙ ap not (sym c.is_page_even.ensures ∙ c.if-is_page_even.false))
    (subst (λ n. AreLinesBuilt g.L.LeafForm.kind c.args.leaf.now c.args.spill.now c.build_lines.new.leaf c.build_lines.new.spill
    (g.V.View.map c.args.view.now) c.args.page n 64) (sym at) c.build_lines.ensures.built)

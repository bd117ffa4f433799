use Rattle.std.proofs.Common.{◌*◌, ◌≡◌, ℕ, not, sym, ap, ◌∙◌, subst, arith}
use Rattle.std.proofs.Math.Bool.{not-not}
use Rattle.mx_words.specs.Blocks.{is_broken}
use Rattle.mx_words.specs.Runs.{region_words}
use Rattle.mx_trie.specs.Built.{ArePagesBuilt}
use Rattle.mx_trie.specs.Walk.{target}
use Rattle.mx_trie.proofs.PageTables.{pointer-open}
use Rattle.mx_trie.proofs.BuiltBlocks.{region-built, region-even, broken-room}
use Rattle.mx_trie.proofs.build.build_region.Goals as goal

pub returns-then-is_region_even : goal.returns-then-is_region_even
returns-then-is_region_even g c =
    region-even g.L.LeafForm.kind (g.V.View.map c.args.view.now) c.args.region (sym (not-not _)
    ∙ ap not (sym c.is_region_even.ensures ∙ c.if-is_region_even.true))
    c.args.upper.now c.args.leaf.now c.args.spill.now c.region_vector.result c.region_vector.ensures

pub is_region_even-requires : goal.is_region_even-requires
is_region_even-requires g c = search

pub region_vector-requires : goal.region_vector-requires
region_vector-requires g c = search

pub build_pages-requires : goal.build_pages-requires
build_pages-requires g c =
    search (broken-room (is_broken region_words (g.V.View.map c.args.view.now) c.args.region) _
    (sym (not-not _) ∙ ap not (sym c.is_region_even.ensures ∙ c.if-is_region_even.false)) c.requires.upper_room)

pub returns-else-is_region_even : goal.returns-else-is_region_even
returns-else-is_region_even g c =
    let f : ℕ = c.build_pages.result in
    let at : target (4 * f) ≡ f = omega arith in
    let n = c.build_pages.new in
    region-built g.L.LeafForm.kind g.met.L.LeafForm.trie (g.V.View.map c.args.view.now) c.args.region c.args.upper.now c.args.leaf.now
    c.args.spill.now n.upper n.leaf n.spill (4 * f)
    (pointer-open f) (sym (not-not _) ∙ ap not (sym c.is_region_even.ensures ∙ c.if-is_region_even.false))
    (subst (λ r. ArePagesBuilt g.L.LeafForm.kind c.args.upper.now c.args.leaf.now c.args.spill.now n.upper n.leaf n.spill
    (g.V.View.map c.args.view.now) c.args.region r 1024) (sym at)
    c.build_pages.ensures.built)

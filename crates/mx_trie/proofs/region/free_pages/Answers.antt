use Rattle.std.proofs.Common.{◌≡◌, ◌+◌, ◌%◌, ℕ, false, List, Option, IsSome, refl, sym, subst, arith}
use Rattle.std.proofs.lemmas.Bool.{ne_eqb}
use Rattle.mx_trie.specs.Walk.{Frames, is_pointer}
use Rattle.mx_trie.specs.OnWay.{ArePagesEmptied}
use Rattle.mx_trie.specs.Steps.{IsPageFreed}
use Rattle.mx_trie.proofs.RegionPages.{page-at, pages-same, pages-emptied, pages-passed, pages-freed}
use Rattle.mx_trie.proofs.region.free_pages.Goals as goal
use Rattle.mx_trie.proofs.region.free_pages.Goals.{then-old-eq0, else-old-eq0}

pub loop-place-init : goal.loop-place-init
loop-place-init g c = record {
  moved = pages-same g.L.LeafForm.kind c.args.upper.now c.args.leaf.now c.args.spill.now c.args.frame c.requires;
  closed = λ k lt. absurd (omega arith);
}

pub free_page-requires : goal.free_page-requires
free_page-requires g c =
    page-at g.L.LeafForm.kind c.loop-place.upper c.loop-place.leaf c.loop-place.spill c.args.frame c.loop-place.place c.get-old.result
    c.loop-place-test.true c.get-old.ensures
    c.loop-place.invariant.moved.table

pub set-requires : goal.set-requires
set-requires g c = (omega arith, (c.loop-place.invariant.moved.table.node.self, c.loop-place-test.true))

pub loop-place-preserved : goal.loop-place-preserved
loop-place-preserved g c =
    let T : Frames → Frames → Frames → Type 0 =
    λ u l s. ArePagesEmptied g.L.LeafForm.kind c.args.upper.now c.args.leaf.now c.args.spill.now u l s c.args.frame (c.loop-place.place + 1)
    in
    elim c.if-old-eq0.branch [
      | then-old-eq0 w ↦
          subst (λ u. T u c.if-old-eq0.leaf c.if-old-eq0.spill) (sym w.upper-is)
          (subst (λ l. T w.set.new.self l c.if-old-eq0.spill) (sym w.leaf-is)
          (subst (λ s. T w.set.new.self w.free_page.new.leaf s) (sym w.spill-is)
          (pages-emptied g.L.LeafForm.kind c.args.upper.now c.args.leaf.now c.args.spill.now c.loop-place.upper c.loop-place.leaf
          c.loop-place.spill
          w.set.new.self w.free_page.new.leaf w.free_page.new.spill c.args.frame c.loop-place.place 1 c.loop-place-test.true
          c.loop-place.invariant refl
          (subst (λ e. IsPageFreed g.L.LeafForm.kind c.loop-place.leaf c.loop-place.spill w.free_page.new.leaf w.free_page.new.spill e)
          c.get-old.ensures w.free_page.ensures)
          (record {
            taken = subst (λ (o : Option (List ℕ)). IsSome o) (sym w.set.ensures.frame) refl;
            here = w.set.ensures.here;
            others = w.set.ensures.others;
            elsewhere = w.set.ensures.elsewhere;
            free = w.set.ensures.free;
            total = w.set.ensures.total;
          }))))
      | else-old-eq0 w ↦
          subst (λ u. T u c.if-old-eq0.leaf c.if-old-eq0.spill) (sym w.upper-is)
          (subst (λ l. T c.loop-place.upper l c.if-old-eq0.spill) (sym w.leaf-is)
          (subst (λ s. T c.loop-place.upper c.loop-place.leaf s) (sym w.spill-is)
          (pages-passed g.L.LeafForm.kind c.args.upper.now c.args.leaf.now c.args.spill.now c.loop-place.upper c.loop-place.leaf
          c.loop-place.spill
          c.loop-place.upper c.loop-place.leaf c.loop-place.spill c.args.frame c.loop-place.place 0 c.loop-place-test.true
          c.loop-place.invariant
          (subst (λ e. is_pointer e ≡ false) c.get-old.ensures (ne_eqb (c.get-old.result % 4) 0 w.if-old-eq0.false)))))
    ]

pub returns : goal.returns
returns g c =
    let T : ℕ → Type 0 =
    λ n. ArePagesEmptied g.L.LeafForm.kind c.args.upper.now c.args.leaf.now c.args.spill.now c.loop-place.upper c.loop-place.leaf
    c.loop-place.spill c.args.frame n in
    let end : c.loop-place.place ≡ 1024 = omega (arith, c.loop-place-test.false, c.loop-place.auto.place-end) in
    pages-freed g.L.LeafForm.kind c.args.upper.now c.args.leaf.now c.args.spill.now c.loop-place.upper c.loop-place.leaf c.loop-place.spill
    c.args.frame (subst T end c.loop-place.invariant)

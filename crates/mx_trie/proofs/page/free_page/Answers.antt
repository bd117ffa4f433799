use Rattle.std.proofs.Common.{◌≡◌, ◌%◌, true, sym, subst, arith, eq-eqb}
use Rattle.mx_trie.specs.Leaf.{form_reach}
use Rattle.mx_trie.specs.Walk.{Frames, is_pointer, target}
use Rattle.mx_trie.specs.Steps.{AreLinesFreed}
use Rattle.mx_trie.proofs.PageFrees.{page-freed, lines-plain, reach-none}
use Rattle.mx_trie.proofs.page.free_page.Goals as goal
use Rattle.mx_trie.proofs.page.free_page.Goals.{then-REACH-gt0, else-REACH-gt0}

pub returns-after-REACH-gt0 : goal.returns-after-REACH-gt0
returns-after-REACH-gt0 g c =
    let pointer : is_pointer c.args.entry ≡ true = eq-eqb (c.args.entry % 4) 0 c.if-entry-eq0.true in
    let T : Frames → Frames → Type 0 =
    λ l s. AreLinesFreed g.L.LeafForm.kind c.args.leaf.now c.args.spill.now l s (target c.args.entry) 64 in
    let lines : T c.if-REACH-gt0.leaf c.if-REACH-gt0.spill =
    elim c.if-REACH-gt0.branch [
      | then-REACH-gt0 w ↦ subst (λ l. T l c.if-REACH-gt0.spill) (sym w.leaf-is)
          (subst (λ s. T w.free_lines.new.leaf s) (sym w.spill-is) w.free_lines.ensures)
      | else-REACH-gt0 w ↦
          (let plain : form_reach g.L.LeafForm.kind ≡ 0 = omega (arith, g.met.L.LeafForm.reach, c.REACH.ensures, w.if-REACH-gt0.false) in
          subst (λ l. T l c.if-REACH-gt0.spill) (sym w.leaf-is)
          (search (
            arith,
            c.args.leaf.now,
            lines-plain,
            g.L.LeafForm.kind,
            c.args.spill.now,
            c.requires,
            reach-none,
            g.met.L.LeafForm.trie,
          )))
    ] in
    page-freed g.L.LeafForm.kind c.args.leaf.now c.args.spill.now c.if-REACH-gt0.leaf c.if-REACH-gt0.spill c.give.new.self c.args.entry
    pointer lines c.give.ensures.elsewhere c.give.ensures.more c.give.ensures.total

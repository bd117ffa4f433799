use Rattle.std.proofs.Common.{◌*◌, ◌/◌, subst, arith}
use Rattle.mx_words.specs.Reach.{line_at}
use Rattle.mx_trie.specs.declared.walk.Found.{Found}
use Rattle.mx_trie.specs.declared.walk.Found.TheVariants as F
use Rattle.mx_trie.specs.Found.{IsFound}
use Rattle.mx_trie.proofs.FoundItems.{root-span, mid-span}
use Rattle.mx_trie.proofs.FoundSpans.{found-leaf, found-spill}
use Rattle.mx_trie.proofs.walk.found_span.Goals as goal

pub returns-in-Root : goal.returns-in-Root
returns-in-Root g c map found_in long =
    search (
      arith,
      g.L.LeafForm.kind,
      c.args.word,
      c.in-Root.is,
      root-span,
      c.in-Root.entry,
      c.args.words,
      c.part_span.result,
      c.part_span.ensures.first,
      c.part_span.ensures.count,
    )

pub returns-in-Mid : goal.returns-in-Mid
returns-in-Mid g c map found_in long =
    search (
      arith,
      g.L.LeafForm.kind,
      c.args.word,
      c.in-Mid.is,
      mid-span,
      c.in-Mid.entry,
      c.args.words,
      c.part_span-in-Mid.result,
      c.part_span-in-Mid.ensures.first,
      c.part_span-in-Mid.ensures.count,
    )

pub returns-in-Leaf : goal.returns-in-Leaf
returns-in-Leaf g c map found_in long =
    let T : Found → Type 0 = λ f. IsFound g.L.LeafForm.kind map c.args.word f in
    let found : IsFound g.L.LeafForm.kind map c.args.word (F.Leaf c.in-Leaf.entry) = subst T c.in-Leaf.is found_in in
    let leaf = found.1 in
    let run = c.run.ensures (line_at map (c.args.word / 16 * 16)) leaf.left leaf.right leaf.number leaf.stored in
    cc (
      c.cut.ensures,
      long,
      run,
      found-leaf map c.args.word c.in-Leaf.entry 0 (omega (arith, long, c.requires.inside)) g.L.LeafForm.kind
          g.met.L.LeafForm.trie found.0 leaf,
    )

pub returns-in-Spill : goal.returns-in-Spill
returns-in-Spill g c map found_in long =
    let T : Found → Type 0 = λ f. IsFound g.L.LeafForm.kind map c.args.word f in
    let found : IsFound g.L.LeafForm.kind map c.args.word (F.Spill c.in-Spill.entry c.in-Spill.spilled) =
    subst T c.in-Spill.is found_in in
    let leaf = found.1 in
    let run = c.run-in-Spill.ensures (line_at map (c.args.word / 16 * 16)) leaf.left leaf.right leaf.number leaf.stored in
    cc (
      c.cut-in-Spill.ensures,
      long,
      run,
      found-spill map c.args.word c.in-Spill.entry c.in-Spill.spilled
          (omega (arith, long, c.requires.inside)) g.L.LeafForm.kind g.met.L.LeafForm.trie found.0 leaf,
    )

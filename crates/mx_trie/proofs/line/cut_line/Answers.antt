use Rattle.std.proofs.Common.{◌≡◌, ◌+◌, ◌-◌, ◌*◌, ◌≤◌, inl, inr, min, length, ◌∙◌, arith}
use Rattle.mx_table.specs.Tables.{most_words}
use Rattle.mx_trie.specs.Leaf.{form_reach}
use Rattle.mx_trie.proofs.LineChanges.{line-changed}
use Rattle.mx_trie.proofs.LineCuts.{cut-perms, cut-left-kept, cut-left-new, cut-right-kept, cut-right-new}
use Rattle.mx_trie.proofs.line.cut_line.Goals as goal
use Rattle.mx_trie.proofs.line.cut_line.Goals.{then-begin-lay, else-begin-lay, then-lay-end, else-lay-end}

pub returns : goal.returns
returns g c =
    line-changed g.L.LeafForm.kind g.met.L.LeafForm.trie c.args.spill.now c.put_spill-number.new.spill c.args.lay.now c.args.beside.now
    c.args.line c.args.entry c.entry.result
    (record {
      made = search (
        arith,
        c.args.spill.now,
        c.put_spill-number.new.spill,
        c.needs_spill.result,
        c.entry-word.result,
        c.spill_of.ensures.value,
      );
      room = λ h. (let before = c.requires.before in let behind = c.requires.behind in
          elim c.requires.part [ inl x ↦ omega arith | inr x ↦ omega arith ]);
      perms_are = λ m known line.
          (let long = known.long in let few = c.args.lay.now.few in
          let small : length m ≤ most_words = omega arith in
          cut-perms g.L.LeafForm.kind m c.args.lay.now c.args.beside.now known c.args.line c.requires.line c.requires.before
          c.requires.behind c.perms_in-old.result c.lay_over-new.result
          (c.max.result - c.args.line * 16) (c.min.result - c.args.line * 16) (c.perms_in-old.ensures m small line)
          (omega (arith, c.max.ensures)) (omega (arith, c.min.ensures)) c.lay_over-new.ensures);
      left_is = λ m known line. elim c.if-begin-lay.branch [
        | then-begin-lay w ↦
            cut-left-kept g.L.LeafForm.kind m c.args.lay.now c.args.beside.now known c.args.line c.requires.line c.requires.before
            c.requires.behind w.if-begin-lay.true
            ∙ (let e : min c.args.beside.now.left (form_reach g.L.LeafForm.kind) ≡ c.min-2.result =
            omega (arith, w.left-is, c.min-2.ensures, c.REACH.ensures, g.met.L.LeafForm.reach) in e)
        | else-begin-lay w ↦
            cut-left-new g.L.LeafForm.kind m c.args.lay.now c.args.beside.now known c.args.line c.requires.line c.requires.before
            c.requires.behind w.if-begin-lay.false
            ∙ (let e : min (c.args.line * 16 - c.args.lay.now.first + c.args.beside.now.before) (form_reach g.L.LeafForm.kind)
            ≡ c.min-2.result =
            omega (arith, w.left-is, c.min-2.ensures, c.REACH.ensures, g.met.L.LeafForm.reach) in e)
      ];
      right_is = λ m known line. elim c.if-lay-end.branch [
        | then-lay-end w ↦
            cut-right-kept g.L.LeafForm.kind m c.args.lay.now c.args.beside.now known c.args.line c.requires.line c.requires.before
            c.requires.behind w.if-lay-end.true
            ∙ (let e : min c.args.beside.now.right (form_reach g.L.LeafForm.kind) ≡ c.min-3.result =
            omega (arith, w.right-is, c.min-3.ensures, c.REACH-2.ensures, g.met.L.LeafForm.reach) in e)
        | else-lay-end w ↦
            cut-right-new g.L.LeafForm.kind m c.args.lay.now c.args.beside.now known c.args.line c.requires.line c.requires.before
            c.requires.behind w.if-lay-end.false
            ∙ (let e : min (c.args.lay.now.end - (c.args.line * 16 + 16) + c.args.beside.now.behind) (form_reach g.L.LeafForm.kind)
            ≡ c.min-3.result =
            omega (arith, w.right-is, c.min-3.ensures, c.REACH-2.ensures, g.met.L.LeafForm.reach) in e)
      ];
    })

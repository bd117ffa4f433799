use Rattle.std.proofs.Common.{◌≡◌, ℕ, ◌+◌, ◌-◌, ◌*◌, false, min, Option, sym, ◌∙◌, subst, arith}
use Rattle.mx_trie.specs.Filled.{flat_line}
use Rattle.mx_trie.specs.Leaf.{form_reach}
use Rattle.mx_trie.specs.Spills.{IsSpillPut}
use Rattle.mx_trie.proofs.FlatLaws.{flat-needs}
use Rattle.mx_trie.proofs.LineChanges.{line-changed}
use Rattle.mx_trie.proofs.LineCuts.{cover-perms}
use Rattle.mx_trie.proofs.LineReaches.{left-in, right-in}
use Rattle.mx_trie.proofs.line.cover_line.Goals as goal

pub returns : goal.returns
returns g c =
    let from = c.requires.from in
    let to = c.requires.to in
    line-changed g.L.LeafForm.kind g.met.L.LeafForm.trie c.args.spill.now c.put_spill.new.spill c.args.lay.now c.args.beside.now c.args.line
    c.args.entry c.flat.result
    (record {
      made = record {
        perms = flat_line c.args.lay.now.perm;
        left = c.min-left.result;
        right = c.min-right.result;
        number = c.put_spill.result;
        word = 0;
        needs = false;
        needs_is = sym (flat-needs g.L.LeafForm.kind c.args.lay.now.perm);
        put = subst (λ (o : Option ℕ). IsSpillPut c.args.spill.now c.put_spill.new.spill o false 0 c.put_spill.result)
            c.spill_of.ensures.value c.put_spill.ensures;
        word_is = λ h. absurd (cc);
        entry_is = c.flat.ensures c.put_spill.result;
      };
      room = λ h. absurd (cc);
      perms_are = λ m known line. cover-perms g.L.LeafForm.kind m c.args.lay.now c.args.beside.now known c.args.line c.requires.line from
          to;
      left_is = λ m known line.
          left-in g.L.LeafForm.kind m c.args.lay.now c.args.beside.now known c.args.line from (omega arith)
          ∙ (omega (arith, c.min-left.ensures, c.REACH.ensures, g.met.L.LeafForm.reach));
      right_is = λ m known line.
          right-in g.L.LeafForm.kind m c.args.lay.now c.args.beside.now known c.args.line (omega arith) to
          ∙ let e : min (form_reach g.L.LeafForm.kind) (c.args.lay.now.end - (c.args.line * 16 + 16) + c.args.beside.now.behind)
          ≡ c.min-right.result =
          omega (arith, c.min-right.ensures, c.REACH-2.ensures, g.met.L.LeafForm.reach) in e;
    })

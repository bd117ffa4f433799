use Rattle.std.proofs.Common.{List, ◌+◌, ◌<◌, sym, ◌∙◌, subst, arith}
use Rattle.mx_any.specs.Machines.{meaning}
use Rattle.mx_audit.specs.declared.alike.AlikeWords.{AlikeWords}
use Rattle.mx_audit.specs.AlikeWords.{AllTell, Tells, some_exposes}
use Rattle.mx_audit.proofs.AlikeLaws.{tells-more, tells-unmarked}
use Rattle.mx_audit.proofs.alike.alike_at.Goals as goal
use Rattle.mx_audit.proofs.alike.alike_at.Goals.{then-is_marked, else-is_marked}

pub loop-i-preserved : goal.loop-i-preserved
loop-i-preserved c =
    let f = meaning c.args.machine.now in
    let live = c.args.live.now in
    let word = c.args.word in
    let i = c.loop-i.i in
    elim c.if-is_marked.branch [
      | then-is_marked w ↦
          let behind = w.rights_at.ensures.behind in
          record {
            known = subst (λ (known : List AlikeWords). AllTell f live word known) (sym w.known-is) w.rights_at.ensures.known;
            behind = subst (λ (s : AlikeWords). word < s.end) (sym w.all-is)
                (omega (arith, w.joined-all.ensures.end, behind, c.loop-i.invariant.behind));
            tells = subst (λ (s : AlikeWords). Tells f (some_exposes f live (i + 1)) word s) (sym w.all-is)
                (tells-more f live i word c.loop-i.all w.rights_at.result w.joined-all.result w.joined-all.ensures.end
                w.joined-all.ensures.exposed c.loop-i.invariant.tells w.rights_at.ensures.tells);
          }
      | else-is_marked w ↦ record {
        known = subst (λ (known : List AlikeWords). AllTell f live word known) (sym w.known-is) c.loop-i.invariant.known;
        behind = subst (λ (s : AlikeWords). word < s.end) (sym w.all-is) c.loop-i.invariant.behind;
        tells = subst (λ (s : AlikeWords). Tells f (some_exposes f live (i + 1)) word s) (sym w.all-is)
            (tells-unmarked f live i word c.loop-i.all (sym c.is_marked.ensures ∙ w.if-is_marked.false) c.loop-i.invariant.tells);
      }
    ]

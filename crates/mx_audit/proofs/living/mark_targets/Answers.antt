use Rattle.std.proofs.Common.{List, Bool, ◌+◌, true, sym, ◌∙◌, subst, IsTrue}
use borrow.Author.Count.{falls}
use Rattle.std.proofs.lemmas.Bool.{OnFalse_from, both_ways}
use Rattle.std.proofs.lemmas.Option.{slice_get_within}
use Rattle.mx_any.specs.Machines.{meaning}
use Rattle.mx_model.specs.declared.values.Gate.{Gate}
use Rattle.mx_audit.specs.Marks.{MarkTargets, is_marked}
use Rattle.mx_audit.proofs.MarkLaws.{Pass, all-end, gate-small, pass-mark, pass-skip}
use Rattle.mx_audit.proofs.living.mark_targets.Goals as goal
use Rattle.mx_audit.proofs.living.mark_targets.Goals.{then-is_marked+then-not-is_marked, else-is_marked}
use Rattle.mx_audit.proofs.living.mark_targets.Goals.{else-is_marked-via-then-is_marked+else-not-is_marked}
use Rattle.mx_audit.proofs.living.mark_targets.Goals.{else-is_marked-via-else-is_marked}

pub gates-preserved : goal.gates-preserved
gates-preserved c =
    let core = (meaning c.args.machine.now).core in
    let before = c.args.live.now in
    let marks = c.gates.live in
    let i = c.gates.i in
    let g = c.in-Some.gate in
    let at = sym c.in-Some.ensures in
    let inv = c.gates.invariant in
    let p : Pass core i before marks c.gates.more = record {
      long = inv.long;
      within = inv.within;
      only = inv.only;
      kept = inv.kept;
      fewer =
          inv.fewer;
      some = inv.more;
      all = inv.all;
    } in
    let q : Pass core (i + 1) before c.if-is_marked.live c.if-is_marked.more = elim c.if-is_marked.branch [
      | then-is_marked+then-not-is_marked w ↦
          subst (λ (b : Bool). Pass core (i + 1) before c.if-is_marked.live b) (sym w.more-is)
          (subst (λ (ms : List Bool). Pass core (i + 1) before ms true) (sym (w.live-is ∙ w.mark.ensures))
          (pass-mark core i before marks c.gates.more g c.any_machine_is_valid.ensures.valid p at (sym c.is_marked.ensures
          ∙ w.if-is_marked.true)
          (sym w.is_marked-then-is_marked.ensures ∙ w.if-not-is_marked.true)))
      | else-is_marked w ↦
          subst (λ (b : Bool). Pass core (i + 1) before c.if-is_marked.live b) (sym w.more-is)
          (subst (λ (ms : List Bool). Pass core (i + 1) before ms c.gates.more) (sym w.live-is)
          (pass-skip core i before marks c.gates.more g p at
          (elim w.else-is_marked.branch [
            | else-is_marked-via-then-is_marked+else-not-is_marked v ↦ λ d. sym v.is_marked-then-is_marked.ensures
                ∙ v.if-not-is_marked.false
            | else-is_marked-via-else-is_marked v ↦ λ d. absurd
                (both_ways (is_marked marks g.domain) (sym c.is_marked.ensures ∙ v.if-is_marked.false) d)
          ])))
    ] in
    record { long = q.long; within = q.within; only = q.only; kept = q.kept; fewer = q.fewer; more = q.some; all = q.all }

pub returns-clause-all : goal.returns-clause-all
returns-clause-all c =
    let core = (meaning c.args.machine.now).core in
    OnFalse_from c.gates.more (MarkTargets core c.gates.live) (λ e.
    all-end (λ (g : Gate). IsTrue (is_marked c.gates.live g.domain)
    → IsTrue (is_marked c.gates.live g.target)) core.gates c.gates.i (sym c.in_default.ensures) (c.gates.invariant.all e))

pub mark-requires : goal.mark-requires
mark-requires c =
    gate-small (meaning c.args.machine.now).core c.gates.i c.in-Some.gate c.any_machine_is_valid.ensures.valid
    (sym c.in-Some.ensures)

pub gates-smaller : goal.gates-smaller
gates-smaller c =
    let gates = (meaning c.args.machine.now).core.gates in
    falls _ _ (slice_get_within gates c.gates.i c.in-Some.gate (sym c.in-Some.ensures))

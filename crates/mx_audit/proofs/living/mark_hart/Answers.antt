use Rattle.std.proofs.Common.{List, Bool, ◌≡◌, ◌+◌, true, length, set, take, sym, ap, ◌∙◌, subst, arith, IsTrue}
use Rattle.std.specs.List.{AllByRecursion}
use Rattle.std.proofs.lemmas.List.{length-set}
use Rattle.std.proofs.lemmas.Option.{slice_get_within}
use Rattle.mx_any.specs.Machines.{meaning}
use Rattle.mx_model.specs.declared.values.Frame.{Frame}
use Rattle.mx_model.specs.State.{hart_at}
use Rattle.mx_model.proofs.JoinLaws.{all-weaker}
use Rattle.mx_audit.specs.Marks.{KeepMarks, MarkOnlyLive, is_marked}
use Rattle.mx_audit.proofs.MarkLaws.{all-end, all-next, frame-live, frame-small, hart-live, hart-small, marked-more, marked-same, only-more}
use Rattle.mx_audit.proofs.living.mark_hart.Goals as goal

pub frames-init : goal.frames-init
frames-init c =
    let core = (meaning c.args.machine.now).core in
    let d = (hart_at core c.args.hart).domain in
    let marks = c.args.live.now in
    let set_so : c.mark.new.live ≡ set marks d true = c.mark.ensures ∙ ap (λ e. set marks e true) c.hart-view.ensures.domain in
    let long : length c.mark.new.live ≡ 64 = omega arith in
    let low = hart-small core c.args.hart c.any_machine_is_valid.ensures.valid c.requires.hart in
    record {
      long = long;
      within = omega arith;
      only = subst (λ (ms : List Bool). MarkOnlyLive core ms) (sym set_so)
          (only-more core marks d c.requires.only (hart-live core c.args.hart c.requires.hart));
      kept = subst (λ (ms : List Bool). KeepMarks marks ms) (sym set_so) (marked-more marks d);
      domain = subst (λ (ms : List Bool). IsTrue (is_marked ms d)) (sym set_so)
          (marked-same marks d (omega (arith, ap length set_so, length-set marks d true)));
      callers = tt;
    }

pub mark-requires-in-Some : goal.mark-requires-in-Some
mark-requires-in-Some c =
    frame-small (meaning c.args.machine.now).core c.args.hart c.frames.i c.in-Some.frame c.any_machine_is_valid.ensures.valid
    c.requires.hart (sym c.in-Some.ensures)

pub frames-smaller : goal.frames-smaller
frames-smaller c =
    let inside = slice_get_within (hart_at (meaning c.args.machine.now).core c.args.hart).frames c.frames.i c.in-Some.frame
    (sym c.in-Some.ensures) in
    omega arith

pub frames-preserved : goal.frames-preserved
frames-preserved c =
    let core = (meaning c.args.machine.now).core in
    let hart = hart_at core c.args.hart in
    let f = c.in-Some.frame in
    let at = sym c.in-Some.ensures in
    let marks = c.frames.live in
    let inv = c.frames.invariant in
    let set_so : c.mark-in-Some.new.live ≡ set marks f.caller true = c.mark-in-Some.ensures in
    let inside = slice_get_within hart.frames c.frames.i f at in
    let low = frame-small core c.args.hart c.frames.i f c.any_machine_is_valid.ensures.valid c.requires.hart at in
    let long = inv.long in
    record {
      long = ap length set_so ∙ length-set marks f.caller true ∙ long;
      within = omega arith;
      only = subst (λ (ms : List Bool). MarkOnlyLive core ms) (sym set_so)
          (only-more core marks f.caller inv.only (frame-live core c.args.hart c.frames.i f c.requires.hart at));
      kept = λ d p. subst (λ (ms : List Bool). IsTrue (is_marked ms d)) (sym set_so) (marked-more marks f.caller d (inv.kept d p));
      domain = subst (λ (ms : List Bool). IsTrue (is_marked ms hart.domain)) (sym set_so)
          (marked-more marks f.caller hart.domain inv.domain);
      callers = subst (λ (ms : List Bool). AllByRecursion (λ (x : Frame). IsTrue (is_marked ms x.caller))
          (take (c.frames.i + 1) hart.frames)) (sym set_so)
          (all-next (λ (x : Frame). IsTrue (is_marked (set marks f.caller true) x.caller)) hart.frames c.frames.i f at
          (all-weaker (λ (x : Frame). IsTrue (is_marked marks x.caller)) (λ (x : Frame).
          IsTrue (is_marked (set marks f.caller true) x.caller)) (take c.frames.i hart.frames) (λ x p.
          marked-more marks f.caller x.caller p) inv.callers)
          (marked-same marks f.caller (omega arith)));
    }

pub returns-clause-home : goal.returns-clause-home
returns-clause-home c =
    let hart = hart_at (meaning c.args.machine.now).core c.args.hart in
    record {
      domain = c.frames.invariant.domain;
      frames = all-end (λ (x : Frame). IsTrue (is_marked c.frames.live x.caller)) hart.frames c.frames.i (sym c.in_default.ensures)
          c.frames.invariant.callers;
    }

use Rattle.std.proofs.Common.{ℕ, ◌+◌, ◌-◌, ◌<◌, ◌≤◌, Bool, false, ◌++◌, ap, arith, if◌then◌else◌, subst, sym}
use Rattle.mx_any.specs.Machines.{meaning}
use Rattle.mx_packets.specs.Lines.{Fails}
use Rattle.mx_packets.proofs.LineLaws.{fails_before}
use Rattle.mx_debug.specs.declared.stop.Stop.{Stop}
use Rattle.mx_debug.specs.Ended.{Replies}
use Rattle.mx_debug.specs.Looks.{IsAt, shows_to}
use Rattle.mx_debug.specs.Replies.{Reply, past_all, stands_at, stop_said}
use Rattle.mx_debug.specs.Session.{Session, forward}
use Rattle.mx_debug.proofs.ReplyLaws.{goes_back, goes_on}
use Rattle.mx_debug.proofs.TalkLaws.{replies_behind}
use Rattle.mx_debug.proofs.reply.go_to.Goals as goal

pub returns-in-Ok-stand_again-clause-replies : goal.returns-in-Ok-stand_again-clause-replies
returns-in-Ok-stand_again-clause-replies g c = λ q is at.
    let s = c.args.session.now in
    let n = c.args.turns in
    let few : n ≤ q.most = (let a = c.if-turns-course.false in let b = is.most in omega (arith, a, b)) in
    let less : n < s.made = (let a = c.if-turns-session.true in let b = ap (λ (t : Session). t.made) c.session.view_is in
    omega (arith, a, b)) in (
      false,
      subst (λ (r : Reply). Replies g.L.Line.says g.L.Line.room q r c.tell.new.session (meaning c.stand_again.new.machine) c.args.line.now
          c.tell.new.line c.tell.result) (sym (goes_back q false s n few less))
          (c.tell.ensures.replies q is (c.in-Ok-stand_again.ensures.at q is)),
    )

pub returns-in-Ok-run_to-clause-replies : goal.returns-in-Ok-run_to-clause-replies
returns-in-Ok-run_to-clause-replies g c = λ q is at.
    let s = c.args.session.now in
    let n = c.args.turns in
    let few : n ≤ q.most = (let a = c.if-turns-course.false in let b = is.most in omega (arith, a, b)) in
    let up : s.made ≤ n = (let a = c.if-turns-session.false in let b = ap (λ (t : Session). t.made) c.session.view_is in
    omega (arith, a, b)) in
    let to = forward q past_all (n - s.made) s.made false false in
    let f = c.in-Ok-run_to.ensures.finds q is at in
    let found = c.in-Ok-run_to.found in
    let machine = meaning c.run_to.new.machine in
    let place = subst (λ (b : Bool). IsAt q (if b then found.made + 1 else found.made) machine) c.in-Ok-run_to.ensures.past f.place in
    let one = replies_behind g.L.Line.says g.L.Line.room q c.args.line.now c.run_to.new.line c.tell-in-Ok-run_to.new.line
    (shows_to q s.told s.made to) (stands_at q s (found.made, found.stop)) c.tell-in-Ok-run_to.new.session machine
    c.tell-in-Ok-run_to.result f.said
    (c.tell-in-Ok-run_to.ensures.replies q is place) in
    let all = subst (λ (t : ℕ × Stop). Replies g.L.Line.says g.L.Line.room q
    (record {
      said = shows_to q s.told s.made to ++ (stands_at q s t).said;
      session = (stands_at q s t).session;
      leaves =
          (stands_at q s t).leaves;
    }) c.tell-in-Ok-run_to.new.session machine c.args.line.now c.tell-in-Ok-run_to.new.line
    c.tell-in-Ok-run_to.result) f.first one in (
      false,
      subst (λ (r : Reply). Replies g.L.Line.says g.L.Line.room q r c.tell-in-Ok-run_to.new.session machine c.args.line.now
          c.tell-in-Ok-run_to.new.line c.tell-in-Ok-run_to.result) (sym (goes_on q false s n few up)) all,
    )

pub returns-in-Err-run_to-clause-replies : goal.returns-in-Err-run_to-clause-replies
returns-in-Err-run_to-clause-replies g c = λ q is at.
    let s = c.args.session.now in
    let n = c.args.turns in
    let few : n ≤ q.most = (let a = c.if-turns-course.false in let b = is.most in omega (arith, a, b)) in
    let up : s.made ≤ n = (let a = c.if-turns-session.false in let b = ap (λ (t : Session). t.made) c.session.view_is in
    omega (arith, a, b)) in
    let to = forward q past_all (n - s.made) s.made false false in (
      false,
      subst (λ (r : Reply). Fails g.L.Line.says g.L.Line.room c.args.line.now r.said c.run_to.new.line) (sym (goes_on q false s n few up))
          (fails_before g.L.Line.says g.L.Line.room c.args.line.now c.run_to.new.line (shows_to q s.told s.made to) (stop_said q s.shown to)
          (c.in-Err-run_to.ensures.finds q is at)),
    )

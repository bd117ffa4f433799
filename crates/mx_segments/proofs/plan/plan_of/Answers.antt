use Rattle.std.proofs.Common.{◌+◌, not, nat_lt, ◌∙◌, arith}
use Rattle.mx_words.specs.Rights.{same}
use Rattle.mx_segments.specs.declared.plan.Plan.{Plan}
use Rattle.mx_segments.specs.Plan.{IsPlan}
use Rattle.mx_segments.specs.Sound.{map_in}
use Rattle.mx_segments.proofs.PlanLaws.{differ, plan_is, order, and_true, and_false}
use Rattle.mx_segments.proofs.plan.plan_of.Goals as goal

pub returns-then-behind-words : goal.returns-then-behind-words
returns-then-behind-words c =
    let m = map_in c.args.words c.args.leaf.now c.args.chains.now.lists c.args.row in
    let plan : Plan = record {
      before = c.runs_before.result;
      behind = c.runs_before-2.result;
      all = c.runs_before-3.result;
      starts =
          c.starts_at.result;
      ends = c.ne.result;
      next = c.perm_or_none-next.result;
    } in
    let is : IsPlan m c.args.first c.args.count c.args.perm plan =
    plan_is c.args.words m c.requires.sound.length_is c.args.first c.args.count c.args.perm c.requires.some c.requires.inside plan
    c.runs_before.ensures c.runs_before-2.ensures c.runs_before-3.ensures c.starts_at.ensures c.perm_or_none-next.ensures
    (and_true (c.args.first + c.args.count) c.args.words c.ne.result (not (same c.args.perm c.perm_or_none-next.result))
    (omega (arith, c.if-behind-words.true)) (c.ne.ensures ∙ differ _ _)) in
    let o = order c.args.words m c.requires.sound.length_is c.args.first c.args.count c.args.perm c.requires.some c.requires.inside plan is
    in
    record { plan = is; before = o.0; behind = o.1; all = o.2; most = o.3 }

pub returns-else-behind-words : goal.returns-else-behind-words
returns-else-behind-words c =
    let m = map_in c.args.words c.args.leaf.now c.args.chains.now.lists c.args.row in
    let plan : Plan = record {
      before = c.runs_before.result;
      behind = c.runs_before-2.result;
      all = c.runs_before-3.result;
      starts =
          c.starts_at.result;
      ends = nat_lt (c.args.first + c.args.count) c.args.words;
      next = c.perm_or_none-next.result;
    } in
    let is : IsPlan m c.args.first c.args.count c.args.perm plan =
    plan_is c.args.words m c.requires.sound.length_is c.args.first c.args.count c.args.perm c.requires.some c.requires.inside plan
    c.runs_before.ensures c.runs_before-2.ensures c.runs_before-3.ensures c.starts_at.ensures c.perm_or_none-next.ensures
    (and_false (c.args.first + c.args.count) c.args.words (not (same c.args.perm c.perm_or_none-next.result)) c.if-behind-words.false) in
    let o = order c.args.words m c.requires.sound.length_is c.args.first c.args.count c.args.perm c.requires.some c.requires.inside plan is
    in
    record { plan = is; before = o.0; behind = o.1; all = o.2; most = o.3 }

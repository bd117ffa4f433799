use Rattle.std.proofs.lemmas.Bool.{OnFalse_at}
use Rattle.mx_any.specs.Machines.{meaning}
use Rattle.mx_model.specs.State.{hart_at}
use Rattle.mx_audit.proofs.MarkLaws.{none-only, hart-kept, marks-live}
use Rattle.mx_audit.proofs.living.live_domains.Goals as goal

pub mark_harts-requires : goal.mark_harts-requires
mark_harts-requires c = record { only = none-only (meaning c.args.machine.now).core 64 }

pub returns-then-not-mark_targets : goal.returns-then-not-mark_targets
returns-then-not-mark_targets c =
    let core = (meaning c.args.machine.now).core in
    marks-live core c.mark_targets.new.live c.mark_targets.ensures.only
    (λ h l. hart-kept c.passes.live c.mark_targets.new.live (hart_at core h) c.mark_targets.ensures.kept (c.passes.invariant.harts h l))
    (OnFalse_at c.if-not-mark_targets.true c.mark_targets.ensures.all)

pub passes-preserved : goal.passes-preserved
passes-preserved c =
    let core = (meaning c.args.machine.now).core in
    record {
      only = c.mark_targets.ensures.only;
      harts = λ h l. hart-kept c.passes.live c.mark_targets.new.live (hart_at core h) c.mark_targets.ensures.kept
          (c.passes.invariant.harts h l);
    }

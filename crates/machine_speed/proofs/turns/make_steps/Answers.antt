use Rattle.std.proofs.Common.{◌+◌, ◌∙◌, ap, ℕ, arith}
use Rattle.mx_model.specs.Reads.{flat_reads}
use Rattle.mx_model.specs.State.{Flat}
use Rattle.mx_model.proofs.KeepLaws.{keeps-turned}
use Rattle.machine_speed.proofs.turns.make_steps.Goals as goal

pub loop-i-preserved : goal.loop-i-preserved
loop-i-preserved c =
    let f : Flat = c.loop-i.machine in
    ap (λ (g : Flat). g.core.turns) c.step.ensures.turn ∙ (keeps-turned (flat_reads f) f.core 0).turns
    ∙ ap (λ n. n + 1) c.loop-i.invariant ∙ omega arith

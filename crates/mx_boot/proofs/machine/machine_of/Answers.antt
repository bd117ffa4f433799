use Rattle.std.proofs.Common.{◌∙◌, ap, length}
use Rattle.std.proofs.lemmas.List.{length-map}
use Rattle.mx_machine.specs.Starts.{started}
use Rattle.mx_boot.specs.Joined.{boot_parts}
use Rattle.mx_boot.specs.Laid.{start_of}
use Rattle.mx_boot.specs.Starting.{hart_starts}
use Rattle.mx_boot.proofs.Ready.{ready}
use Rattle.mx_boot.proofs.Starting.{boots-as}
use Rattle.mx_boot.proofs.machine.machine_of.Goals as goal

pub plan_is_in_range-requires : goal.plan_is_in_range-requires
plan_is_in_range-requires g c = search

pub starts-starts-requires : goal.starts-starts-requires
starts-starts-requires g c = ap length (c.as_slice.ensures.value ∙ c.requires.layout.starts) ∙ length-map _ _

pub stacks-stacks-requires : goal.stacks-stacks-requires
stacks-stacks-requires g c = search

pub new-requires : goal.new-requires
new-requires g c =
    let starts = c.starts-starts.ensures (start_of c.args.plan.now c.args.images.now) (c.as_slice.ensures.value ∙ c.requires.layout.starts)
    in (
      search,
      (
        search,
        ready c.args.plan.now c.args.images.now c.args.inputs.now c.plan_is_in_range.ensures c.requires.layout.faultless _
            c.starts-starts.result c.stacks-stacks.result
            c.requires.parts starts c.stacks-stacks.ensures,
      ),
    )

pub returns : goal.returns
returns g c =
    let plan = c.args.plan.now in
    let images = c.args.images.now in
    let inputs = c.args.inputs.now in
    let starts = c.starts-starts.ensures (start_of plan images) (c.as_slice.ensures.value ∙ c.requires.layout.starts) in
    c.new.ensures ∙ ap (λ p. started p c.starts-starts.result c.stacks-stacks.result) c.requires.parts
    ∙ ap (λ s. started (boot_parts plan images inputs) s c.stacks-stacks.result) starts
    ∙ ap (started (boot_parts plan images inputs) (hart_starts plan images)) c.stacks-stacks.ensures
    ∙ boots-as plan images c.plan_is_in_range.ensures c.requires.layout.faultless inputs

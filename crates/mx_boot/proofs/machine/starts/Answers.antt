use Rattle.std.proofs.Common.{◌∙◌, ◌+◌, [], ap, length, get_or, map, arith}
use Rattle.std.proofs.lemmas.List.{length-append}
use Rattle.std.proofs.lemmas.Option.{get_or_from_slice_get}
use Rattle.mx_machine.specs.declared.starts.HartStart.{HartStart}
use Rattle.mx_boot.specs.Starting.{hart_start_of}
use Rattle.mx_boot.proofs.Rows.{at_mapped, grown_by_one}
use Rattle.mx_boot.proofs.machine.starts.Goals as goal

pub push-requires : goal.push-requires
push-requires c = omega (arith, c.harts.invariant.0, c.harts-test.true, c.harts-h-end.ensures.range.1)

pub harts-preserved : goal.harts-preserved
harts-preserved c =
    let x = c.hart.result.now in
    let h = c.harts.h in (
      ap length c.push.ensures ∙ length-append c.harts.starts _ ∙ ap (λ n. n + 1) c.harts.invariant.0,
      λ pc same. grown_by_one (hart_start_of pc) c.args.plan.now.harts h x [] c.harts.starts c.push.new.self _ c.hart.ensures.value
          (c.harts.invariant.1 pc same)
          (ap (λ n. (let s : HartStart = record { domain = x.module; pc = n } in s)) (ap (λ xs. get_or xs h 0) same
          ∙ get_or_from_slice_get (map pc c.args.plan.now.harts) h (pc x) 0
          (at_mapped pc c.args.plan.now.harts h x c.hart.ensures.value)))
          c.push.ensures,
    )

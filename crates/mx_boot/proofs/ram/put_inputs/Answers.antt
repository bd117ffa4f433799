use Rattle.std.proofs.Common.{◌∙◌, ◌≤◌, ap, sym, subst, length, fold, IfSome, arith}
use Rattle.std.specs.List.{enumerate_from, flat_map}
use Rattle.std.proofs.lemmas.List.{take_all}
use Rattle.std.proofs.lemmas.List.FromFn.{length-enumerate_from}
use Rattle.mx_boot.specs.Areas.{input_content, input_contents, placed_input}
use Rattle.mx_boot.specs.Boot.{with_content}
use Rattle.mx_boot.specs.Placed.{HasRoom}
use Rattle.mx_boot.proofs.Puts.{next-contents}
use Rattle.mx_boot.proofs.Placing.{aligned_input}
use Rattle.mx_boot.proofs.Rows.{at_counted}
use Rattle.mx_boot.proofs.ram.put_inputs.Goals as goal

pub put_input_of-requires-clause-room : goal.put_input_of-requires-clause-room
put_input_of-requires-clause-room c =
    let m = c.module.result.now in
    subst (λ n. IfSome m.input (λ input. HasRoom n (input_content c.input_at.result.now input))) (sym c.modules.invariant.1)
    (subst (λ bytes. IfSome m.input (λ input. HasRoom (length c.args.ram.now) (input_content bytes input))) (sym c.input_at.ensures)
    (c.requires.room c.modules.i m c.module.ensures.value))

pub put_input_of-requires-clause-aligned : goal.put_input_of-requires-clause-aligned
put_input_of-requires-clause-aligned c = aligned_input c.module.result.now.input c.module.ensures.range.input

pub modules-preserved : goal.modules-preserved
modules-preserved c =
    let m = c.module.result.now in (
      next-contents (placed_input c.args.inputs.now) (enumerate_from 0 c.args.plan.now.modules) c.modules.i (c.modules.i, m) c.args.ram.now
          c.modules.ram c.put_input_of.new.ram
          (at_counted c.args.plan.now.modules c.modules.i m c.module.ensures.value) c.modules.invariant.0
          (c.put_input_of.ensures.bytes ∙ ap (λ bytes. fold with_content c.modules.ram (input_contents bytes m)) c.input_at.ensures),
      c.put_input_of.ensures.size ∙ c.modules.invariant.1,
    )

pub returns-clause-bytes : goal.returns-clause-bytes
returns-clause-bytes c =
    let all = enumerate_from 0 c.args.plan.now.modules in
    let past : length all ≤ c.modules.i = omega (arith, length-enumerate_from 0 c.args.plan.now.modules, c.modules-i-end.ensures.value) in
    c.modules.invariant.0 ∙ ap (λ ms. fold with_content c.args.ram.now (flat_map (placed_input c.args.inputs.now) ms))
    (take_all c.modules.i all past)

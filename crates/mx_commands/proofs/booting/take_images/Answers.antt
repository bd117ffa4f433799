use Rattle.std.proofs.Common.{◌+◌, drop, refl, ◌∙◌, arith}
use Rattle.std.proofs.lemmas.List.{drop_all}
use Rattle.mx_words.proofs.ElementLaws.{drop_at}
use Rattle.mx_commands.proofs.Continued.{continues_wanting}
use Rattle.mx_commands.proofs.booting.take_images.Goals as goal

pub returns-in-Err-push : goal.returns-in-Err-push
returns-in-Err-push g c =
    let modules = c.args.plan.now.modules in
    let behind = drop_at modules c.modules.i c.module.result.now c.module.ensures.value in
    let takes = c.in-Ok.ensures c.modules.images.items in
    λ rest console dump.
    let comes = rw behind at (c.modules.invariant.comes rest) in
    comes _ _ _ _
    (takes.1 (drop (c.modules.i + 1) modules) rest _ _ _ _
    (continues_wanting g.S.Store.gives _ c.take_image.new.store refl
    (record { console = refl; report = takes.0 ∙ c.modules.invariant.report; dump = refl })))

pub returns-in-Err : goal.returns-in-Err
returns-in-Err g c =
    let modules = c.args.plan.now.modules in
    let behind = drop_at modules c.modules.i c.module.result.now c.module.ensures.value in
    let takes = rw c.modules.invariant.report at (c.in-Err.ensures c.modules.images.items) in
    λ rest console dump.
    let comes = rw behind at (c.modules.invariant.comes rest) in
    comes _ _ _ _ (takes (drop (c.modules.i + 1) modules) rest console dump)

pub modules-preserved : goal.modules-preserved
modules-preserved g c =
    let modules = c.args.plan.now.modules in
    let behind = drop_at modules c.modules.i c.module.result.now c.module.ensures.value in
    let takes = c.in-Ok.ensures c.modules.images.items in
    record {
      report = takes.0 ∙ c.modules.invariant.report;
      comes =
          λ rest end before now result continues.
          let comes = rw behind at (c.modules.invariant.comes rest) in
          comes end before now result
          (takes.1 (drop (c.modules.i + 1) modules) rest end before now result (rw c.in-Ok-push.ensures.items at continues));
    }

pub returns : goal.returns
returns g c =
    let modules = c.args.plan.now.modules in
    let all = drop_all c.modules.i modules (omega (arith, c.modules-test.false, c.modules-i-end.ensures.value)) in
    (c.modules.invariant.report, λ rest. rw all at (c.modules.invariant.comes rest))

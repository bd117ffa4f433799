use Rattle.std.proofs.Common.{◌+◌, ◌*◌, [], ◌∷◌, drop, length, refl, ap, sym, subst, ◌∙◌, arith}
use Rattle.std.proofs.lemmas.List.{drop_all, length-append}
use Rattle.mx_words.proofs.ElementLaws.{drop_at}
use Rattle.mx_boot.specs.Faults.{ram_words}
use Rattle.mx_commands.proofs.Continued.{continues_wanting}
use Rattle.mx_commands.specs.Boots.{after_inputs}
use Rattle.mx_commands.specs.Booting.{AfterFiles}
use Rattle.mx_commands.specs.Ends.{Comes}
use Rattle.mx_commands.proofs.FitLaws.{AreFitting, fit_all, fit_next, fit_none, total_more}
use Rattle.mx_commands.proofs.booting.take_inputs.Goals as goal

pub returns-in-Err-push-clause-takes : goal.returns-in-Err-push-clause-takes
returns-in-Err-push-clause-takes g c =
    let modules = c.args.plan.now.modules in
    let behind = drop_at modules c.modules.i c.module.result.now c.module.ensures.value in
    let takes = c.in-Ok.ensures.takes (4 * ram_words c.args.plan.now) c.modules.inputs.items c.modules.invariant.left in
    λ rest console dump.
    let comes = rw behind at (c.modules.invariant.comes rest) in
    comes _ _ _ _
    (takes.1 (drop (c.modules.i + 1) modules) rest _ _ _ _
    (continues_wanting g.S.Store.gives _ c.take_input.new.store refl
    (record { console = refl; report = takes.0 ∙ c.modules.invariant.report; dump = refl })))

pub returns-in-Err-clause-takes : goal.returns-in-Err-clause-takes
returns-in-Err-clause-takes g c =
    let modules = c.args.plan.now.modules in
    let behind = drop_at modules c.modules.i c.module.result.now c.module.ensures.value in
    let takes = rw c.modules.invariant.report at (c.in-Err.ensures.takes (4 * ram_words c.args.plan.now) c.modules.inputs.items
    c.modules.invariant.left) in
    λ rest console dump.
    let comes = rw behind at (c.modules.invariant.comes rest) in
    comes _ _ _ _ (takes (drop (c.modules.i + 1) modules) rest console dump)

pub modules-init : goal.modules-init
modules-init g c =
    let none = c.new-inputs.ensures.items in
    let plan = c.args.plan.now in
    record {
      report = refl;
      left = rw none (omega arith);
      few = omega arith;
      count = ap length none;
      fit = subst (AreFitting plan 0) (sym none) (fit_none plan);
      comes = subst
          (λ items. (rest : AfterFiles) → Comes (after_inputs c.args.side (4 * ram_words plan) 1 plan.modules [] rest) g.S.Store.gives
          c.args.store.now c.args.store.now
          (after_inputs c.args.side (4 * ram_words plan) 1 plan.modules items rest))
          (sym none) (λ rest end before now status c. c);
    }

pub modules-preserved : goal.modules-preserved
modules-preserved g c =
    let modules = c.args.plan.now.modules in
    let plan = c.args.plan.now in
    let behind = drop_at modules c.modules.i c.module.result.now c.module.ensures.value in
    let before = c.modules.inputs.items in
    let input = c.in-Ok.input in
    let takes = c.in-Ok.ensures.takes (4 * ram_words plan) before c.modules.invariant.left in
    let items = c.in-Ok-push.ensures.items in
    let more = total_more before input in
    let long = length-append before (input ∷ []) in
    record {
      report = takes.0 ∙ c.modules.invariant.report;
      left = rw items (omega (arith, more, c.modules.invariant.left));
      few = omega (arith, c.modules.invariant.few);
      count = rw items (omega (arith, long, c.modules.invariant.count));
      fit = rw items (fit_next plan c.modules.i before c.module.result.now input c.modules.invariant.count c.module.ensures.value
          c.in-Ok.ensures.fit.1 c.modules.invariant.fit);
      comes =
          λ rest end before now result continues.
          let comes = rw behind at (c.modules.invariant.comes rest) in
          comes end before now result
          (takes.1 (drop (c.modules.i + 1) modules) rest end before now result (rw items at continues));
    }

pub returns-clause-takes : goal.returns-clause-takes
returns-clause-takes g c =
    let modules = c.args.plan.now.modules in
    let all = drop_all c.modules.i modules (omega (arith, c.modules-test.false, c.modules-i-end.ensures.value)) in
    (c.modules.invariant.report, λ rest. rw all at (c.modules.invariant.comes rest))

pub returns-clause-fit : goal.returns-clause-fit
returns-clause-fit g c = fit_all c.args.plan.now c.modules.i c.modules.inputs.items
    (omega (arith, c.modules-test.false, c.modules-i-end.ensures.value)) c.modules.invariant.fit

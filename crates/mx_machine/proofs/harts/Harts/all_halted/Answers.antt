use Rattle.std.proofs.Common.{◌<◌, ◌≤◌, sym, subst, ◌∙◌}
use Rattle.std.proofs.lemmas.List.Folds.{list_all_at}
use Rattle.mx_machine.specs.declared.hart.Hart.{Hart}
use Rattle.mx_machine.specs.Harts.{is_halted, no_held_hart}
use Rattle.mx_machine.proofs.AnyLaws.{all-next, all-pass, taken-count}
use Rattle.mx_machine.proofs.harts.Harts.all_halted.Goals as goal

pub returns-then-not-is_halted : goal.returns-then-not-is_halted
returns-then-not-is_halted c =
    let count = taken-count c.self.inside.len c.self.inside.items c.args.self.now c.self.view_is c.self.invariant.0 c.self.invariant.1 in
    sym (list_all_at (λ (x : Hart). is_halted x.progress) c.args.self.now c.loop-hart.hart no_held_hart
    (subst (λ n. c.loop-hart.hart < n) (sym count) c.loop-hart-test.true) (sym c.is_halted.ensures ∙ c.if-not-is_halted.true))

pub loop-hart-preserved : goal.loop-hart-preserved
loop-hart-preserved c =
    let count = taken-count c.self.inside.len c.self.inside.items c.args.self.now c.self.view_is c.self.invariant.0 c.self.invariant.1 in
    all-next (λ (x : Hart). is_halted x.progress) c.args.self.now c.loop-hart.hart no_held_hart
    (subst (λ n. c.loop-hart.hart < n) (sym count) c.loop-hart-test.true) c.loop-hart.invariant (sym c.is_halted.ensures
    ∙ c.if-not-is_halted.false)

pub returns : goal.returns
returns c =
    let count = taken-count c.self.inside.len c.self.inside.items c.args.self.now c.self.view_is c.self.invariant.0 c.self.invariant.1 in
    sym (all-pass (λ (x : Hart). is_halted x.progress) c.args.self.now c.loop-hart.hart
    (subst (λ n. n ≤ c.loop-hart.hart) (sym count) c.loop-hart-test.false) c.loop-hart.invariant)

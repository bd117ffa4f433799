use Rattle.std.proofs.Common.{◌<◌, ◌≤◌, sym, subst, ◌∙◌}
use Rattle.std.proofs.lemmas.List.Folds.{list_any_at}
use Rattle.mx_machine.specs.declared.hart.Hart.{Hart}
use Rattle.mx_machine.specs.Harts.{is_waiting, no_held_hart}
use Rattle.mx_machine.proofs.AnyLaws.{any-next, any-none, taken-count}
use Rattle.mx_machine.proofs.harts.Harts.any_waits.Goals as goal

pub returns-then-waits : goal.returns-then-waits
returns-then-waits c =
    let count = taken-count c.self.inside.len c.self.inside.items c.args.self.now c.self.view_is c.self.invariant.0 c.self.invariant.1 in
    sym (list_any_at (λ (x : Hart). is_waiting x.progress) c.args.self.now c.loop-hart.hart no_held_hart
    (subst (λ n. c.loop-hart.hart < n) (sym count) c.loop-hart-test.true) (sym c.waits.ensures ∙ c.if-waits.true))

pub loop-hart-preserved : goal.loop-hart-preserved
loop-hart-preserved c =
    let count = taken-count c.self.inside.len c.self.inside.items c.args.self.now c.self.view_is c.self.invariant.0 c.self.invariant.1 in
    any-next (λ (x : Hart). is_waiting x.progress) c.args.self.now c.loop-hart.hart no_held_hart
    (subst (λ n. c.loop-hart.hart < n) (sym count) c.loop-hart-test.true) c.loop-hart.invariant (sym c.waits.ensures ∙ c.if-waits.false)

pub returns : goal.returns
returns c =
    let count = taken-count c.self.inside.len c.self.inside.items c.args.self.now c.self.view_is c.self.invariant.0 c.self.invariant.1 in
    sym (any-none (λ (x : Hart). is_waiting x.progress) c.args.self.now c.loop-hart.hart
    (subst (λ n. n ≤ c.loop-hart.hart) (sym count) c.loop-hart-test.false) c.loop-hart.invariant)

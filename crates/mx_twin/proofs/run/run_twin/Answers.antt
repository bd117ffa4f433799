use Rattle.std.proofs.Common.{◌/◌, ◌%◌, ℕ, Bool, length, refl, sym, ◌∙◌, subst}
use Rattle.mx_any.specs.Machines.{meaning}
use Rattle.mx_twin.specs.declared.twin.TwinEnd.{TwinEnd}
use Rattle.mx_twin.specs.Twins.{IsAtBorder}
use Rattle.mx_twin.proofs.Going.{IsGoing, few-turns, going-end, going-fails, going-halted, going-next, going-out, going-start, hart-below}
use Rattle.mx_twin.proofs.PairLaws.{pair-of, whole-of}
use Rattle.mx_twin.proofs.TurnRows.{at-border}
use Rattle.mx_twin.proofs.run.run_twin.Goals as goal

pub turns-init : goal.turns-init
turns-init c =
    let f = meaning c.args.a.now in
    let g = meaning c.args.b.now in
    let v = whole-of f c.any_machine_is_valid.ensures.valid c.any_machine_is_valid.ensures.maps c.any_machine_is_valid.ensures.whole in
    let w = whole-of g c.any_machine_is_valid-2.ensures.valid c.any_machine_is_valid-2.ensures.maps c.any_machine_is_valid-2.ensures.whole
    in
    let p = pair-of f g c.requires.alike v w in
    subst (λ (k : ℕ). IsGoing c.args.domain c.args.quantum c.args.steps k f g 0 f g c.any_compared-known.result) (sym c.harts-harts.ensures)
    (subst (λ (b : Bool). IsGoing c.args.domain c.args.quantum c.args.steps (length f.core.harts) f g 0 f g b)
    (sym c.any_compared-known.ensures)
    (going-start c.args.domain c.args.quantum c.args.steps f g p c.requires.alike c.requires.domain (sym c.fails.ensures
    ∙ c.if-fails.false)))

pub returns-then-all_halted-2-clause-answer : goal.returns-then-all_halted-2-clause-answer
returns-then-all_halted-2-clause-answer c =
    let f = meaning c.args.a.now in
    let g = meaning c.args.b.now in
    going-halted c.args.domain c.args.quantum c.args.steps c.harts-harts.result f g c.turns.made (meaning c.turns.a) (meaning c.turns.b)
    c.turns.known c.turns.invariant
    (sym c.all_halted.ensures ∙ c.if-all_halted.true) (sym c.all_halted-then-all_halted.ensures ∙ c.if-all_halted-2.true)

pub turns-preserved : goal.turns-preserved
turns-preserved c =
    let f = meaning c.args.a.now in
    let g = meaning c.args.b.now in
    going-next c.args.domain c.args.quantum c.args.steps c.harts-harts.result f g c.turns.made (meaning c.turns.a) (meaning c.turns.b)
    c.turns.known c.turns.invariant
    (c.turns.made / c.args.quantum % c.harts-harts.result) refl (meaning c.step_watched-kind.new.a) (meaning c.step_watched-kind.new.b)
    c.step_watched-kind.ensures.first c.step_watched-kind.ensures.second c.step_watched-kind.result.1 c.step_watched-kind.ensures.right
    c.turns-test.true c.in-Some.still c.in-Some.is

pub returns-in-None-clause-answer : goal.returns-in-None-clause-answer
returns-in-None-clause-answer c =
    let f = meaning c.args.a.now in
    let g = meaning c.args.b.now in
    going-end c.args.domain c.args.quantum c.args.steps c.harts-harts.result f g c.turns.made (meaning c.turns.a) (meaning c.turns.b)
    c.turns.known c.turns.invariant
    (c.turns.made / c.args.quantum % c.harts-harts.result) refl (meaning c.step_watched-kind.new.a) (meaning c.step_watched-kind.new.b)
    c.step_watched-kind.ensures.first c.step_watched-kind.ensures.second c.step_watched-kind.result.1 c.step_watched-kind.ensures.right
    c.turns-test.true c.in-None.is c.step_watched-kind.result.0 c.step_watched-kind.ensures.kind

pub returns-in-None-clause-border : goal.returns-in-None-clause-border
returns-in-None-clause-border c =
    let f = meaning c.args.a.now in
    let g = meaning c.args.b.now in
    let v = whole-of f c.any_machine_is_valid.ensures.valid c.any_machine_is_valid.ensures.maps c.any_machine_is_valid.ensures.whole in
    let w = whole-of g c.any_machine_is_valid-2.ensures.valid c.any_machine_is_valid-2.ensures.maps c.any_machine_is_valid-2.ensures.whole
    in
    let p = pair-of f g c.requires.alike v w in
    let e = going-end c.args.domain c.args.quantum c.args.steps c.harts-harts.result f g c.turns.made (meaning c.turns.a)
    (meaning c.turns.b) c.turns.known c.turns.invariant
    (c.turns.made / c.args.quantum % c.harts-harts.result) refl (meaning c.step_watched-kind.new.a) (meaning c.step_watched-kind.new.b)
    c.step_watched-kind.ensures.first c.step_watched-kind.ensures.second c.step_watched-kind.result.1 c.step_watched-kind.ensures.right
    c.turns-test.true c.in-None.is c.step_watched-kind.result.0 c.step_watched-kind.ensures.kind in
    subst (λ (t : TwinEnd). IsAtBorder c.args.domain c.args.quantum f g t) (sym e)
    (at-border c.args.domain c.args.quantum f g c.args.steps p)

pub step_watched-kind-requires-clause-alike : goal.step_watched-kind-requires-clause-alike
step_watched-kind-requires-clause-alike c = c.turns.invariant.alike

pub step_watched-kind-requires-clause-domain : goal.step_watched-kind-requires-clause-domain
step_watched-kind-requires-clause-domain c = c.turns.invariant.domain

pub step_watched-kind-requires-clause-knows : goal.step_watched-kind-requires-clause-knows
step_watched-kind-requires-clause-knows c = c.turns.invariant.knows

pub step_watched-kind-requires-clause-hart : goal.step_watched-kind-requires-clause-hart
step_watched-kind-requires-clause-hart c =
    hart-below _ _ _ _ c.turns.invariant.count c.harts-harts.ensures c.any_machine_is_valid.ensures.valid.some_harts

pub step_watched-kind-requires-clause-few_first : goal.step_watched-kind-requires-clause-few_first
step_watched-kind-requires-clause-few_first c =
    few-turns _ _ _ _ c.turns.invariant.first c.turns-test.true c.requires.few_first

pub step_watched-kind-requires-clause-few_second : goal.step_watched-kind-requires-clause-few_second
step_watched-kind-requires-clause-few_second c =
    few-turns _ _ _ _ c.turns.invariant.second c.turns-test.true c.requires.few_second

pub returns-then-fails-clause-answer : goal.returns-then-fails-clause-answer
returns-then-fails-clause-answer c =
    going-fails c.args.domain c.args.quantum c.args.steps (meaning c.args.a.now) (meaning c.args.b.now)
    (sym c.fails.ensures ∙ c.if-fails.true)

pub returns-clause-answer : goal.returns-clause-answer
returns-clause-answer c =
    going-out c.args.domain c.args.quantum c.args.steps c.harts-harts.result (meaning c.args.a.now)
    (meaning c.args.b.now) c.turns.made (meaning c.turns.a) (meaning c.turns.b) c.turns.known
    c.turns.invariant c.turns-test.false

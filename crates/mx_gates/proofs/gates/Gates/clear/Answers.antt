use Rattle.std.proofs.Common.{◌≡◌, List, ap, refl, sym, subst, ◌∙◌}
use Rattle.std.specs.Prelude.{Option, option_map}
use Rattle.mx_model.specs.declared.values.Gate.{Gate}
use Rattle.mx_model.specs.Gates.{gate_target}
use Rattle.mx_gates.specs.Index.{place_of}
use Rattle.mx_gates.proofs.Order.{clear-between}
use Rattle.mx_gates.proofs.gates.Gates.clear.Goals as goal

pub returns-then-place : goal.returns-then-place
returns-then-place c w low high =
    let s = c.self.inside in
    let d = c.args.domain in
    let first = c.behind-first.result in
    let end = c.before-end.result in
    let as_many : place_of d first s.sorted.items ≡ place_of d end s.sorted.items =
    ap (place_of d first) (sym c.as_slice-sorted.ensures.value)
    ∙ sym c.place.ensures.place ∙ c.if-place.true ∙ c.place-2.ensures.place ∙ ap (place_of d end) c.as_slice-sorted.ensures.value in
    rw (← c.self.view_is) (ap (λ (o : Option Gate). option_map (λ (g : Gate). g.target) o)
    (sym (c.self.invariant.1.same d w) ∙ clear-between d first end w s.sorted.items c.self.invariant.1.rising as_many low high))

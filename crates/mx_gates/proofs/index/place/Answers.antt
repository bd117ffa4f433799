use Rattle.std.proofs.Common.{◌≡◌, ◌+◌, ◌-◌, ◌/◌, ◌<◌, true, false, get_or, subst, arith, ⊎_elim}
use Rattle.std.proofs.lemmas.Bool.{cases_Bool}
use Rattle.mx_gates.specs.Index.{no_gate, is_before}
use Rattle.mx_gates.proofs.Order.{Halves, Halves-upper, Halves-lower, Halves-place}
use Rattle.mx_gates.proofs.index.place.Goals as goal

pub loop-width-preserved : goal.loop-width-preserved
loop-width-preserved c =
    let l = c.loop-width in
    let sorted = c.args.sorted.now in
    let some : 0 < l.width = c.loop-width-test.true in
    let g = get_or sorted (l.low + (l.width - l.width / 2) - 1) no_gate in
    ⊎_elim
    (λ (t : is_before c.args.domain c.args.word g ≡ true). rw (c.step-low.ensures, t)
    (Halves-upper c.args.domain c.args.word sorted c.requires.rising l.low l.width some l.invariant t))
    (λ (f : is_before c.args.domain c.args.word g ≡ false). rw (c.step-low.ensures, f)
    (Halves-lower c.args.domain c.args.word sorted c.requires.rising l.low l.width some l.invariant f))
    (cases_Bool (is_before c.args.domain c.args.word g))

pub returns-clause-place : goal.returns-clause-place
returns-clause-place c =
    let zero : c.loop-width.width ≡ 0 = omega (arith, c.loop-width-test.false) in
    Halves-place c.args.domain c.args.word c.args.sorted.now c.requires.rising c.loop-width.low
    (subst (λ w. Halves c.args.domain c.args.word c.args.sorted.now c.loop-width.low w) zero c.loop-width.invariant)

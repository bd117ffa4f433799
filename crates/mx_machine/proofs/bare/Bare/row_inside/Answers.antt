use Rattle.std.proofs.Common.{◌≡◌, ℕ, ◌+◌, refl, sym, ap, subst, ◌∙◌}
use Rattle.mx_core.specs.declared.outcome.Outcome.{Outcome}
use Rattle.mx_machine.specs.Held.{Held}
use Rattle.mx_machine.specs.Rows.{EndsBy, IsQuick, IsRowTo, tallied}
use Rattle.mx_machine.proofs.Bounds.{both-ways, few-tally, le-self, less-left, one-more}
use Rattle.mx_machine.proofs.RowLaws.{MayTally, quick-tally, row-ends, row-more, row-none, row-own, row-ready, row-tally, stops-but-next}
use Rattle.mx_machine.proofs.bare.Bare.row_inside.Goals as goal

pub turns-init : goal.turns-init
turns-init g c = record {
  row = row-none c.args.self.now c.args.hart c.args.window.now c.requires.whole c.requires.alive c.requires.window;
  own = (c.requires.whole.fits.ties c.args.hart).domain;
}

pub quick-requires : goal.quick-requires
quick-requires g c =
    let r = row-ready c.args.self.now c.turns.self c.args.hart c.turns.made c.args.window.now c.turns.invariant.row c.turns.invariant.own in
    (assumption c, (r.fits, (r.alive, (r.domain, (r.aligned, r.opened)))))

pub turns-preserved : goal.turns-preserved
turns-preserved g c =
    let m = c.turns.self in
    let k = c.quick.new.self in
    let h = c.args.hart in
    let i = c.turns.invariant in
    let q = subst (λ (o : Outcome). IsQuick m h o k) c.in-Next.is c.in-Some.ensures in
    record {
      row = row-more c.turns_keep_validity.ensures c.spans_are_coherent.ensures.turn c.args.self.now m k h c.turns.made _ c.args.window.now
          i.row q;
      own = row-own c.args.self.now m k h c.turns.made c.args.window.now _ i.row i.own q;
    }

-- the hart stands outside
pub tally-requires : goal.tally-requires
tally-requires g c =
    let i = c.turns.invariant in
    let t = row-tally c.args.self.now c.turns.self c.args.hart c.turns.made c.args.window.now i.row i.own in
    let there = subst (λ (k : Held). MayTally c.args.self.now k c.args.hart c.turns.made) (sym c.in-None.ensures) t in (
      assumption c,
      (
        there.there,
        (
          there.kept,
          (
            there.own,
            few-tally _ c.args.self.now.steps c.turns.made c.turns.made c.args.most
                18446744073709551616 there.steps (less-left c.turns.made c.args.most c.turns-test.true) c.requires.few,
          ),
        ),
      ),
    )

pub returns-in-None-clause-row : goal.returns-in-None-clause-row
returns-in-None-clause-row g c =
    let h = c.args.hart in
    let n = c.turns.made in
    subst (λ (k : Held). IsRowTo c.args.self.now h n c.args.window.now k)
    (sym (c.tally.ensures ∙ ap (λ (k : Held). tallied h n k) c.in-None.ensures)) c.turns.invariant.row

-- an instruction ended the turns
pub tally-requires-in_default : goal.tally-requires-in_default
tally-requires-in_default g c =
    let i = c.turns.invariant in
    let t = quick-tally c.args.self.now c.turns.self c.quick.new.self c.args.hart c.turns.made c.args.window.now c.in-Some.outcome i.row
    i.own c.in-Some.ensures in (
      assumption c,
      (
        t.there,
        (
          t.kept,
          (
            t.own,
            few-tally _ c.args.self.now.steps c.turns.made (c.turns.made + 1) c.args.most
                18446744073709551616 t.steps (one-more c.turns.made c.args.most c.turns-test.true) c.requires.few,
          ),
        ),
      ),
    )

pub returns-in_default-clause-row : goal.returns-in_default-clause-row
returns-in_default-clause-row g c =
    let m = c.turns.self in
    let h = c.args.hart in
    let o = c.in-Some.outcome in
    let n = c.turns.made in
    let i = c.turns.invariant in (
      tallied h n m,
      (
        i.row,
        subst (λ (k : Held). EndsBy (tallied h n m) h o k) (sym c.tally-in_default.ensures)
            (row-ends c.args.self.now m c.quick.new.self h n c.args.window.now o i.row c.in-Some.ensures
            (stops-but-next o (λ pc e. c.in_default.not-Next pc e))),
      ),
    )

-- all were made
pub tally-requires-2 : goal.tally-requires-2
tally-requires-2 g c =
    let i = c.turns.invariant in
    let all : c.turns.made ≡ c.args.most = both-ways c.turns.made c.args.most c.turns.auto.made-end c.turns-test.false in
    let t = row-tally c.args.self.now c.turns.self c.args.hart c.turns.made c.args.window.now i.row i.own in (
      assumption c,
      (
        t.there,
        (
          t.kept,
          (
            t.own,
            few-tally _ c.args.self.now.steps c.turns.made c.args.most c.args.most 18446744073709551616
                t.steps (le-self c.args.most c.args.most refl) c.requires.few,
          ),
        ),
      ),
    )

pub returns-clause-row : goal.returns-clause-row
returns-clause-row g c =
    let h = c.args.hart in
    let all : c.turns.made ≡ c.args.most = both-ways c.turns.made c.args.most c.turns.auto.made-end c.turns-test.false in
    subst (λ (k : Held). IsRowTo c.args.self.now h c.args.most c.args.window.now k) (sym c.tally-2.ensures)
    (subst (λ (n : ℕ). IsRowTo c.args.self.now h n c.args.window.now (tallied h n c.turns.self)) all c.turns.invariant.row)

use Rattle.std.proofs.Common.{◌≡◌, ℕ, ◌<◌, ◌≤◌, refl, sym, subst, ◌∙◌}
use Rattle.mx_machine.specs.declared.turns.Going.{Going}
use Rattle.mx_machine.specs.declared.turns.Going.TheVariants as G
use Rattle.mx_machine.specs.Goings.{kind_of}
use Rattle.mx_model.specs.declared.values.TurnKind.TheVariants as T
use Rattle.mx_model.specs.Run.{flat_made}
use Rattle.mx_machine.specs.Held.{meaning}
use Rattle.mx_machine.specs.Made.{IsMade}
use Rattle.mx_machine.specs.Rows.{HasRunOn}
use Rattle.mx_machine.proofs.Bounds.{both-ways, few-last, few-left, least-le, less-le, less-less}
use Rattle.mx_machine.proofs.KindLaws.{ran-first}
use Rattle.mx_machine.proofs.StepLaws.{whole-is}
use Rattle.mx_machine.proofs.StretchLaws.{run-kind, run-more, run-none, run-stretch}
use Rattle.mx_machine.proofs.bare.Bare.run_on.Goals as goal

pub turns-init : goal.turns-init
turns-init g c = record {
  run = run-none c.args.self.now c.args.hart c.requires.whole;
  empty = c.clear.ensures;
  alive = c.before_last-room.ensures.alive;
}

pub turn_on-requires : goal.turn_on-requires
turn_on-requires g c =
    let i = c.turns.invariant in
    let within : c.min-first.result ≤ c.before_last-room.result =
    least-le c.before_last-room.result 4 c.min-first.result c.min-first.ensures in
    let inside : c.turns.ran < c.before_last-room.result = less-le c.turns.ran c.min-first.result c.before_last-room.result
    c.turns-test.true within in
    let below : c.turns.ran < c.args.most = less-less c.turns.ran c.before_last-room.result c.args.most inside
    c.before_last-room.ensures.below in
    let few = few-last c.turns.self.steps c.args.self.now.steps c.turns.ran c.args.most 18446744073709551616 i.run.steps below
    c.requires.few in
    (assumption c, (i.run.whole, (i.alive inside, (few, i.empty))))

pub turns-preserved : goal.turns-preserved
turns-preserved g c =
    let m = c.turns.self in
    let k = c.turn_on.new.self in
    let h = c.args.hart in
    let on = c.turn_on.ensures.on c.in-On.is in
    let made = subst (λ (going : Going). IsMade m k c.turn_on.new.out (kind_of going) (flat_made (meaning m) h)) c.in-On.is
    c.turn_on.ensures.made in
    record {
      run = run-more (meaning c.args.self.now) h c.turns.ran m k c.turn_on.new.out T.Ran c.turns.invariant.run made
          c.turns_keep_validity.ensures c.spans_are_coherent.ensures.turn c.turn_on.ensures.fits refl;
      empty = on.1;
      alive = λ more. on.0;
    }

-- a turn ended the run
pub returns-in-Ended-clause-stretch : goal.returns-in-Ended-clause-stretch
returns-in-Ended-clause-stretch g c =
    let within : c.min-first.result ≤ c.before_last-room.result =
    least-le c.before_last-room.result 4 c.min-first.result c.min-first.ensures in
    let below : c.turns.ran < c.args.most = less-less c.turns.ran c.before_last-room.result c.args.most
    (less-le c.turns.ran c.min-first.result c.before_last-room.result c.turns-test.true within) c.before_last-room.ensures.below in
    run-stretch (meaning c.args.self.now) c.args.hart c.turns.ran c.turns.self c.turn_on.new.self c.turn_on.new.out c.in-Ended.last
    c.turns.invariant.run c.in-Ended.ensures.made
    c.args.most below (λ ran. let on : G.Ended c.in-Ended.last ≡ G.On = c.in-Ended.ensures.ran ran in absurd (let z : ⊥ = cc in z))

pub returns-in-Ended-clause-whole : goal.returns-in-Ended-clause-whole
returns-in-Ended-clause-whole g c =
    whole-is c.turns.self c.turn_on.new.self c.args.hart c.turn_on.new.out c.in-Ended.last c.in-Ended.ensures.made
    c.turns_keep_validity.ensures c.spans_are_coherent.ensures.turn c.turns.invariant.run.whole c.in-Ended.ensures.fits

-- the rest of the row begins where those turns ended
pub more-requires : goal.more-requires
more-requires g c =
    let all : c.turns.ran ≡ c.min-first.result = both-ways c.turns.ran c.min-first.result c.turns.auto.ran-end c.turns-test.false in
    let upto : c.min-first.result ≤ c.before_last-room.result =
    least-le c.before_last-room.result 4 c.min-first.result c.min-first.ensures in
    let r = c.turns.invariant.run in (
      assumption c,
      (
        r.whole,
        (
          upto,
          (
            few-left c.turns.self.steps c.args.self.now.steps c.turns.ran c.min-first.result c.before_last-room.result c.args.most
                18446744073709551616 r.steps all upto c.before_last-room.ensures.below c.requires.few,
            ((λ more. c.turns.invariant.alive (subst (λ (n : ℕ). n < c.before_last-room.result) (sym all) more)), c.turns.invariant.empty),
          ),
        ),
      ),
    )

pub returns-in-Some-clause-stretch : goal.returns-in-Some-clause-stretch
returns-in-Some-clause-stretch g c =
    let f = meaning c.args.self.now in
    let h = c.args.hart in
    let all : c.turns.ran ≡ c.min-first.result = both-ways c.turns.ran c.min-first.result c.turns.auto.ran-end c.turns-test.false in
    let run : HasRunOn f h c.min-first.result c.turns.self = subst (λ (n : ℕ). HasRunOn f h n c.turns.self) all c.turns.invariant.run in
    c.in-Some.ensures.row f c.args.most c.before_last-room.ensures.below run

-- the last turn
pub step-last-requires : goal.step-last-requires
step-last-requires g c =
    let f = meaning c.args.self.now in
    let h = c.args.hart in
    let all : c.turns.ran ≡ c.min-first.result = both-ways c.turns.ran c.min-first.result c.turns.auto.ran-end c.turns-test.false in
    let run : HasRunOn f h c.min-first.result c.turns.self = subst (λ (n : ℕ). HasRunOn f h n c.turns.self) all c.turns.invariant.run in
    let made : HasRunOn f h c.before_last-room.result c.more.new.self = c.in_default.ensures.row.1 f run in (
      assumption c,
      (
        made.whole,
        few-last c.more.new.self.steps c.args.self.now.steps c.before_last-room.result c.args.most
            18446744073709551616 made.steps c.before_last-room.ensures.below c.requires.few,
      ),
    )

pub returns-clause-stretch : goal.returns-clause-stretch
returns-clause-stretch g c =
    let f = meaning c.args.self.now in
    let h = c.args.hart in
    let room = c.before_last-room.result in
    let m = c.more.new.self in
    let k = c.step-last.new.self in
    let events = c.step-last.new.out in
    let last = c.step-last.result in
    let all : c.turns.ran ≡ c.min-first.result = both-ways c.turns.ran c.min-first.result c.turns.auto.ran-end c.turns-test.false in
    let first : HasRunOn f h c.min-first.result c.turns.self = subst (λ (n : ℕ). HasRunOn f h n c.turns.self) all c.turns.invariant.run in
    let run : HasRunOn f h room m = c.in_default.ensures.row.1 f first in
    let kind = run-kind f h room m k events last run c.step-last.ensures.made in
    run-stretch f h room m k events last run c.step-last.ensures.made c.args.most c.before_last-room.ensures.below
    (λ ran. c.before_last-room.ensures.all (ran-first c.args.self.now h room c.requires.whole c.before_last-room.ensures.alive (sym kind
    ∙ ran)))

pub returns-clause-whole : goal.returns-clause-whole
returns-clause-whole g c =
    whole-is c.more.new.self c.step-last.new.self c.args.hart c.step-last.new.out c.step-last.result c.step-last.ensures.made
    c.turns_keep_validity.ensures c.spans_are_coherent.ensures.turn c.more.ensures.whole c.step-last.ensures.fits

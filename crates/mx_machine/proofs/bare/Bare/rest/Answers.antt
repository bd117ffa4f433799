use Rattle.std.proofs.Common.{◌≡◌, ℕ, ◌+◌, ◌-◌, ◌<◌, ◌≤◌, refl, subst, Option, Some}
use Rattle.std.specs.Prelude.{IfSome}
use Rattle.mx_core.specs.declared.outcome.Outcome.{Outcome}
use Rattle.mx_core.specs.Exec.{HasCause}
use Rattle.mx_model.specs.declared.values.TurnKind.TheVariants as T
use Rattle.mx_model.specs.Run.{flat_made}
use Rattle.mx_machine.specs.declared.turns.Going.{Going}
use Rattle.mx_machine.specs.declared.turns.Going.TheVariants as G
use Rattle.mx_machine.specs.Goings.{kind_of}
use Rattle.mx_machine.specs.Held.{meaning}
use Rattle.mx_machine.specs.Made.{IsMade}
use Rattle.mx_machine.specs.Rows.{HasRunOn, IsRow, IsRowTo}
use Rattle.mx_machine.proofs.Bounds.{below-but, below-left, both-ways, counted-on, few-next, few-rest, less-less, one-more, upto-left}
use Rattle.mx_machine.proofs.RowLaws.{ends-runs}
use Rattle.mx_machine.proofs.StepLaws.{whole-is}
use Rattle.mx_machine.proofs.StretchLaws.{run-more, run-stretch, turn-steps}
use Rattle.mx_machine.proofs.WindowLaws.{window-shut}
use Rattle.mx_machine.proofs.bare.Bare.rest.Goals as goal

pub rows-init : goal.rows-init
rows-init g c = record {
  run = λ f r. r;
  whole = c.requires.whole;
  counted = refl;
  empty = c.requires.empty;
  alive = c.requires.alive;
  window = window-shut c.args.self.now c.args.hart;
  upto = c.requires.upto;
}

-- how far the row is after the turns inside the window
pub row_inside-row-requires : goal.row_inside-row-requires
row_inside-row-requires g c =
    let i = c.rows.invariant in (
      assumption c,
      (
        i.whole,
        (
          i.alive c.rows-test.true,
          (
            few-rest c.rows.self.steps c.args.self.now.steps c.args.made c.rows.ran c.args.room 18446744073709551616 i.counted
                c.requires.upto i.upto c.requires.few,
            i.window,
          ),
        ),
      ),
    )

-- an instruction ended it
pub stop-last-requires : goal.stop-last-requires
stop-last-requires g c =
    let m = c.rows.self in
    let now = c.row_inside-row.new.self in
    let h = c.args.hart in
    let o = c.in-Some.outcome in
    let row : IsRow m h c.row_inside-row.result.made c.rows.window now (Some o) =
    subst (λ (e : Option Outcome). IsRow m h c.row_inside-row.result.made c.rows.window now e) c.in-Some.is c.row_inside-row.ensures.row
    in
    let caused : HasCause o = subst (λ (e : Option Outcome). IfSome e HasCause) c.in-Some.is c.row_inside-row.ensures.cause in
    (assumption c, (ends-runs row.0 now h o row.1.1, (caused, c.rows.invariant.empty)))

pub returns-in-Some-clause-row : goal.returns-in-Some-clause-row
returns-in-Some-clause-row g c = λ f most below r.
    let m = c.rows.self in
    let now = c.row_inside-row.new.self in
    let h = c.args.hart in
    let o = c.in-Some.outcome in
    let n = c.row_inside-row.result.made in
    let row : IsRow m h n c.rows.window now (Some o) = subst (λ (e : Option Outcome). IsRow m h n c.rows.window now e) c.in-Some.is
    c.row_inside-row.ensures.row in
    let left : n < c.args.room - c.rows.ran = subst (λ (e : Option Outcome). IfSome e (λ x. n < c.args.room - c.rows.ran)) c.in-Some.is
    c.row_inside-row.ensures.left in
    let upto : c.rows.ran + n < most = less-less (c.rows.ran + n) c.args.room most (below-left n c.rows.ran c.args.room left) below in
    run-stretch f h (c.rows.ran + n) row.0 c.stop-last.new.self c.stop-last.new.out c.stop-last.result
    (row.1.0.run f c.rows.ran (c.rows.invariant.run f r)) (c.stop-last.ensures.made row.0 row.1.1)
    most upto (λ ran. absurd (c.stop-last.ensures.ended row.1.1.stops ran))

pub returns-in-Some-clause-whole : goal.returns-in-Some-clause-whole
returns-in-Some-clause-whole g c =
    let m = c.rows.self in
    let now = c.row_inside-row.new.self in
    let h = c.args.hart in
    let o = c.in-Some.outcome in
    let row : IsRow m h c.row_inside-row.result.made c.rows.window now (Some o) =
    subst (λ (e : Option Outcome). IsRow m h c.row_inside-row.result.made c.rows.window now e) c.in-Some.is c.row_inside-row.ensures.row
    in
    whole-is row.0 c.stop-last.new.self h c.stop-last.new.out c.stop-last.result (c.stop-last.ensures.made row.0 row.1.1)
    c.turns_keep_validity.ensures c.spans_are_coherent.ensures.turn row.1.0.whole c.stop-last.ensures.fits

-- all were made inside the window
pub returns-then-ran-room-clause-row : goal.returns-then-ran-room-clause-row
returns-then-ran-room-clause-row g c =
    let i = c.rows.invariant in
    let m = c.rows.self in
    let now = c.row_inside-row.new.self in
    let h = c.args.hart in
    let n = c.row_inside-row.result.made in
    let row : IsRowTo m h n c.rows.window now = subst (λ (e : Option Outcome). IsRow m h n c.rows.window now e) c.in_default.is
    c.row_inside-row.ensures.row in
    (i.empty, λ f r. subst (λ (k : ℕ). HasRunOn f h k now) c.if-ran-room.true (row.run f c.rows.ran (i.run f r)))

pub returns-then-ran-room-clause-whole : goal.returns-then-ran-room-clause-whole
returns-then-ran-room-clause-whole g c =
    let i = c.rows.invariant in
    let m = c.rows.self in
    let now = c.row_inside-row.new.self in
    let h = c.args.hart in
    let n = c.row_inside-row.result.made in
    let row : IsRowTo m h n c.rows.window now = subst (λ (e : Option Outcome). IsRow m h n c.rows.window now e) c.in_default.is
    c.row_inside-row.ensures.row in
    row.whole

-- a turn outside
pub turn_outside-requires : goal.turn_outside-requires
turn_outside-requires g c =
    let i = c.rows.invariant in
    let m = c.rows.self in
    let now = c.row_inside-row.new.self in
    let h = c.args.hart in
    let n = c.row_inside-row.result.made in
    let row : IsRowTo m h n c.rows.window now = subst (λ (e : Option Outcome). IsRow m h n c.rows.window now e) c.in_default.is
    c.row_inside-row.ensures.row in
    let upto : c.rows.ran + n ≤ c.args.room = upto-left n c.rows.ran c.args.room c.row_inside-row.ensures.upto i.upto in
    let below : c.rows.ran + n < c.args.room = below-but (c.rows.ran + n) c.args.room upto c.if-ran-room.false in
    let counted = counted-on m.steps now.steps c.args.self.now.steps c.args.made c.rows.ran n i.counted row.counted in (
      assumption c,
      (
        row.whole,
        (
          row.alive,
          (
            few-next now.steps c.args.self.now.steps c.args.made (c.rows.ran + n) c.args.room
                18446744073709551616 counted below c.requires.few c.requires.upto,
            i.empty,
          ),
        ),
      ),
    )

pub rows-preserved : goal.rows-preserved
rows-preserved g c =
    let i = c.rows.invariant in
    let m = c.rows.self in
    let now = c.row_inside-row.new.self in
    let h = c.args.hart in
    let n = c.row_inside-row.result.made in
    let row : IsRowTo m h n c.rows.window now = subst (λ (e : Option Outcome). IsRow m h n c.rows.window now e) c.in_default.is
    c.row_inside-row.ensures.row in
    let upto : c.rows.ran + n ≤ c.args.room = upto-left n c.rows.ran c.args.room c.row_inside-row.ensures.upto i.upto in
    let below : c.rows.ran + n < c.args.room = below-but (c.rows.ran + n) c.args.room upto c.if-ran-room.false in
    let counted = counted-on m.steps now.steps c.args.self.now.steps c.args.made c.rows.ran n i.counted row.counted in
    let k = c.turn_outside.new.self in
    let on = c.turn_outside.ensures.on c.in-On.is in
    let made = subst (λ (going : Going). IsMade now k c.turn_outside.new.out (kind_of going) (flat_made (meaning now) h)) c.in-On.is
    c.turn_outside.ensures.made in
    record {
      run = λ f r. run-more f h (c.rows.ran + n) now k c.turn_outside.new.out T.Ran (row.run f c.rows.ran (i.run f r)) made
          c.turns_keep_validity.ensures c.spans_are_coherent.ensures.turn c.turn_outside.ensures.fits refl;
      whole = whole-is now k h c.turn_outside.new.out T.Ran made c.turns_keep_validity.ensures c.spans_are_coherent.ensures.turn row.whole
          c.turn_outside.ensures.fits;
      counted = counted-on now.steps k.steps c.args.self.now.steps c.args.made (c.rows.ran + n) 1 counted
          (turn-steps now k h c.turn_outside.new.out T.Ran made);
      empty = on.1;
      alive = λ more. on.0;
      window = c.turn_outside.ensures.within c.in-On.is;
      upto = one-more (c.rows.ran + n) c.args.room below;
    }

pub returns-in-Ended-clause-row : goal.returns-in-Ended-clause-row
returns-in-Ended-clause-row g c = λ f most beyond r.
    let i = c.rows.invariant in
    let m = c.rows.self in
    let now = c.row_inside-row.new.self in
    let h = c.args.hart in
    let n = c.row_inside-row.result.made in
    let row : IsRowTo m h n c.rows.window now = subst (λ (e : Option Outcome). IsRow m h n c.rows.window now e) c.in_default.is
    c.row_inside-row.ensures.row in
    let upto : c.rows.ran + n ≤ c.args.room = upto-left n c.rows.ran c.args.room c.row_inside-row.ensures.upto i.upto in
    let below : c.rows.ran + n < c.args.room = below-but (c.rows.ran + n) c.args.room upto c.if-ran-room.false in
    let counted = counted-on m.steps now.steps c.args.self.now.steps c.args.made c.rows.ran n i.counted row.counted in
    run-stretch f h (c.rows.ran + n) now c.turn_outside.new.self c.turn_outside.new.out c.in-Ended.last (row.run f c.rows.ran (i.run f r))
    c.in-Ended.ensures.made
    most (less-less (c.rows.ran + n) c.args.room most below beyond) (λ ran. let on : G.Ended c.in-Ended.last ≡ G.On =
    c.in-Ended.ensures.ran ran in absurd (let z : ⊥ = cc in z))

pub returns-in-Ended-clause-whole : goal.returns-in-Ended-clause-whole
returns-in-Ended-clause-whole g c =
    let i = c.rows.invariant in
    let m = c.rows.self in
    let now = c.row_inside-row.new.self in
    let h = c.args.hart in
    let n = c.row_inside-row.result.made in
    let row : IsRowTo m h n c.rows.window now = subst (λ (e : Option Outcome). IsRow m h n c.rows.window now e) c.in_default.is
    c.row_inside-row.ensures.row in
    whole-is now c.turn_outside.new.self h c.turn_outside.new.out c.in-Ended.last c.in-Ended.ensures.made
    c.turns_keep_validity.ensures c.spans_are_coherent.ensures.turn row.whole c.in-Ended.ensures.fits

-- all were made
pub returns-clause-row : goal.returns-clause-row
returns-clause-row g c =
    let i = c.rows.invariant in
    let all : c.rows.ran ≡ c.args.room = both-ways c.rows.ran c.args.room i.upto c.rows-test.false in
    (i.empty, λ f r. subst (λ (k : ℕ). HasRunOn f c.args.hart k c.rows.self) all (i.run f r))

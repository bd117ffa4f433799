use Rattle.std.proofs.Common.{◌≡◌, ℕ, ◌+◌, ◌-◌, ◌≤◌, Option, inl, inr, sym, subst, ◌∙◌, arith}
use Rattle.std.proofs.lemmas.Result.{err_from_is_err_and}
use Rattle.mx_model.specs.Run.{Schedule}
use Rattle.mx_model.specs.State.{Core}
use Rattle.mx_turns.specs.declared.pace.Pace.{Pace}
use Rattle.mx_turns.specs.declared.pace.Pace.TheVariants as pace
use Rattle.mx_turns.specs.Running.{IsLater, IsNamed, IsRow, Leaves}
use Rattle.mx_turns.proofs.RunTexts.{later_later, later_none}
use Rattle.mx_turns.proofs.rows.make_rows.Goals as goal

pub turns-init : goal.turns-init
turns-init g c =
    record {
      within = omega arith;
      later = later_none (g.X.Rows.means c.args.machine.now);
      going = c.requires.going;
      pace = λ p is. is;
      stands = λ p made s before is stands. let e : made + 0 ≡ made = omega arith in rw e stands;
    }

-- fewer turns than those before the next change of a schedule
fewer : (p : Pace) (n m : ℕ) → n ≤ m → Leaves p m → Leaves p n
fewer pace.Alone n m le l = tt
fewer (pace.Quantum whole last hart left) n m le l = omega (arith, le, l)
fewer (pace.Bytes bytes) n m le l = omega (arith, le, l)

-- a row as one of at most so many turns as it has
whole : (p : Schedule) (c : Core) (most h turns : ℕ) → IsRow p c most h turns → IsRow p c turns h turns
whole p c most h turns row = record { some = row.some; few = omega arith; each = row.each }

-- the schedule is at its end
pub returns-in_default-clause-later : goal.returns-in_default-clause-later
returns-in_default-clause-later g c = (c.turns.made, c.turns.invariant.within, c.turns.invariant.later)

pub returns-in_default-clause-runs : goal.returns-in_default-clause-runs
returns-in_default-clause-runs g c =
    λ p made s before is stands.
    let f = g.X.Rows.means c.turns.machine in
    let over = subst (λ (o : Option (ℕ × ℕ)). IsNamed p f.core (c.args.steps - c.turns.made) o) c.in_default.is
    (c.next_hart.ensures.named p f.core (c.turns.invariant.pace p is)) in
    (c.turns.made, c.turns.invariant.within, inr (inr over), c.turns.invariant.stands p made s before is stands)

-- what a row leaves of the schedule
pub make_row-requires-clause-some : goal.make_row-requires-clause-some
make_row-requires-clause-some g c =
    (c.in-Some.ensures.named c.requires.pace.0 (g.X.Rows.means c.turns.machine).core
    (c.turns.invariant.pace c.requires.pace.0 c.requires.pace.1)).some

pub make_row-requires-clause-few : goal.make_row-requires-clause-few
make_row-requires-clause-few g c =
    let named = c.in-Some.ensures.named c.requires.pace.0 (g.X.Rows.means c.turns.machine).core
    (c.turns.invariant.pace c.requires.pace.0 c.requires.pace.1) in
    omega (arith, named.few, c.turns.invariant.later.turns, c.turns.invariant.within, c.requires.few)

pub later-pace-requires-clause-leaves : goal.later-pace-requires-clause-leaves
later-pace-requires-clause-leaves g c =
    let later = c.in_ok-row.ensures.later in
    fewer c.turns.pace c.in_ok-row.row.turns c.in-Some.most (omega (arith, later.1, later.3)) c.in-Some.ensures.leaves

pub overflow_add-made : goal.overflow_add-made
overflow_add-made g c =
    let named = c.in-Some.ensures.named c.requires.pace.0 (g.X.Rows.means c.turns.machine).core
    (c.turns.invariant.pace c.requires.pace.0 c.requires.pace.1) in
    let later = c.in_ok-row.ensures.later in
    omega (arith, later.1, later.3, named.few, c.turns.invariant.within, c.requires.few)

-- a row of which a sink failed
pub returns-in_err-row-clause-later : goal.returns-in_err-row-clause-later
returns-in_err-row-clause-later g c =
    let later = c.make_row.ensures.later in
    let named = c.in-Some.ensures.named c.requires.pace.0 (g.X.Rows.means c.turns.machine).core
    (c.turns.invariant.pace c.requires.pace.0 c.requires.pace.1) in (
      c.turns.made + later.0,
      omega (arith, later.1, named.few, c.turns.invariant.within),
      later_later (g.X.Rows.means c.args.machine.now) (g.X.Rows.means c.turns.machine) (g.X.Rows.means c.make_row.new.machine) c.turns.made
          later.0 c.turns.invariant.later later.2,
    )

pub returns-in_err-row-clause-runs : goal.returns-in_err-row-clause-runs
returns-in_err-row-clause-runs g c =
    let e = err_from_is_err_and c.from_residual.result c.from_residual.ensures.1 in
    let f = g.X.Rows.means c.turns.machine in
    rw (e.1, e.2)
    (λ p made s before is stands.
    let named = c.in-Some.ensures.named p f.core (c.turns.invariant.pace p is) in
    let stops = c.in_err-row.ensures.stands p (made + c.turns.made) s before c.turns.invariant.going
    (whole p f.core _ c.in-Some.hart c.in-Some.most named) (c.turns.invariant.stands p made s before is stands) in
    (stops.0, (let few = stops.1 in omega (arith, few, named.few, c.turns.invariant.within)), stops.2))

-- a row after which all harts are halted
pub returns-then-row-clause-later : goal.returns-then-row-clause-later
returns-then-row-clause-later g c =
    let later = c.make_row.ensures.later in
    let named = c.in-Some.ensures.named c.requires.pace.0 (g.X.Rows.means c.turns.machine).core
    (c.turns.invariant.pace c.requires.pace.0 c.requires.pace.1) in (
      c.turns.made + later.0,
      omega (arith, later.1, named.few, c.turns.invariant.within),
      later_later (g.X.Rows.means c.args.machine.now) (g.X.Rows.means c.turns.machine) (g.X.Rows.means c.make_row.new.machine) c.turns.made
          later.0 c.turns.invariant.later later.2,
    )

pub returns-then-row-clause-runs : goal.returns-then-row-clause-runs
returns-then-row-clause-runs g c =
    λ p made s before is stands.
    let f = g.X.Rows.means c.turns.machine in
    let named = c.in-Some.ensures.named p f.core (c.turns.invariant.pace p is) in
    let later = c.in_ok-row.ensures.later in
    let e : made + (c.turns.made + c.in_ok-row.row.turns) ≡ made + c.turns.made + c.in_ok-row.row.turns = omega arith in (
      c.turns.made + c.in_ok-row.row.turns,
      omega (arith, later.1, later.3, named.few, c.turns.invariant.within),
      inr (inl (sym (c.in_ok-row.ensures.halted c.turns.invariant.going) ∙ c.if-row.true)),
      rw e (c.in_ok-row.ensures.stands p (made + c.turns.made) s before c.turns.invariant.going
          (whole p f.core _ c.in-Some.hart c.in-Some.most named) (c.turns.invariant.stands p made s before is stands)),
    )

pub turns-preserved : goal.turns-preserved
turns-preserved g c =
    let f = g.X.Rows.means c.turns.machine in
    let k = g.X.Rows.means c.make_row.new.machine in
    let row = c.in_ok-row.row in
    let later = c.in_ok-row.ensures.later in
    let kept : IsLater f row.turns k = rw later.3 later.2 in
    let named = c.in-Some.ensures.named c.requires.pace.0 f.core (c.turns.invariant.pace c.requires.pace.0 c.requires.pace.1) in
    record {
      within = omega (arith, later.1, later.3, named.few, c.turns.invariant.within);
      later = later_later (g.X.Rows.means c.args.machine.now) f k c.turns.made row.turns c.turns.invariant.later kept;
      going = sym (c.in_ok-row.ensures.halted c.turns.invariant.going) ∙ c.if-row.false;
      pace = λ p is. c.later-pace.ensures p f.core (c.turns.invariant.pace p is) k.core kept.turns kept.harts;
      stands =
          λ p made s before is stands.
          let named = c.in-Some.ensures.named p f.core (c.turns.invariant.pace p is) in
          let e : made + (c.turns.made + row.turns) ≡ made + c.turns.made + row.turns = omega arith in
          rw e (c.in_ok-row.ensures.stands p (made + c.turns.made) s before c.turns.invariant.going
          (whole p f.core _ c.in-Some.hart c.in-Some.most named) (c.turns.invariant.stands p made s before is stands));
    }

-- all turns were made
pub returns-clause-later : goal.returns-clause-later
returns-clause-later g c = (c.turns.made, c.turns.invariant.within, c.turns.invariant.later)

pub returns-clause-runs : goal.returns-clause-runs
returns-clause-runs g c =
    λ p made s before is stands. (
      c.turns.made,
      c.turns.invariant.within,
      inl (omega (arith, c.turns-test.false, c.turns.invariant.within)),
      c.turns.invariant.stands p
          made s before is stands,
    )

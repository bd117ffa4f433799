use Rattle.std.proofs.Common.{◌≡◌, ℕ, ◌<◌, nat_lt, true, false, Some, refl, ap, sym, le_refl, le_trans}
use Rattle.std.specs.Prelude.{IsNone}
use Rattle.mx_words.specs.declared.perm.Perm.{Perm}
use Rattle.std.proofs.lemmas.Bool.{lt-ltb}
use Rattle.mx_model.specs.Checks.{arg}
use Rattle.mx_model.specs.Serve.{serve_grant}
use Rattle.mx_words.specs.Announced.{names_range}
use Rattle.mx_supervisor.specs.Parts.{parts_of}
use Rattle.mx_supervisor.proofs.Answering.{refuses, refuses-after}
use Rattle.mx_supervisor.proofs.Changes.{changes-done, lawful-of, in-of, range-named, not-above}
use Rattle.mx_supervisor.proofs.supervisor.Supervisor.grant.Goals as goal

upto : (n : ℕ) (x : Perm) → (3 < n → IsNone (Some x)) → nat_lt 3 n ≡ false
upto n x out = not-above 3 n (λ h. let e = out h in let q : ⊥ = cc in q)

pub returns-in_default : goal.returns-in_default
returns-in_default g c = refuses serve_grant c.args.call.now _ 1 _ c.requires.sound c.refused.ensures
    (λ rest. rw (c.in_default.ensures.there rest))

pub returns-then-not-is_module : goal.returns-then-not-is_module
returns-then-not-is_module g c = refuses serve_grant c.args.call.now _ 3 _ c.requires.sound c.refused-then-not-is_module.ensures
    (λ rest. rw (c.in-Some.ensures.there rest, c.is_module.ensures.module rest, c.if-not-is_module.true))

pub returns-in_default-from_number : goal.returns-in_default-from_number
returns-in_default-from_number g c = refuses serve_grant c.args.call.now _ 4 _ c.requires.sound c.refused-in_default-from_number.ensures
    (λ rest. let above : nat_lt 3 (arg c.args.call.now 3) ≡ true = lt-ltb _ _ (c.in_default-from_number.ensures.above.0 refl) in
    rw (c.in-Some.ensures.there rest, c.is_module.ensures.module rest, c.if-not-is_module.false, above))

pub returns-then-not-owns : goal.returns-then-not-owns
returns-then-not-owns g c = refuses serve_grant c.args.call.now _ 2 _ c.requires.sound c.refused-then-not-owns.ensures
    (λ rest. let small : nat_lt 3 (arg c.args.call.now 3) ≡ false =
    upto _ c.in-Some-from_number.perm c.in-Some-from_number.ensures.above.1 in
    rw (
      c.in-Some.ensures.there rest,
      c.is_module.ensures.module rest,
      c.if-not-is_module.false,
      small,
      c.in-Some.ensures.range
          rest,
      c.owns.ensures rest,
      c.if-not-owns.true,
    ))

pub try_change-requires : goal.try_change-requires
try_change-requires g c =
    let gives = c.to_one-change.ensures _ (c.is_module.ensures.domain.0 c.if-not-is_module.false).last in
    let named : names_range c.args.call.now.number ≡ true = ap names_range c.requires.number in
    let range = range-named (parts_of g.T.PermTables c.args.self.now) c.args.call.now (c.in-Some.first, c.in-Some.count) named
    c.in-Some.ensures.range in (
      assumption c,
      (
        c.requires.announced,
        (
          lawful-of _ _ _ _ _ _ gives c.in-Some.ensures.inside.0 c.in-Some.ensures.inside.1,
          rw range (in-of _ _ _ _ _ (c.in-Some.first, c.in-Some.count) gives (le_refl _) (le_refl _)),
        ),
      ),
    )

pub returns-then-not-try_change : goal.returns-then-not-try_change
returns-then-not-try_change g c =
    let gives = c.to_one-change.ensures _ (c.is_module.ensures.domain.0 c.if-not-is_module.false).last in
    refuses-after serve_grant c.args.call.now _ _ 5 _ c.requires.sound (c.try_change.ensures.kept c.if-not-try_change.true)
    c.refused-then-not-try_change.ensures
    (λ rest. let small : nat_lt 3 (arg c.args.call.now 3) ≡ false =
    upto _ c.in-Some-from_number.perm c.in-Some-from_number.ensures.above.1 in
    rw (
      c.in-Some.ensures.there rest,
      c.is_module.ensures.module rest,
      c.if-not-is_module.false,
      small,
      c.in-Some.ensures.range rest,
      c.owns.ensures rest,
      c.if-not-owns.false,
      sym c.in-Some-from_number.ensures.value,
      c.try_change.ensures.fits _ _ _ gives,
      c.if-not-try_change.true,
    ))

pub returns : goal.returns
returns g c =
    let gives = c.to_one-change.ensures _ (c.is_module.ensures.domain.0 c.if-not-is_module.false).last in
    changes-done serve_grant c.args.call.now _ _ _ _ _ _ c.requires.sound (c.try_change.ensures.done _ _ _ gives c.if-not-try_change.false)
    c.done.ensures
    (λ rest. let small : nat_lt 3 (arg c.args.call.now 3) ≡ false =
    upto _ c.in-Some-from_number.perm c.in-Some-from_number.ensures.above.1 in
    rw (
      c.in-Some.ensures.there rest,
      c.is_module.ensures.module rest,
      c.if-not-is_module.false,
      small,
      c.in-Some.ensures.range rest,
      c.owns.ensures rest,
      c.if-not-owns.false,
      sym c.in-Some-from_number.ensures.value,
      c.try_change.ensures.fits _ _ _ gives,
      c.if-not-try_change.false,
    ))

pub is_module-requires : goal.is_module-requires
is_module-requires g c = (assumption c, c.requires.sound)

pub owns-requires : goal.owns-requires
owns-requires g c = (assumption c, (c.requires.sound, c.in-Some.ensures.inside))

pub to_one-change-requires-clause-some : goal.to_one-change-requires-clause-some
to_one-change-requires-clause-some g c = (c.is_module.ensures.domain.0 c.if-not-is_module.false).first

pub to_one-change-requires-clause-few : goal.to_one-change-requires-clause-few
to_one-change-requires-clause-few g c = le_trans (c.is_module.ensures.domain.0 c.if-not-is_module.false).last c.requires.sound.few_maps

pub arg_range-requires : goal.arg_range-requires
arg_range-requires g c = search

use Rattle.std.proofs.Common.{◌≡◌, true, ap, le_refl}
use Rattle.mx_model.specs.Serve.{serve_revoke_all}
use Rattle.mx_words.specs.Announced.{names_range}
use Rattle.mx_supervisor.specs.Parts.{parts_of}
use Rattle.mx_supervisor.proofs.Answering.{refuses, refuses-after}
use Rattle.mx_supervisor.proofs.Changes.{changes-done, lawful-of, in-of, range-named, gives-in}
use Rattle.mx_supervisor.proofs.supervisor.Supervisor.revoke_all.Goals as goal

pub returns-in_default : goal.returns-in_default
returns-in_default g c = refuses serve_revoke_all c.args.call.now _ 1 _ c.requires.sound c.refused.ensures
    (λ rest. rw (c.in_default.ensures.there rest))

pub returns-then-not-owns : goal.returns-then-not-owns
returns-then-not-owns g c = refuses serve_revoke_all c.args.call.now _ 2 _ c.requires.sound c.refused-then-not-owns.ensures
    (λ rest. rw (c.in-Some.ensures.there rest, c.in-Some.ensures.range rest, c.owns.ensures rest, c.if-not-owns.true))

pub try_change-requires : goal.try_change-requires
try_change-requires g c =
    let p = parts_of g.T.PermTables c.args.self.now in
    let gives = gives-in _ _ _ _ _ _ c.modules.ensures c.none_but-change.ensures in
    let named : names_range c.args.call.now.number ≡ true = ap names_range c.requires.number in
    let range = range-named p c.args.call.now (c.in-Some.first, c.in-Some.count) named c.in-Some.ensures.range in (
      assumption c,
      (
        c.requires.announced,
        (
          lawful-of _ _ _ _ _ _ gives c.in-Some.ensures.inside.0 c.in-Some.ensures.inside.1,
          rw range (in-of _ _ _ _ _ (c.in-Some.first, c.in-Some.count) gives (le_refl _) (le_refl _)),
        ),
      ),
    )

pub returns-then-not-try_change : goal.returns-then-not-try_change
returns-then-not-try_change g c =
    refuses-after serve_revoke_all c.args.call.now _ _ 5 _ c.requires.sound (c.try_change.ensures.kept c.if-not-try_change.true)
    c.refused-then-not-try_change.ensures
    (λ rest. rw (
      c.in-Some.ensures.there rest,
      c.in-Some.ensures.range rest,
      c.owns.ensures rest,
      c.if-not-owns.false,
      c.try_change.ensures.fits _ _ _ (gives-in _ _ _ _ _ _ c.modules.ensures c.none_but-change.ensures),
      c.if-not-try_change.true,
    ))

pub returns : goal.returns
returns g c =
    changes-done serve_revoke_all c.args.call.now _ _ _ _ _ _ c.requires.sound
    (c.try_change.ensures.done _ _ _ (gives-in _ _ _ _ _ _ c.modules.ensures c.none_but-change.ensures) c.if-not-try_change.false)
    c.done.ensures
    (λ rest. rw (
      c.in-Some.ensures.there rest,
      c.in-Some.ensures.range rest,
      c.owns.ensures rest,
      c.if-not-owns.false,
      c.try_change.ensures.fits _ _ _ (gives-in _ _ _ _ _ _ c.modules.ensures c.none_but-change.ensures),
      c.if-not-try_change.false,
    ))

pub arg_range-requires : goal.arg_range-requires
arg_range-requires g c = search

pub owns-requires : goal.owns-requires
owns-requires g c = (assumption c, (c.requires.sound, c.in-Some.ensures.inside))

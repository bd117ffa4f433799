use Rattle.mx_model.specs.Serve.{serve_gate}
use Rattle.mx_supervisor.proofs.Answering.{refuses, refuses-after, gates-done}
use Rattle.mx_supervisor.proofs.supervisor.Supervisor.add_gate.Goals as goal

pub returns-in_default : goal.returns-in_default
returns-in_default g c = refuses serve_gate c.args.call.now _ 1 _ c.requires.sound c.refused.ensures (λ rest.
    rw (c.in_default.ensures.there rest))

pub returns-then-not-is_other : goal.returns-then-not-is_other
returns-then-not-is_other g c = refuses serve_gate c.args.call.now _ 3 _ c.requires.sound c.refused-then-not-is_other.ensures
    (λ rest. rw (c.in-Some.ensures.there rest, c.is_other.ensures rest, c.if-not-is_other.true))

pub returns-then-is_foreign : goal.returns-then-is_foreign
returns-then-is_foreign g c = refuses serve_gate c.args.call.now _ 2 _ c.requires.sound c.refused-then-is_foreign.ensures
    (λ rest. rw (
      c.in-Some.ensures.there rest,
      c.is_other.ensures
          rest,
      c.if-not-is_other.false,
      c.in-Some.ensures.word,
      c.is_foreign.ensures,
      c.if-is_foreign.true,
    ))

pub returns-then-not-try_gate : goal.returns-then-not-try_gate
returns-then-not-try_gate g c = refuses-after serve_gate c.args.call.now _ _ 9 _ c.requires.sound
    (c.try_gate.ensures.kept c.if-not-try_gate.true) c.refused-then-not-try_gate.ensures
    (λ rest. rw (
      c.in-Some.ensures.there rest,
      c.is_other.ensures rest,
      c.if-not-is_other.false,
      c.in-Some.ensures.word,
      c.is_foreign.ensures,
      c.if-is_foreign.false,
      c.try_gate.ensures.fits,
      c.if-not-try_gate.true,
    ))

pub returns : goal.returns
returns g c = gates-done serve_gate c.args.call.now _ _ _ _ c.requires.sound (c.try_gate.ensures.done c.if-not-try_gate.false)
    c.done.ensures
    (λ rest. rw (
      c.in-Some.ensures.there rest,
      c.is_other.ensures rest,
      c.if-not-is_other.false,
      c.in-Some.ensures.word,
      c.is_foreign.ensures,
      c.if-is_foreign.false,
      c.try_gate.ensures.fits,
      c.if-not-try_gate.false,
    ))

pub is_other-requires : goal.is_other-requires
is_other-requires g c = (assumption c, c.requires.sound)

pub is_foreign-requires : goal.is_foreign-requires
is_foreign-requires g c = (assumption c, (c.requires.sound, c.in-Some.ensures.inside.0))

pub arg_word-requires : goal.arg_word-requires
arg_word-requires g c = search

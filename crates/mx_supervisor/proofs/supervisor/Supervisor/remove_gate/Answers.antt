use Rattle.mx_model.specs.Serve.{serve_ungate}
use Rattle.mx_supervisor.proofs.Answering.{refuses, refuses-after, gates-done}
use Rattle.mx_supervisor.proofs.supervisor.Supervisor.remove_gate.Goals as goal

pub returns-in_default : goal.returns-in_default
returns-in_default g c = refuses serve_ungate c.args.call.now _ 1 _ c.requires.sound c.refused.ensures
    (λ rest. rw (c.in_default.ensures.there rest))

pub returns-then-not-is_module : goal.returns-then-not-is_module
returns-then-not-is_module g c = refuses serve_ungate c.args.call.now _ 3 _ c.requires.sound c.refused-then-not-is_module.ensures
    (λ rest. rw (c.in-Some.ensures.there rest, c.is_module.ensures.module rest, c.if-not-is_module.true))

pub returns-then-is_foreign : goal.returns-then-is_foreign
returns-then-is_foreign g c = refuses serve_ungate c.args.call.now _ 2 _ c.requires.sound c.refused-then-is_foreign.ensures
    (λ rest. rw (
      c.in-Some.ensures.there rest,
      c.is_module.ensures.module
          rest,
      c.if-not-is_module.false,
      c.in-Some.ensures.word,
      c.is_foreign.ensures,
      c.if-is_foreign.true,
    ))

pub returns-then-not-take_gate : goal.returns-then-not-take_gate
returns-then-not-take_gate g c = refuses-after serve_ungate c.args.call.now _ _ 15 _ c.requires.sound
    (c.take_gate.ensures.kept c.if-not-take_gate.true) c.refused-then-not-take_gate.ensures
    (λ rest. rw (
      c.in-Some.ensures.there rest,
      c.is_module.ensures.module
          rest,
      c.if-not-is_module.false,
      c.in-Some.ensures.word,
      c.is_foreign.ensures,
      c.if-is_foreign.false,
      c.take_gate.ensures.stood,
      c.if-not-take_gate.true,
    ))

pub returns : goal.returns
returns g c = gates-done serve_ungate c.args.call.now _ _ _ _ c.requires.sound c.take_gate.ensures.done c.done.ensures
    (λ rest. rw (
      c.in-Some.ensures.there rest,
      c.is_module.ensures.module
          rest,
      c.if-not-is_module.false,
      c.in-Some.ensures.word,
      c.is_foreign.ensures,
      c.if-is_foreign.false,
      c.take_gate.ensures.stood,
      c.if-not-take_gate.false,
    ))

pub is_module-requires : goal.is_module-requires
is_module-requires g c = (assumption c, c.requires.sound)

pub is_foreign-requires : goal.is_foreign-requires
is_foreign-requires g c = (assumption c, (c.requires.sound, c.in-Some.ensures.inside.0))

pub arg_word-requires : goal.arg_word-requires
arg_word-requires g c = search

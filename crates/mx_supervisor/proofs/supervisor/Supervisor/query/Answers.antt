use Rattle.std.proofs.Common.{rules, ◌≡◌, List, ap, sym, ◌∙◌}
use Rattle.mx_words.specs.declared.perm.Perm.{Perm}
use Rattle.mx_words.specs.Rights.{number, perm_at}
use Rattle.mx_table.specs.Tables.{IsDomain}
use Rattle.mx_model.specs.Checks.{arg}
use Rattle.mx_model.specs.Reads.{map_in}
use Rattle.mx_model.specs.Serve.{answers}
use Rattle.mx_supervisor.specs.Parts.{parts_of, core_of}
use Rattle.mx_supervisor.proofs.Maps.{map-in}
use Rattle.mx_model.specs.Serve.{serve_query}
use Rattle.mx_supervisor.proofs.Answering.{told, refuses}
use Rattle.mx_supervisor.proofs.supervisor.Supervisor.query.Goals as goal

pub returns-in_default : goal.returns-in_default
returns-in_default g c = refuses serve_query c.args.call.now _ 1 _ c.requires.sound c.refused.ensures
    (λ rest. rw (c.in_default.ensures.there rest))

pub returns-then-not-is_module : goal.returns-then-not-is_module
returns-then-not-is_module g c = refuses serve_query c.args.call.now _ 3 _ c.requires.sound c.refused-then-not-is_module.ensures
    (λ rest. rw (c.in-Some.ensures.there rest, c.is_module.ensures.module rest, c.if-not-is_module.true))

pub returns-then-is_secret : goal.returns-then-is_secret
returns-then-is_secret g c = refuses serve_query c.args.call.now _ 2 _ c.requires.sound c.refused-then-is_secret.ensures
    (λ rest. rw (
      c.in-Some.ensures.there rest,
      c.is_module.ensures.module
          rest,
      c.if-not-is_module.false,
      c.in-Some.ensures.word,
      c.is_secret.ensures,
      c.if-is_secret.true,
    ))

pub returns : goal.returns
returns g c = told serve_query c.args.call.now _ _ _ c.requires.sound c.done.ensures
    (λ rest.
    let s = c.args.self.now in
    let d = arg c.args.call.now 1 in
    let tables = s.checker.tables in
    let maps = g.T.PermTables.maps tables in
    let size = g.T.PermTables.size tables in
    let there : IsDomain maps d = c.is_module.ensures.domain.0 c.if-not-is_module.false in
    let same : number (perm_at (map_in size maps d) c.in-Some.word) ≡ c.number.result =
    ap (λ (m : List Perm). number (perm_at m c.in-Some.word)) (map-in size maps d there)
    ∙ sym (c.number.ensures ∙ ap number c.perm.ensures) in
    rw (
      c.in-Some.ensures.there rest,
      c.is_module.ensures.module
          rest,
      c.if-not-is_module.false,
      c.in-Some.ensures.word,
      c.is_secret.ensures,
      c.if-is_secret.false,
    )
    (ap (answers (core_of rest (parts_of g.T.PermTables s))) same))

pub is_module-requires : goal.is_module-requires
is_module-requires g c = (assumption c, c.requires.sound)

pub is_secret-requires : goal.is_secret-requires
is_secret-requires g c = (assumption c, (c.requires.sound, c.in-Some.ensures.inside.0))

pub arg_word-requires : goal.arg_word-requires
arg_word-requires g c = search

pub perm-requires : goal.perm-requires
perm-requires g c =
    (search rules, (c.is_module.ensures.domain.0 c.if-not-is_module.false, c.in-Some.ensures.inside.0))

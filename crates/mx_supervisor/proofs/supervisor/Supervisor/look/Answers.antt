use Rattle.std.proofs.Common.{◌∙◌, sym}
use Rattle.mx_supervisor.specs.Looks.{HasLooked}
use Rattle.mx_supervisor.specs.Parts.{parts_of}
use Rattle.mx_supervisor.proofs.Looking.{has-looked, allowed-word}
use Rattle.mx_supervisor.proofs.supervisor.Supervisor.look.Goals as goal

pub returns-clause-looked : goal.returns-clause-looked
returns-clause-looked g c =
    let p = parts_of g.T.PermTables c.args.self.now in
    let l : HasLooked c.args.call.now c.args.word p (record p { harts = c.may.new.self.harts }) =
    has-looked c.args.call.now c.args.word p c.may.new.self.harts c.requires.sound c.requires.domain c.requires.inside c.requires.may
    c.may.ensures.harts in
    let same = c.may.ensures.same_tables in
    rw (same.same_maps, same.same_size, same.same_limit) l

pub returns-clause-answer : goal.returns-clause-answer
returns-clause-answer g c =
    let p = parts_of g.T.PermTables c.args.self.now in
    sym (c.may.ensures.answer ∙ allowed-word p c.args.call.now.domain c.args.word c.args.access c.requires.sound c.requires.domain
    c.requires.inside)

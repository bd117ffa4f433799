use Rattle.std.proofs.Common.{◌≡◌, None, length, ap, arith}
use Rattle.mx_check.specs.Calls.{Checks}
use Rattle.mx_supervisor.specs.Parts.{parts_of}
use Rattle.mx_supervisor.specs.Looks.{KeepsHarts}
use Rattle.mx_supervisor.proofs.Answering.{with-harts}
use Rattle.mx_supervisor.proofs.Joined.{joined-sound}
use Rattle.mx_call_tests.proofs.RestLaws.{may-announce, announces, has-announced, may-ready, rest-again}
use Rattle.mx_call_tests.proofs.calls.play_announced.Goals as goal

pub announced-first-requires : goal.announced-first-requires
announced-first-requires g c = (assumption c, (joined-sound _ c.requires.rest.sound, (c.requires.announced, c.requires.rest.domain)))

pub announce-requires : goal.announce-requires
announce-requires g c =
    let p = parts_of g.T.PermTables c.args.machine.now in
    (omega arith, (may-announce c.args.call.now.hart c.args.call.now.domain p c.requires.rest, c.announced-first.ensures.within))

pub serve-requires : goal.serve-requires
serve-requires g c =
    let p = parts_of g.T.PermTables c.args.machine.now in
    let call = c.args.call.now in
    let r = c.announced-first.result in
    rw c.announce.ensures (
      assumption c,
      (
        joined-sound _ (with-harts p (announces call.hart r p.harts) c.requires.rest.sound),
        (
          c.requires.rest.domain,
          (
            may-ready _ call c.requires.announced (has-announced p call r c.requires.rest c.announced-first.ensures.range),
            c.requires.empty,
          ),
        ),
      ),
    )

pub returns-clause-rest : goal.returns-clause-rest
returns-clause-rest g c =
    let p = parts_of g.T.PermTables c.args.machine.now in
    let call = c.args.call.now in
    let r = c.announced-first.result in
    let harts : c.announce.new.self.harts ≡ announces call.hart r p.harts = ap (λ (x : Checks _). x.harts) c.announce.ensures in
    let modules : length (g.T.PermTables.maps c.announce.new.self.tables) ≡ length p.maps =
    ap (λ (x : Checks _). length (g.T.PermTables.maps x.tables)) c.announce.ensures in
    let keeps : KeepsHarts call None _ _ = rw c.requires.announced at c.serve.ensures.harts in
    rest-again call p _ _ r c.requires.rest harts modules keeps c.serve.ensures.sizes c.serve.ensures.sound

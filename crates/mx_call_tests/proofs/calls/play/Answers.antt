use Rattle.std.proofs.Common.{refl, sym, ◌∙◌}
use Rattle.mx_supervisor.specs.Parts.{parts_of}
use Rattle.mx_supervisor.proofs.Joined.{joined-sound}
use Rattle.mx_call_tests.proofs.RestLaws.{may-other}
use Rattle.mx_call_tests.proofs.calls.play.Goals as goal

pub serve-requires : goal.serve-requires
serve-requires g c =
    let p = parts_of g.T.PermTables c.args.machine.now in
    let call = c.args.call.now in
    rw c.clear.ensures (
      assumption c,
      (
        joined-sound p c.requires.sound,
        (
          c.requires.domain,
          (may-other p call (sym c.is_announced.ensures ∙ c.if-is_announced.false) c.requires.may, refl),
        ),
      ),
    )

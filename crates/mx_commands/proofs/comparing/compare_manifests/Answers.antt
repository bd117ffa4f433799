use Rattle.mx_commands.specs.Asked.{pair_asked}
use Rattle.mx_commands.specs.Commands.{after_first}
use Rattle.mx_commands.proofs.comparing.compare_manifests.Goals as goal

pub compare_with-requires : goal.compare_with-requires
compare_with-requires g c = let goes = c.in-Ok.ensures.1 in record { size = rw goes.means goes.size }

pub returns-in-Ok : goal.returns-in-Ok
returns-in-Ok g c =
    let takes = c.in-Ok.ensures in
    let goes = takes.1 in
    λ console dump. goes.comes (after_first (pair_asked c.args.pair.now)) _ _ _ _
    (rw takes.0 at (c.compare_with.ensures goes.state goes.means console dump))

pub returns-in-Err : goal.returns-in-Err
returns-in-Err g c = λ console dump. c.in-Err.ensures (after_first (pair_asked c.args.pair.now)) console dump

use Rattle.mx_commands.specs.Boots.{image_named, image_wanted}
use Rattle.mx_commands.proofs.FileSteps.{takes_err, takes_some}
use Rattle.mx_commands.proofs.booting.take_image.Goals as goal

pub returns-in-Ok : goal.returns-in-Ok
returns-in-Ok g c = λ taken.
    let takes = rw (c.image_file.ensures, c.as_str.ensures) at c.in-Ok.ensures.takes in
    rw c.from_vec.ensures
    (takes_some image_named (image_wanted c.args.side) g.S.Store.gives c.args.number taken c.args.home.now c.args.store.now
    c.take_file.new.store (g.R.Sink.state c.args.report.now)
    (g.R.Sink.state c.take_file.new.report) _ c.in-Some.is c.in-Ok.bytes takes)

pub returns-in-Err : goal.returns-in-Err
returns-in-Err g c = λ taken.
    let takes = rw (c.image_file.ensures, c.as_str.ensures) at c.in-Err.ensures.takes in
    takes_err image_named (image_wanted c.args.side) g.S.Store.gives c.args.number taken c.args.home.now c.args.store.now
    c.take_file.new.store (g.R.Sink.state c.args.report.now)
    (g.R.Sink.state c.take_file.new.report) _ c.in-Some.is c.in-Err.status takes

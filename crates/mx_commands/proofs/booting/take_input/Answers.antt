use Rattle.std.proofs.Common.{◌∙◌, ap}
use Rattle.mx_commands.specs.Boots.{input_file, input_named, input_wanted}
use Rattle.mx_commands.proofs.FileSteps.{takes_err, takes_some}
use Rattle.mx_commands.proofs.booting.take_input.Goals as goal

pub returns-in-Ok-clause-takes : goal.returns-in-Ok-clause-takes
returns-in-Ok-clause-takes g c = λ size taken is.
    let input = c.in-Some.input in
    let file = c.input_file.ensures.wanted ∙ ap (λ n. input_file c.args.side c.args.number n input) is in
    let takes = rw file at c.in-Ok.ensures.takes in
    rw c.from_vec.ensures
    (takes_some input_named (input_wanted c.args.side size) g.S.Store.gives c.args.number taken c.args.home.now c.args.store.now
    c.take_file.new.store (g.R.Sink.state c.args.report.now)
    (g.R.Sink.state c.take_file.new.report) input c.in-Some.is c.in-Ok.bytes takes)

pub returns-in-Err-clause-takes : goal.returns-in-Err-clause-takes
returns-in-Err-clause-takes g c = λ size taken is.
    let input = c.in-Some.input in
    let file = c.input_file.ensures.wanted ∙ ap (λ n. input_file c.args.side c.args.number n input) is in
    let takes = rw file at c.in-Err.ensures.takes in
    takes_err input_named (input_wanted c.args.side size) g.S.Store.gives c.args.number taken c.args.home.now c.args.store.now
    c.take_file.new.store (g.R.Sink.state c.args.report.now)
    (g.R.Sink.state c.take_file.new.report) input c.in-Some.is c.in-Err.status takes

use Rattle.std.proofs.Common.{sym, ◌∙◌}
use Rattle.mx_machine.specs.Starts.{started_from}
use Rattle.mx_machine.proofs.StartLaws.{four-are, length-started}
use Rattle.mx_machine.proofs.harts.Harts.start.Goals as goal

pub returns : goal.returns
returns c =
    four-are (started_from c.args.stacks.now 0 c.args.starts.now) c.len.result c.start_of.result c.start_of-2.result c.start_of-3.result
    c.start_of-4.result
    (c.len.ensures.number ∙ sym (length-started c.args.stacks.now 0 c.args.starts.now)) c.len.ensures.few c.start_of.ensures
    c.start_of-2.ensures c.start_of-3.ensures
    c.start_of-4.ensures

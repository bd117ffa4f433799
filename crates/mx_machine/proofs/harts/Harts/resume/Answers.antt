use Rattle.std.proofs.Common.{sym, ◌∙◌}
use Rattle.std.proofs.Common.{map as list_map}
use Rattle.std.proofs.lemmas.List.{length-map}
use Rattle.mx_machine.specs.Starts.{resumed_hart}
use Rattle.mx_machine.proofs.StartLaws.{four-are}
use Rattle.mx_machine.proofs.harts.Harts.resume.Goals as goal

pub returns : goal.returns
returns c =
    four-are (list_map resumed_hart c.args.states.now) c.len.result c.hart.result c.hart-2.result c.hart-3.result c.hart-4.result
    (c.len.ensures.number ∙ sym (length-map c.args.states.now resumed_hart)) c.len.ensures.few c.hart.ensures c.hart-2.ensures
    c.hart-3.ensures c.hart-4.ensures

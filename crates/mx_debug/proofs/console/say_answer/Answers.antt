use Rattle.std.proofs.Common.{List, ℕ, subst, ap, ◌∙◌}
use Rattle.mx_packets.specs.Lines.{SpeaksOrFails}
use Rattle.mx_packets.specs.Streams.{sent}
use Rattle.mx_packets.proofs.LineLaws.{utters}
use Rattle.mx_debug.proofs.console.say_answer.Goals as goal

pub returns : goal.returns
returns g c =
    subst (λ (t : List ℕ). SpeaksOrFails g.L.Line.says g.L.Line.room c.args.line.now t c.say.new.self c.say.result)
    (c.as_slice.ensures.value ∙ c.framed.ensures ∙ ap sent c.text.ensures.text)
    (utters g.L.Line.says g.L.Line.room c.args.line.now c.as_slice.result.now c.say.new.self c.say.result c.say.ensures)

use Rattle.std.proofs.Common.{List, ℕ, subst, ◌∙◌}
use Rattle.mx_packets.specs.Lines.{SpeaksOrFails}
use Rattle.mx_packets.proofs.LineLaws.{utters}
use Rattle.mx_debug.proofs.console.say_text.Goals as goal

pub returns : goal.returns
returns g c =
    subst (λ (t : List ℕ). SpeaksOrFails g.L.Line.says g.L.Line.room c.args.line.now t c.say.new.self c.say.result)
    (c.as_slice.ensures.value ∙ c.framed.ensures)
    (utters g.L.Line.says g.L.Line.room c.args.line.now c.as_slice.result.now c.say.new.self c.say.result c.say.ensures)

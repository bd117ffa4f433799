use Rattle.std.proofs.Common.{[], ◌∷◌, ◌++◌, List, ℕ, refl, subst, ap, ◌∙◌}
use Rattle.mx_packets.specs.Frames.{cut}
use Rattle.mx_packets.specs.Lines.{SpeaksOrFails}
use Rattle.mx_packets.specs.Streams.{sent}
use Rattle.mx_packets.proofs.CutLaws.{cut_more}
use Rattle.mx_packets.proofs.LineLaws.{utters}
use Rattle.mx_debug_texts.specs.Told.{pairs, shown_text}
use Rattle.mx_debug_texts.proofs.told.say_shown.Goals as goal

pub returns : goal.returns
returns g c =
    let bytes = c.args.bytes.now in
    let text = cut_more [] (79 ∷ []) (pairs bytes) (shown_text bytes) c.push.new.self c.put_pairs.new.answer (c.push.ensures
    ∙ ap (λ (x : List ℕ). cut (x ++ 79 ∷ [])) c.new-answer.ensures) c.put_pairs.ensures refl in
    subst (λ (t : List ℕ). SpeaksOrFails g.L.Line.says g.L.Line.room c.args.line.now t c.say.new.self c.say.result)
    (c.as_slice.ensures.value ∙ c.framed.ensures ∙ ap sent (c.text.ensures.text ∙ text))
    (utters g.L.Line.says g.L.Line.room c.args.line.now c.as_slice.result.now c.say.new.self c.say.result c.say.ensures)

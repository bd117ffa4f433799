use Rattle.std.proofs.Common.{List, ℕ, [], ◌∷◌, ◌++◌, drop, take, subst, ap, refl, ◌∙◌}
use Rattle.mx_packets.specs.Frames.{cut}
use Rattle.mx_packets.specs.Lines.{SpeaksOrFails}
use Rattle.mx_packets.specs.Streams.{sent}
use Rattle.mx_packets.proofs.CutLaws.{cut_more}
use Rattle.mx_debug.specs.Texts.{most_shown, pairs, shown_text}
use Rattle.mx_debug.proofs.console.show_chunk.Goals as goal

pub returns : goal.returns
returns g c =
    let bytes = take most_shown (drop c.args.at c.args.events.now.bytes) in
    subst (λ (t : List ℕ). SpeaksOrFails g.L.Line.says g.L.Line.room c.args.line.now t c.say_answer.new.line c.say_answer.result)
    (ap sent (cut_more [] (79 ∷ []) (pairs bytes) (shown_text bytes) c.push.new.self c.put_bytes.new.answer (c.push.ensures
    ∙ ap (λ (x : List ℕ). cut (x ++ 79 ∷ [])) c.new-answer.ensures) c.put_bytes.ensures refl))
    c.say_answer.ensures

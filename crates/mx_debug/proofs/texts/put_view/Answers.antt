use Rattle.std.proofs.Common.{◌∷◌, [], ◌++◌, ◌^◌, ◌/◌, ◌%◌, flat_map}
use Rattle.std.proofs.lemmas.Grind.{flat_map-append}
use Rattle.mx_debug.specs.Texts.{word_text}
use Rattle.mx_packets.proofs.CutLaws.{cut_more}
use Rattle.mx_debug.proofs.texts.put_view.Goals as goal

pub returns : goal.returns
returns c = λ hart v.
    let view = c.args.view.now in
    let made = c.args.made in
    let rest = view.pc ∷ view.domain ∷ view.frames ∷ made % 2 ^ 32 ∷ made / 2 ^ 32 ∷ [] in
    rw (← v.regs, ← v.pc, ← v.domain, ← v.frames)
    (cut_more c.args.answer.now (flat_map word_text view.regs) (flat_map word_text rest) (flat_map word_text (view.regs ++ rest))
    c.put_words.new.answer c.put_words-2.new.answer c.put_words.ensures c.put_words-2.ensures
    (flat_map-append word_text view.regs rest))

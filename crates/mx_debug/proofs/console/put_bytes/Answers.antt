use Rattle.std.proofs.Common.{◌≡◌, ◌<◌, ◌++◌, ℕ, List, drop, length, min, take, arith, ap, sym, ◌∙◌, length-drop}
use Rattle.std.proofs.lemmas.List.{get_or-drop, take_min}
use Rattle.mx_packets.specs.Frames.{cut, pair}
use Rattle.mx_packets.proofs.CutLaws.{cut_item, cut_none}
use Rattle.mx_debug.specs.Texts.{most_shown, pairs}
use Rattle.mx_debug.proofs.console.put_bytes.Goals as goal

pub loop-i-init : goal.loop-i-init
loop-i-init c = cut_none c.args.answer.now c.text-held.ensures.few

pub loop-i-preserved : goal.loop-i-preserved
loop-i-preserved c =
    let bytes = c.args.events.now.bytes in
    let rest = drop c.args.at bytes in
    let few : c.loop-i.i < length rest = (let e = length-drop c.args.at bytes in let n = c.len.ensures.count in let m =
    c.min-i-end.ensures in omega (arith, e, n, m, c.loop-i-test.true)) in
    cut_item pair c.args.answer.now c.loop-i.answer c.put_pair.new.self rest c.loop-i.i few c.loop-i.invariant
    (c.put_pair.ensures ∙ ap (λ b. cut (c.loop-i.answer ++ pair b)) (c.byte.ensures ∙ sym (get_or-drop c.args.at bytes c.loop-i.i 0)))

pub returns : goal.returns
returns c =
    let bytes = c.args.events.now.bytes in
    let rest = drop c.args.at bytes in
    let all : c.loop-i.i ≡ min most_shown (length rest) = (let e = length-drop c.args.at bytes in let n = c.len.ensures.count in let m =
    c.min-i-end.ensures in let i = c.loop-i.auto.i-end in omega (arith, e, n, m, i, c.loop-i-test.false)) in
    c.loop-i.invariant ∙ ap (λ j. cut (c.args.answer.now ++ pairs (take j rest))) all
    ∙ ap (λ (x : List ℕ). cut (c.args.answer.now ++ pairs x)) (take_min most_shown rest)

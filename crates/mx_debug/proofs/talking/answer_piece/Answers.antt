use Rattle.std.proofs.Common.{◌+◌, ◌++◌, List, ℕ, ap, drop, get_or, sym, take, ◌∙◌}
use Rattle.std.proofs.lemmas.Grind.{take_at_read}
use Rattle.std.proofs.lemmas.List.{take-append-drop, take_all}
use Rattle.mx_any.specs.Machines.{meaning}
use Rattle.mx_debug.specs.Talking.{talk_of}
use Rattle.mx_debug.proofs.TalkLaws.{one_byte, talk_begins, talk_fails, talked_all, talked_left, talked_more}
use Rattle.mx_debug.proofs.talking.answer_piece.Goals as goal

pub bytes-init : goal.bytes-init
bytes-init g c = record {
  fit = c.requires.fit;
  talked = λ q is at. talk_begins g.L.Line.says g.L.Line.room q (talk_of c.args.talk.now) (meaning c.args.machine.now) c.args.line.now at;
}

pub returns-then-talk-clause-says : goal.returns-then-talk-clause-says
returns-then-talk-clause-says g c = λ q is at.
    let piece = c.args.piece.now in
    let i = c.bytes.byte-index in
    talked_left g.L.Line.says g.L.Line.room q (talk_of c.args.talk.now) (take i piece) (talk_of c.bytes.talk) (meaning c.bytes.machine)
    c.args.line.now c.bytes.line
    (c.bytes.invariant.talked q is at) piece (drop i piece) c.if-talk.true (take-append-drop i piece)

pub returns-in-Err-clause-says : goal.returns-in-Err-clause-says
returns-in-Err-clause-says g c = λ q is at.
    let piece = c.args.piece.now in
    let i = c.bytes.byte-index in
    let h = c.bytes.invariant.talked q is at in
    let one = c.in-Err.ensures.says q is h.place in
    talk_fails g.L.Line.says g.L.Line.room q (talk_of c.args.talk.now) (take i piece) (talk_of c.bytes.talk) (meaning c.bytes.machine)
    c.args.line.now c.bytes.line
    h c.if-talk.false (get_or piece i 0, one.0) piece (drop (i + 1) piece)
    (ap (λ (x : List ℕ). take i piece ++ x) (sym (one_byte piece i c.bytes-test.true)) ∙ take-append-drop i piece)
    c.answer_byte.new.line one.1

pub bytes-preserved : goal.bytes-preserved
bytes-preserved g c = record {
  fit = c.in-Ok.ensures.fit;
  talked = λ q is at.
      let piece = c.args.piece.now in
      let i = c.bytes.byte-index in
      let h = c.bytes.invariant.talked q is at in
      let one = c.in-Ok.ensures.says q is h.place in
      talked_more g.L.Line.says g.L.Line.room q (talk_of c.args.talk.now) (take i piece) (talk_of c.bytes.talk) (meaning c.bytes.machine)
      c.args.line.now c.bytes.line
      h c.if-talk.false (get_or piece i 0, one.0) (take (i + 1) piece) (sym (take_at_read piece i 0 c.bytes-test.true).1)
      (talk_of c.answer_byte.new.talk) (meaning c.answer_byte.new.machine) c.answer_byte.new.line one.1;
}

pub returns-clause-says : goal.returns-clause-says
returns-clause-says g c = λ q is at.
    let piece = c.args.piece.now in
    let i = c.bytes.byte-index in
    talked_all g.L.Line.says g.L.Line.room q (talk_of c.args.talk.now) (take i piece) (talk_of c.bytes.talk) (meaning c.bytes.machine)
    c.args.line.now c.bytes.line
    (c.bytes.invariant.talked q is at) piece (take_all i piece c.bytes-test.false)

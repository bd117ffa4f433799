use Rattle.std.proofs.Common.{false, unwrap_or, []}
use Rattle.mx_source.specs.Operands.{quoted_bytes}
use Rattle.mx_asm.proofs.TextLaws.{step_escape, step_mark, step_plain}
use Rattle.mx_asm.proofs.emission.add_quoted.Goals as goal
use Rattle.mx_asm.proofs.emission.add_quoted.Goals.{then-escape+in_ok-add_byte, else-escape+else-c-eq34+then-c-eq92}
use Rattle.mx_asm.proofs.emission.add_quoted.Goals.{else-escape+else-c-eq34+else-c-eq92+in_ok-add_byte-2}

pub characters-preserved : goal.characters-preserved
characters-preserved c =
    let start = c.args.program.now in
    let text = c.args.text.now in
    let all = unwrap_or (quoted_bytes false text) [] in
    let p = c.characters.program in
    let i = c.characters.c-index in
    elim c.if-escape.branch [
      | then-escape+in_ok-add_byte w ↦
          rw (w.program-is, w.escape-is)
          (step_escape start all p text c.characters.escape i c.characters-test.true c.characters.invariant w.if-escape.true
          w.add_byte.new.self
          (rw (w.unwrap_or.ensures, w.escape_byte.ensures) at w.in_ok-add_byte.ensures.ok))
      | else-escape+else-c-eq34+then-c-eq92 w ↦
          rw (w.program-is, w.escape-is) (step_mark start all p text c.characters.escape i c.characters-test.true c.characters.invariant
          w.if-escape.false w.if-c-eq34.false w.if-c-eq92.true)
      | else-escape+else-c-eq34+else-c-eq92+in_ok-add_byte-2 w ↦
          rw (w.program-is, w.escape-is, w.if-escape.false)
          (step_plain start all p text c.characters.escape i c.characters-test.true c.characters.invariant w.if-escape.false
          w.if-c-eq34.false w.if-c-eq92.false
          w.add_byte-else-c-eq92.new.self w.in_ok-add_byte-2.ensures.ok)
    ]

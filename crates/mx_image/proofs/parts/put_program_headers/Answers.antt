use Rattle.std.proofs.Common.{◌≡◌, ◌∷◌, ◌+◌, drop, length, true, rules, arith, ap, ◌∙◌}
use Rattle.std.proofs.lemmas.List.{length-append}
use Rattle.std.proofs.lemmas.Grind.{common_steps}
use Rattle.mx_image.specs.Program.{filled, has_bytes}
use Rattle.mx_image.specs.Image.{program_header, contents, rounded}
use Rattle.mx_image.proofs.Sizes.{length-contents-cons}
use Rattle.mx_image.proofs.Steps.{filled-here, headers-step}
use Rattle.mx_image.proofs.parts.put_program_headers.Goals as goal
use Rattle.mx_image.proofs.parts.put_program_headers.Goals.{then-len-ne0+in_ok-put_program_header, else-len-ne0}

pub segments-preserved : goal.segments-preserved
segments-preserved c =
    elim c.if-len-ne0.branch [
      | then-len-ne0+in_ok-put_program_header w ↦
          let s = c.segment-item.result in
          let rest = filled (drop (c.segments.segment-index + 1) c.args.segments.now) in
          let some : has_bytes s ≡ true = search rules in
          let here : filled (drop c.segments.segment-index c.args.segments.now) ≡ s ∷ rest =
          filled-here c.args.segments.now c.segments.segment-index _ s c.segments-test.true c.segment-item.is some in
          let at : c.if-len-ne0.at ≡ c.segments.at + rounded (length s.bytes) = search rules in
          let size = ap (λ xs. length (contents xs)) here ∙ length-contents-cons s rest in
          let count = ap length here in
          let longer = ap length w.in_ok-put_program_header.ensures ∙ length-append c.segments.out (program_header c.segments.at s) in
          record {
            out = rw (at, w.out-is) (headers-step c.segments.out w.put_program_header.new.out _ c.segments.at s _ rest here
                c.segments.invariant.out w.in_ok-put_program_header.ensures);
            room = rw w.out-is (omega (arith, count, longer, c.segments.invariant.room));
            at = omega (arith, at, size, c.segments.invariant.at);
          }
      | else-len-ne0 w ↦ record { out = grind (arith, common_steps); room = grind (arith, common_steps); at = grind (arith, common_steps) }
    ]

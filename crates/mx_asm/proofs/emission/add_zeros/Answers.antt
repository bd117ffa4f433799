use Rattle.std.proofs.Common.{◌≤◌, ◌-◌, ◌∙◌, ap, replicate, ℕ, arith}
use Rattle.std.proofs.lemmas.Grind.{common_steps}
use Rattle.std.proofs.lemmas.List.{take-replicate}
use Rattle.mx_image.specs.Program.{with_bytes}
use Rattle.mx_asm.proofs.ProgramLaws.{left_bytes, zeros_split}
use Rattle.mx_asm.proofs.emission.add_zeros.Goals as goal

pub pieces-preserved : goal.pieces-preserved
pieces-preserved c =
    let p = c.pieces.program in
    let left = c.pieces.left in
    let piece = c.min-piece.result in
    let most : piece ≤ 256 = omega (arith, c.min-piece.ensures) in
    let less : piece ≤ left = omega (arith, c.min-piece.ensures) in
    left_bytes c.args.program.now (replicate {A = ℕ} c.args.count 0) p (replicate {A = ℕ} left 0) c.pieces.invariant
    (replicate {A = ℕ} piece 0) (replicate {A = ℕ} (left - piece) 0) c.add_bytes.new.self
    (zeros_split left piece (left - piece) (omega (arith, less)))
    (c.in_ok-add_bytes.ensures.ok ∙ ap (λ bytes. with_bytes bytes p) (take-replicate piece 256 0 most))

pub add_bytes-requires-clause-room : goal.add_bytes-requires-clause-room
add_bytes-requires-clause-room c = grind (arith, common_steps)

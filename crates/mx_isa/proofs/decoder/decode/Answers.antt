use Rattle.std.proofs.Common.{◌≡◌, ◌<◌, ◌^◌, arith}
use Rattle.mx_isa.specs.Table.{encoded}
use Rattle.mx_isa.specs.Ranges.{IsValid}
use Rattle.mx_isa.proofs.OfDecoded.{Fits, decoded-fits, IfSome-weaker}
use Rattle.mx_isa.proofs.decoder.decode.Goals as goal

pub returns-clause-valid : goal.returns-clause-valid
returns-clause-valid c =
    let w = c.args.word in
    let h : w < 2 ^ 32 = omega arith in
    rw c.by_opcode.ensures (IfSome-weaker (Fits w) IsValid _ (decoded-fits w h) (λ i f. f.valid))

pub returns-clause-back : goal.returns-clause-back
returns-clause-back c =
    let w = c.args.word in
    let h : w < 2 ^ 32 = omega arith in
    rw c.by_opcode.ensures (IfSome-weaker (Fits w) (λ i. encoded i ≡ w) _ (decoded-fits w h) (λ i f. f.word))

use Rattle.mx_isa.proofs.OfEncoded.{decoded-encoded}
use Rattle.mx_isa.proofs.encoder.encode.Goals as goal

pub returns-clause-back : goal.returns-clause-back
returns-clause-back c = rw c.by_format.ensures (decoded-encoded c.args.inst.now c.requires)

use Rattle.std.proofs.Common.{◌≡◌, arith}
use Rattle.mx_snapshot.specs.Fields.{stored_in}
use Rattle.mx_snapshot.specs.Reader.{Took}
use Rattle.mx_snapshot.proofs.CodecLaws.{stored-valid}
use Rattle.mx_resume.proofs.Whole.{bytes-are, stored-taken}
use Rattle.mx_resume.proofs.fields.stored.Goals as goal

pub returns : goal.returns
returns c =
    let e = c.in_ok-others.ensures in
    let taken : stored_in c.args.bytes.now ≡ Took e.0 c.read_fields.new.at =
    stored-taken c.args.bytes.now e.0 c.read_fields.new.at c.if-bytes-gt-MOST_BYTES.false e.1 c.if-at-bytes.false in (
      e.0,
      c.read_fields.new.at,
      taken,
      stored-valid c.args.bytes.now e.0 c.read_fields.new.at (bytes-are c.args.bytes.now (λ i. omega (arith, (c.type_inv.bytes i).fits)))
          taken,
      e.2,
    )

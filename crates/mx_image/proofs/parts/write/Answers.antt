use Rattle.std.proofs.Common.{◌≡◌, arith, rules}
use Rattle.mx_image.specs.Labels.{labels_of}
use Rattle.mx_image.proofs.Sizes.{small}
use Rattle.mx_image.proofs.parts.write.Goals as goal

pub lay_out-layout-requires-clause-contents : goal.lay_out-layout-requires-clause-contents
lay_out-layout-requires-clause-contents c =
    let sizes = small c.args.program.now c.requires in
    let same : c.as_slice-segments.result.now ≡ c.args.program.now.segments = search rules in
    rw same (omega (arith, sizes.contents))

pub lay_out-layout-requires-clause-names : goal.lay_out-layout-requires-clause-names
lay_out-layout-requires-clause-names c =
    let sizes = small c.args.program.now c.requires in
    let same : labels_of c.as_slice-labels.result.now ≡ c.args.program.now.labels = search rules in
    rw same (omega (arith, sizes.names))

pub put_parts-requires-clause-contents : goal.put_parts-requires-clause-contents
put_parts-requires-clause-contents c =
    let sizes = small c.args.program.now c.requires in
    let same : c.as_slice-segments.result.now ≡ c.args.program.now.segments = search rules in
    rw same (omega (arith, sizes.contents))

pub put_parts-requires-clause-names : goal.put_parts-requires-clause-names
put_parts-requires-clause-names c =
    let sizes = small c.args.program.now c.requires in
    let same : labels_of c.as_slice-labels.result.now ≡ c.args.program.now.labels = search rules in
    rw same (omega (arith, sizes.names))

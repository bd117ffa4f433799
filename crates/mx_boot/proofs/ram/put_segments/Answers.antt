use Rattle.std.proofs.Common.{◌∙◌, ap, sym, subst, length, map}
use Rattle.mx_boot.specs.Areas.{Content, segment_content}
use Rattle.mx_boot.specs.Boot.{with_content}
use Rattle.mx_boot.specs.Placed.{HasRoom}
use Rattle.mx_model.proofs.EachLaws.{all_at}
use Rattle.mx_boot.proofs.Puts.{next-content}
use Rattle.mx_boot.proofs.Rows.{at_mapped}
use Rattle.mx_boot.proofs.ram.put_segments.Goals as goal

pub put_bytes-requires-clause-room : goal.put_bytes-requires-clause-room
put_bytes-requires-clause-room c =
    let f = segment_content c.args.bytes.now in
    let s = c.get-segment.result in
    let room = all_at (HasRoom (length c.args.ram.now)) (map f c.args.segments.now) c.segments.k (f s) c.requires.room
    (at_mapped f c.args.segments.now c.segments.k s c.get-segment.ensures) in
    subst (λ n. HasRoom n (record { address = s.address; bytes = c.held.result.now })) (sym c.segments.invariant.1)
    (subst (λ bytes. HasRoom (length c.args.ram.now) (record { address = s.address; bytes = bytes })) (sym c.held.ensures) room)

pub segments-preserved : goal.segments-preserved
segments-preserved c =
    let f = segment_content c.args.bytes.now in
    let s = c.get-segment.result in (
      next-content f c.args.segments.now c.segments.k s c.args.ram.now c.segments.ram c.put_bytes.new.ram c.get-segment.ensures
          c.segments.invariant.0
          (c.put_bytes.ensures.bytes ∙ ap (λ bytes. (let content : Content = record { address = s.address; bytes = bytes } in
          with_content c.segments.ram content)) c.held.ensures),
      c.put_bytes.ensures.size ∙ c.segments.invariant.1,
    )

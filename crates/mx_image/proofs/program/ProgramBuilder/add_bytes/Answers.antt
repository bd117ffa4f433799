use Rattle.std.proofs.Common.{◌≡◌, ◌+◌, ◌-◌, ◌∙◌, ap, sym, length, rules}
use Rattle.std.proofs.lemmas.Result.{on_ok_weaker}
use Rattle.mx_image.specs.Labels.{program_of}
use Rattle.mx_image.proofs.LastBytes.{set-last, with_bytes-segments}
use Rattle.mx_image.proofs.program.ProgramBuilder.add_bytes.Goals as goal

pub returns-clause-ok : goal.returns-clause-ok
returns-clause-ok c =
    let inside = c.self.inside in
    let last : (c.len-last.result - 1) + 1 ≡ length inside.segments.items = search rules in
    on_ok_weaker c.extend_from_slice.result (λ is. rw (← c.self.view_is) (ap (λ ss. program_of inside.entry ss inside.labels.items)
    (set-last inside.segments.items (c.len-last.result - 1) _ c.index_mut-segment.result.now c.extend_from_slice.new.self c.args.bytes.now
    last c.index_mut-segment.ensures.value is)
    ∙ sym (with_bytes-segments c.args.bytes.now (program_of inside.entry inside.segments.items inside.labels.items))))
    c.extend_from_slice.ensures.ok

use Rattle.std.proofs.Common.{◌≡◌, ◌+◌, ◌-◌, [], ◌∷◌, ap, length, rules}
use Rattle.std.proofs.lemmas.Result.{on_ok_weaker}
use Rattle.mx_image.specs.Labels.{program_of}
use Rattle.mx_image.proofs.LastBytes.{set-last}
use Rattle.mx_image.proofs.program.ProgramBuilder.add_byte.Goals as goal

pub returns-clause-ok : goal.returns-clause-ok
returns-clause-ok c =
    let inside = c.self.inside in
    let last : (c.len-last.result - 1) + 1 ≡ length inside.segments.items = search rules in
    on_ok_weaker c.push.result (λ is. rw (← c.self.view_is) (ap (λ ss. program_of inside.entry ss inside.labels.items)
    (set-last inside.segments.items (c.len-last.result - 1) _ c.index_mut-segment.result.now c.push.new.self (c.args.byte ∷ []) last
    c.index_mut-segment.ensures.value is))) c.push.ensures.ok

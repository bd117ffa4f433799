use Rattle.std.proofs.Common.{◌≡◌, ◌+◌, sym, ◌∙◌}
use Rattle.mx_debug_texts.specs.Documents.{first_domain}
use Rattle.mx_debug_texts.proofs.RightLaws.{is_other, is_same}
use Rattle.mx_debug_texts.proofs.WindowLaws.{further_none}
use Rattle.mx_debug_texts.proofs.images.put_library.Goals as goal

pub returns-then-i-first_domain : goal.returns-then-i-first_domain
returns-then-i-first_domain c =
    let first = first_domain c.args.named.now.plan.now in
    rw (is_other (c.args.i + 1) first (λ (e : c.args.i + 1 ≡ first). c.if-i-first_domain.true (e ∙ sym c.first_domain.ensures)))
    (rw (c.file_at.ensures, c.image_at.ensures) at c.put_named.ensures)

pub returns-else-i-first_domain : goal.returns-else-i-first_domain
returns-else-i-first_domain c =
    let same = c.if-i-first_domain.false ∙ c.first_domain.ensures in
    rw (is_same (c.args.i + 1) (first_domain c.args.named.now.plan.now) same) (further_none c.args.window.now)

use Rattle.std.proofs.Common.{ℕ, ◌+◌, [], ◌∷◌, ◌++◌, ap, ◌∙◌}
use Rattle.std.proofs.lemmas.Result.{err_from_is_err_and}
use Rattle.mx_resume.specs.Parts.{hart_seen}
use Rattle.mx_resume.proofs.Lists.{left_misses, left_next, left_none}
use Rattle.mx_resume.proofs.Places.{count_more}
use Rattle.mx_resume.proofs.harts.read_harts.Goals as goal

pub returns-in_err-hart : goal.returns-in_err-hart
returns-in_err-hart c =
    let inv = c.harts.invariant in
    let p = err_from_is_err_and c.from_residual.result c.from_residual.ensures.1 in
    rw (p.1, p.2) (left_misses _ c.harts-test.true inv.3 (c.in_err-hart.ensures.taken inv.0 inv.1))

pub harts-preserved : goal.harts-preserved
harts-preserved c =
    let inv = c.harts.invariant in
    let hart = hart_seen c.in_ok-hart.hart in (
      inv.0 ++ hart ∷ [],
      count_more inv.0 hart ∙ ap (λ (k : ℕ). k + 1) inv.1,
      c.push.ensures inv.0 inv.1 inv.2,
      left_next c.harts-test.true inv.3 (c.in_ok-hart.ensures.taken inv.0 inv.1),
    )

pub returns : goal.returns
returns c = let inv = c.harts.invariant in (inv.0, left_none c.harts-test.false inv.3, inv.2)

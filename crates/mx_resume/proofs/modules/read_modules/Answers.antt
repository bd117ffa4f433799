use Rattle.std.proofs.Common.{ℕ, ◌+◌, [], ◌∷◌, ◌++◌, ap, ◌∙◌}
use Rattle.std.proofs.lemmas.Result.{err_from_is_err_and}
use Rattle.mx_resume.proofs.Lists.{left_misses, left_next}
use Rattle.mx_resume.proofs.Places.{count_more}
use Rattle.mx_resume.proofs.modules.read_modules.Goals as goal

pub returns-in_err-module : goal.returns-in_err-module
returns-in_err-module c =
    let inv = c.modules.invariant in
    let names = c.as_slice.ensures.value ∙ inv.2.names in
    let p = err_from_is_err_and c.from_residual.result c.from_residual.ensures.1 in
    rw (p.1, p.2) (left_misses _ c.modules-test.true inv.3 (c.in_err-module.ensures.taken inv.0 names))

pub modules-preserved : goal.modules-preserved
modules-preserved c =
    let inv = c.modules.invariant in
    let names = c.as_slice.ensures.value ∙ inv.2.names in
    let taken = c.in_ok-module.ensures.taken inv.0 names in (
      inv.0 ++ taken.0 ∷ [],
      count_more inv.0 taken.0 ∙ ap (λ (k : ℕ). k + 1) inv.1,
      c.in_ok-push.ensures.added inv.0 taken.0 (ap (λ (k : ℕ). k + 1) inv.1) inv.2 taken.2,
      left_next c.modules-test.true inv.3 taken.1,
    )

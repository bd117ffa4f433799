use Rattle.std.proofs.Common.{◌≤◌, ◌<◌, ℕ, List, length, ap, ◌∙◌, arith}
use Rattle.std.proofs.lemmas.List.{length-set, take_all}
use Rattle.std.proofs.lemmas.Result.{err_from_is_err_and}
use Rattle.mx_snapshot.specs.Reader.{Took}
use Rattle.mx_resume.proofs.Lists.{left_misses, left_none, left_set}
use Rattle.mx_resume.proofs.frames.kept.Goals as goal

pub returns-in_err-value : goal.returns-in_err-value
returns-in_err-value c =
    let p = err_from_is_err_and c.from_residual.result c.from_residual.ensures.1 in
    rw (p.1, p.2) (left_misses _ c.kept-test.true c.kept.invariant.left c.in_err-value.ensures)

pub kept-preserved : goal.kept-preserved
kept-preserved c =
    let long = c.kept.invariant.long in
    let inside : c.kept.i < length c.kept.kept = omega (arith, long, c.kept-test.true) in
    record {
      long = length-set c.kept.kept c.kept.i _ ∙ long;
      left = left_set c.kept.kept c.kept-test.true inside c.kept.invariant.left c.in_ok-value.ensures;
    }

pub returns : goal.returns
returns c =
    let all : length c.kept.kept ≤ c.kept.i = omega (arith, c.kept.invariant.long, c.kept-test.false) in
    left_none c.kept-test.false c.kept.invariant.left ∙ ap (λ (ns : List ℕ). Took ns c.kept.at) (take_all c.kept.i c.kept.kept all)

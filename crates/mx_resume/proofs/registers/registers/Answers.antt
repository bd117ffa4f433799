use Rattle.std.proofs.Common.{◌≤◌, ◌<◌, ℕ, List, length, ap, ◌∙◌, arith}
use Rattle.std.proofs.lemmas.List.{length-set, take_all}
use Rattle.std.proofs.lemmas.Result.{err_from_is_err_and}
use Rattle.mx_snapshot.specs.Reader.{Took}
use Rattle.mx_resume.proofs.Lists.{left_misses, left_none, left_set}
use Rattle.mx_resume.proofs.RegisterSets.{call_set, register_missed, register_taken}
use Rattle.mx_resume.proofs.registers.registers.Goals as goal

pub returns-in_err-value-clause-taken : goal.returns-in_err-value-clause-taken
returns-in_err-value-clause-taken c =
    let long = c.registers.invariant.long in
    let inside : c.registers.i ≤ length c.registers.regs = omega (arith, long, c.registers-test.true) in
    let p = err_from_is_err_and c.from_residual.result c.from_residual.ensures.1 in
    rw (p.1, p.2) (left_misses _ c.registers-test.true c.registers.invariant.left
    (register_missed _ c.registers.regs c.registers.i _ _ _ inside c.in_err-value.ensures.taken))

pub registers-preserved : goal.registers-preserved
registers-preserved c =
    let long = c.registers.invariant.long in
    let inside : c.registers.i < length c.registers.regs = omega (arith, long, c.registers-test.true) in
    record {
      long = length-set c.registers.regs c.registers.i _ ∙ long;
      left = left_set c.registers.regs c.registers-test.true inside c.registers.invariant.left
          (register_taken _ c.registers.regs c.registers.i _ _ _ _ (omega (arith, inside)) c.in_ok-value.ensures.taken);
      call = call_set _ c.registers.regs c.registers.i _ inside c.registers.invariant.call c.in_ok-value.ensures.range;
    }

pub returns-clause-taken : goal.returns-clause-taken
returns-clause-taken c =
    let all : length c.registers.regs ≤ c.registers.i = omega (arith, c.registers.invariant.long, c.registers-test.false) in
    left_none c.registers-test.false c.registers.invariant.left
    ∙ ap (λ (ns : List ℕ). Took ns c.registers.at) (take_all c.registers.i c.registers.regs all)

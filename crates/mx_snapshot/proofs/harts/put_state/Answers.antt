use Rattle.std.proofs.Common.{ℕ, [], ◌∷◌, ap}
use Rattle.std.proofs.lemmas.Result.{err_from_is_err_and}
use Rattle.mx_snapshot.specs.Spelling.{numbers, state_bytes}
use Rattle.mx_tail.proofs.PassLaws.{passes_next, passes_stop, passes_last, passes_same}
use Rattle.mx_snapshot.proofs.harts.put_state.Goals as goal

pub returns-in_err-put_numbers : goal.returns-in_err-put_numbers
unfolding state_bytes
returns-in_err-put_numbers g c =
    let p = err_from_is_err_and c.from_residual.result c.from_residual.ensures.1 in
    rw (p.1, p.2) (passes_stop _ _ (passes_same (ap (λ (n : ℕ). numbers (n ∷ c.args.view.now.domain ∷ c.args.view.now.pc ∷ []))
    c.status_number.ensures) c.in_err-put_numbers.ensures))

pub returns : goal.returns
unfolding state_bytes
returns g c = passes_next (passes_same (ap (λ (n : ℕ). numbers (n ∷ c.args.view.now.domain ∷ c.args.view.now.pc ∷ []))
    c.status_number.ensures) c.in_ok-put_numbers.ensures) (passes_last c.put_numbers-2.ensures)

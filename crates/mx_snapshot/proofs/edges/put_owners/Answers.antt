use Rattle.std.proofs.Common.{ℕ, List, [], ◌∷◌, ap}
use Rattle.std.proofs.lemmas.Result.{err_from_is_err_and}
use Rattle.mx_snapshot.specs.Spelling.{counted, numbers}
use Rattle.mx_tail.proofs.PassLaws.{passes_next, passes_stop, passes_last, passes_same}
use Rattle.mx_snapshot.proofs.edges.put_owners.Goals as goal

-- a list of one number
abbrev one : ℕ → List ℕ
one n = numbers (n ∷ [])

pub returns-in_err-put_numbers : goal.returns-in_err-put_numbers
unfolding counted
returns-in_err-put_numbers g c =
    let p = err_from_is_err_and c.from_residual.result c.from_residual.ensures.1 in
    rw (p.1, p.2) (passes_stop _ _ (passes_same (ap one c.count_owner_runs.ensures) c.in_err-put_numbers.ensures))

pub returns : goal.returns
unfolding counted
returns g c = passes_next (passes_same (ap one c.count_owner_runs.ensures) c.in_ok-put_numbers.ensures)
    (passes_last c.put_owner_runs.ensures)

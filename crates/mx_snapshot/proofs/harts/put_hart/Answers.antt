use Rattle.std.proofs.Common.{ℕ, [], ◌∷◌, ap}
use Rattle.std.proofs.lemmas.Result.{err_from_is_err_and}
use Rattle.mx_any.specs.Machines.{meaning}
use Rattle.mx_model.specs.State.{hart_at}
use Rattle.mx_snapshot.specs.Spelling.{hart_bytes, numbers}
use Rattle.mx_tail.proofs.PassLaws.{passes_next, passes_stop, passes_last, passes_same}
use Rattle.mx_snapshot.proofs.PlaceLaws.{state_told}
use Rattle.mx_snapshot.proofs.harts.put_hart.Goals as goal

pub returns-in_err-put_state : goal.returns-in_err-put_state
unfolding hart_bytes
returns-in_err-put_state g c =
    let p = err_from_is_err_and c.from_residual.result c.from_residual.ensures.1 in
    rw (p.1, p.2) (passes_stop _ _ (passes_same (state_told (hart_at (meaning c.args.machine.now).core c.args.hart) c.hart-view.result
    c.hart-view.ensures) c.in_err-put_state.ensures))

pub returns-in_err-put_frames : goal.returns-in_err-put_frames
unfolding hart_bytes
returns-in_err-put_frames g c =
    let p = err_from_is_err_and c.from_residual-in_err-put_frames.result c.from_residual-in_err-put_frames.ensures.1 in
    rw (p.1, p.2) (passes_next (passes_same (state_told (hart_at (meaning c.args.machine.now).core c.args.hart) c.hart-view.result
    c.hart-view.ensures) c.in_ok-put_state.ensures) (passes_stop _ _ c.in_err-put_frames.ensures))

pub returns : goal.returns
unfolding hart_bytes
returns g c = passes_next (passes_same (state_told (hart_at (meaning c.args.machine.now).core c.args.hart) c.hart-view.result
    c.hart-view.ensures) c.in_ok-put_state.ensures) (passes_next c.in_ok-put_frames.ensures
    (passes_last (passes_same (ap (λ (n : ℕ). numbers (n ∷ [])) c.heard.ensures) c.put_numbers.ensures)))

use Rattle.std.proofs.Common.{◌+◌, ◌≤◌, ◌∙◌, sym, subst, length, arith}
use Rattle.mx_boot.specs.Laid.{Tells}
use Rattle.mx_boot.specs.Seen.{seen}
use Rattle.mx_boot.proofs.Started.{hart_rows_are, pc_is, harts_next, harts_stop, harts_end}
use Rattle.mx_boot.proofs.starts.add_starts.Goals as goal

pub harts-preserved : goal.harts-preserved
harts-preserved c =
    let p = c.args.plan.now in
    let at = c.home_at-home.ensures.home in
    let none = sym (hart_rows_are p c.args.images.now c.hart-hart.result.now (seen c.home_at-home.result) at c.args.all.now (c.harts.h + 1)
    c.requires) ∙ c.in-Ok.ensures.0 in
    harts_next p c.args.images.now c.harts.h c.hart-hart.result.now c.hart-hart.ensures.value c.args.starts.now.items c.harts.starts.items
    c.add_start.new.starts.items _
    none (pc_is p c.args.images.now c.hart-hart.result.now (seen c.home_at-home.result) at) c.in-Ok.ensures.1 c.harts.invariant

pub returns-in-Err : goal.returns-in-Err
returns-in-Err c =
    let p = c.args.plan.now in
    let rows = hart_rows_are p c.args.images.now c.hart-hart.result.now (seen c.home_at-home.result) c.home_at-home.ensures.home
    c.args.all.now (c.harts.h + 1) c.requires in
    harts_stop p c.args.images.now c.harts.h c.hart-hart.result.now c.hart-hart.ensures.value c.args.starts.now.items c.harts.starts.items
    c.in-Err.refused
    (subst (λ o. Tells o c.in-Err.refused) rows c.in-Err.ensures) c.harts.invariant

pub returns : goal.returns
returns c =
    let past : length c.args.plan.now.harts ≤ c.harts.h = omega (arith, c.harts-h-end.ensures.value) in
    harts_end c.args.plan.now c.args.images.now c.harts.h c.args.starts.now.items c.harts.starts.items past c.harts.invariant

pub overflow_sub-hart : goal.overflow_sub-hart
overflow_sub-hart c = c.hart-hart.ensures.range.domain.0

pub home_at-home-requires-clause-below : goal.home_at-home-requires-clause-below
home_at-home-requires-clause-below c =
    let r = c.hart-hart.ensures.range.domain in
    omega (arith, r.0, r.1)

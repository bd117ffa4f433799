use Rattle.std.proofs.Common.{◌≡◌, length, arith}
use Rattle.mx_plain.proofs.ShapeLaws.{changed_are}
use Rattle.mx_plain.proofs.tables.change_all.Goals as goal

pub returns : goal.returns
returns c =
    let long : length c.loop-row.maps.items ≡ length c.args.maps.now.items = omega arith in
    changed_are c.args.change.now c.args.maps.now.items c.loop-row.maps.items long
    (λ k lt. c.loop-row.invariant.1 k (omega arith))

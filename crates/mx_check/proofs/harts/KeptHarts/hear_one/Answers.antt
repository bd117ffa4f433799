use Rattle.std.proofs.Common.{◌≡◌, length, ap, ◌∙◌, arith, length-set}
use Rattle.mx_check.proofs.harts.KeptHarts.hear_one.Goals as goal

pub mark-requires : goal.mark-requires
mark-requires g c =
    let long : length c.drop_overlap.new.self ≡ length c.args.self.now = ap length c.drop_overlap.ensures
    ∙ length-set c.args.self.now c.args.hart _ in
    (omega arith, (omega arith, omega arith))

use Rattle.std.proofs.Common.{ℕ, subst}
use Rattle.mx_machine.specs.Rows.{HasRunOn}
use Rattle.mx_machine.proofs.Bounds.{both-ways}
use Rattle.mx_machine.proofs.bare.Bare.more.Goals as goal

pub returns-else-made-room-clause-row : goal.returns-else-made-room-clause-row
returns-else-made-room-clause-row g c = (
  c.requires.empty,
  λ f r. subst (λ (n : ℕ). HasRunOn f c.args.hart n c.args.self.now)
      (both-ways c.args.made c.args.room c.requires.upto c.if-made-room.false) r,
)

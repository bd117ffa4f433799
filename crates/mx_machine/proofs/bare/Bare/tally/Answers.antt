use Rattle.std.proofs.Common.{ℕ, sym, ap, ◌∙◌}
use Rattle.mx_machine.specs.Rows.{tallied}
use Rattle.mx_machine.proofs.TallyLaws.{tallied-none}
use Rattle.mx_machine.proofs.bare.Bare.tally.Goals as goal

pub returns-then-turns-eq0 : goal.returns-then-turns-eq0
returns-then-turns-eq0 g c =
    tallied-none c.args.self.now c.args.hart ∙ ap (λ (n : ℕ). tallied c.args.hart n c.args.self.now) (sym c.if-turns-eq0.true)

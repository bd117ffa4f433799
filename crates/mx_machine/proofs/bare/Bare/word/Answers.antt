use Rattle.std.proofs.Common.{◌≡◌, ◌*◌, arith, length, refl, ap, ◌∙◌}
use Rattle.mx_core.specs.Bus.{load_at}
use Rattle.mx_machine.specs.Held.{Held}
use Rattle.mx_machine.proofs.bare.Bare.word.Goals as goal

pub returns : goal.returns
unfolding load_at
returns g c = rw (← c.self.view_is, c.load.ensures.number) refl

pub load-requires-clause-aligned : goal.load-requires-clause-aligned
load-requires-clause-aligned g c = c.requires.aligned

pub load-requires-clause-inside : goal.load-requires-clause-inside
load-requires-clause-inside g c =
    let ram : length c.self.inside.bus.supervisor.ram ≡ 4 * c.args.self.now.parts.size =
    ap (λ (m : Held). length m.parts.ram) c.self.view_is ∙ c.requires.ram in
    (c.requires.inside.0, omega (arith, ram, c.requires.inside, c.requires.aligned))

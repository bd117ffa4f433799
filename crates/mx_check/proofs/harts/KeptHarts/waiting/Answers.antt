use Rattle.std.proofs.Common.{Option, ap, ◌∙◌}
use Rattle.mx_check.specs.declared.flight.Flight.{Flight}
use Rattle.mx_check.specs.Harts.{new_hart}
use Rattle.mx_check.specs.Calls.{waiting_hart}
use Rattle.mx_check.proofs.HartLaws.{four_made}
use Rattle.mx_check.proofs.harts.KeptHarts.waiting.Goals as goal

pub returns-clause-value : goal.returns-clause-value
returns-clause-value g c =
    four_made c.args.harts (waiting_hart c.args.flights.now) _ _ _ _ c.requires.few
    (c.new.ensures ∙ ap (λ (f : Option Flight). record new_hart { flight = f }) c.of.ensures.value)
    (c.new-2.ensures ∙ ap (λ (f : Option Flight). record new_hart { flight = f }) c.of-2.ensures.value)
    (c.new-3.ensures ∙ ap (λ (f : Option Flight). record new_hart { flight = f }) c.of-3.ensures.value)
    (c.new-4.ensures ∙ ap (λ (f : Option Flight). record new_hart { flight = f }) c.of-4.ensures.value)

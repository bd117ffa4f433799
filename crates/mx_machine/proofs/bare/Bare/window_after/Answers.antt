use Rattle.std.proofs.Common.{sym, ◌∙◌}
use Rattle.mx_machine.proofs.KindLaws.{ended-on}
use Rattle.mx_machine.proofs.bare.Bare.window_after.Goals as goal

pub window-requires : goal.window-requires
window-requires g c = (assumption c, (c.requires.fits, (c.requires.on c.in-On.is).there))

pub returns-in-On : goal.returns-in-On
returns-in-On g c = λ on. c.window.ensures

pub returns-in-Ended : goal.returns-in-Ended
returns-in-Ended g c = λ on. absurd (ended-on c.in-Ended.field-0 (sym c.in-Ended.is ∙ on))

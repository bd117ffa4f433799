use Rattle.std.proofs.Common.{◌≡◌, ◌<◌, length, sym, subst, ap, ◌∙◌}
use Rattle.std.specs.Prelude.{slice_index}
use Rattle.mx_model.specs.Reads.{flat_reads}
use Rattle.mx_model.specs.State.{Flat}
use Rattle.mx_machine.proofs.machine.Machine.owner.Goals as goal

pub owner-requires : goal.owner-requires
owner-requires g c =
    subst (λ x. c.args.word < length x.bare.parts.owners) (sym c.self-inside.view_is)
    (subst (λ n. c.args.word < n) (sym c.self.invariant.fits.sound.owners)
    (subst (λ (f : Flat). c.args.word < f.core.size) (sym c.self.view_is) c.requires))

pub returns : goal.returns
returns g c =
    subst (λ (f : Flat). c.owner.result ≡ (flat_reads f).owner c.args.word) c.self.view_is
    (c.owner.ensures ∙ ap (λ x. slice_index x.bare.parts.owners c.args.word) c.self-inside.view_is)

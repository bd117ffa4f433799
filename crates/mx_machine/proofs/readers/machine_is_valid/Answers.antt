use Rattle.std.proofs.Common.{◌≡◌, ℕ, length, subst}
use Rattle.mx_model.specs.Reads.{map_in}
use Rattle.mx_model.specs.State.{Flat}
use Rattle.mx_model.specs.Valid.{IsModule, IsValid}
use Rattle.mx_machine.proofs.ReadLaws.{map-long, modules-in}
use Rattle.mx_machine.proofs.readers.machine_is_valid.Goals as goal

pub returns-clause-valid : goal.returns-clause-valid
returns-clause-valid g c = subst (λ (f : Flat). IsValid f.core) c.machine.view_is c.machine.invariant.valid

pub returns-clause-maps : goal.returns-clause-maps
returns-clause-maps g c =
    subst (λ (f : Flat). length f.maps ≡ length f.core.modules) c.machine.view_is
    (modules-in c.machine.inside.bare c.machine.invariant.fits)

pub returns-clause-whole : goal.returns-clause-whole
returns-clause-whole g c =
    subst (λ (f : Flat). (d : ℕ) → IsModule (length f.core.modules) d
    → length (map_in f.core.size f.maps d) ≡ f.core.size) c.machine.view_is
    (λ d i. map-long c.machine.inside.bare c.machine.invariant.fits d i)

pub returns-clause-owners : goal.returns-clause-owners
returns-clause-owners g c =
    subst (λ (f : Flat). length f.owners ≡ f.core.size) c.machine.view_is c.machine.invariant.fits.sound.owners

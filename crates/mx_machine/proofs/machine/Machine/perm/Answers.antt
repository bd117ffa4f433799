use Rattle.std.proofs.Common.{◌≡◌, ◌<◌, List, length, ap, sym, subst, ◌∙◌}
use Rattle.mx_words.specs.declared.perm.Perm.{Perm}
use Rattle.mx_words.specs.Rights.{perm_at}
use Rattle.mx_table.specs.Tables.{IsDomain, map_of}
use Rattle.mx_model.specs.Reads.{map_in}
use Rattle.mx_model.specs.State.{Flat}
use Rattle.mx_model.specs.Valid.{IsModule}
use Rattle.mx_machine.proofs.ReadLaws.{domain-in, map-there}
use Rattle.mx_machine.proofs.SizeLaws.{fits-checker}
use Rattle.mx_machine.proofs.machine.Machine.perm.Goals as goal

pub perm-requires : goal.perm-requires
perm-requires g c =
    let m = c.self.inside.bare in
    let fits = c.self.invariant.fits in (
      search fits-checker,
      (
        subst (λ x. IsDomain x.bare.parts.maps c.args.domain) (sym c.self-inside.view_is)
            (domain-in m fits c.args.domain (subst (λ (f : Flat). IsModule (length f.core.modules) c.args.domain) (sym c.self.view_is)
            c.requires.domain)),
        subst (λ x. c.args.word < x.bare.parts.size) (sym c.self-inside.view_is)
            (subst (λ (f : Flat). c.args.word < f.core.size) (sym c.self.view_is) c.requires.word),
      ),
    )

pub returns : goal.returns
returns g c =
    let m = c.self.inside.bare in
    let fits = c.self.invariant.fits in
    subst (λ (f : Flat). c.perm.result ≡ perm_at (map_in f.core.size f.maps c.args.domain) c.args.word) c.self.view_is
    (c.perm.ensures ∙ ap (λ x. perm_at (map_of x.bare.parts.maps c.args.domain) c.args.word) c.self-inside.view_is
    ∙ ap (λ (p : List Perm). perm_at p c.args.word)
    (map-there m fits c.args.domain (subst (λ (f : Flat). IsModule (length f.core.modules) c.args.domain) (sym c.self.view_is)
    c.requires.domain)))

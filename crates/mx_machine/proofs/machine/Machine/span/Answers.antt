use Rattle.std.proofs.Common.{◌≡◌, ◌<◌, List, length, ap, sym, subst, ◌∙◌}
use Rattle.mx_words.specs.declared.perm.Perm.{Perm}
use Rattle.mx_words.specs.Reach.{span}
use Rattle.mx_table.specs.Tables.{IsDomain, map_of}
use Rattle.mx_model.specs.Reads.{map_in}
use Rattle.mx_model.specs.State.{Flat}
use Rattle.mx_model.specs.Valid.{IsModule}
use Rattle.mx_machine.proofs.ReadLaws.{domain-in, map-there}
use Rattle.mx_machine.proofs.SizeLaws.{fits-checker}
use Rattle.mx_machine.proofs.machine.Machine.span.Goals as goal

pub tables-requires : goal.tables-requires
tables-requires g c = search fits-checker

pub span-requires-clause-domain : goal.span-requires-clause-domain
span-requires-clause-domain g c =
    subst (λ t. IsDomain (g.T.PermTables.maps t) c.args.domain) (sym c.tables.ensures)
    (subst (λ x. IsDomain x.bare.parts.maps c.args.domain) (sym c.self-inside.view_is)
    (domain-in c.self.inside.bare c.self.invariant.fits c.args.domain
    (subst (λ (f : Flat). IsModule (length f.core.modules) c.args.domain) (sym c.self.view_is) c.requires.domain)))

pub span-requires-clause-word : goal.span-requires-clause-word
span-requires-clause-word g c =
    subst (λ t. c.args.word < g.T.PermTables.size t) (sym c.tables.ensures)
    (subst (λ x. c.args.word < x.bare.parts.size) (sym c.self-inside.view_is)
    (subst (λ (f : Flat). c.args.word < f.core.size) (sym c.self.view_is) c.requires.word))

pub returns : goal.returns
returns g c =
    let m = c.self.inside.bare in
    let fits = c.self.invariant.fits in
    subst (λ (f : Flat). c.span.result ≡ span f.core.kind (map_in f.core.size f.maps c.args.domain) c.args.word) c.self.view_is
    (c.span.ensures ∙ ap (λ t. span g.T.PermTables.kind (map_of (g.T.PermTables.maps t) c.args.domain) c.args.word) c.tables.ensures
    ∙ ap (λ x. span x.bare.parts.kind (map_of x.bare.parts.maps c.args.domain) c.args.word) c.self-inside.view_is
    ∙ ap (λ (p : List Perm). span m.parts.kind p c.args.word)
    (map-there m fits c.args.domain (subst (λ (f : Flat). IsModule (length f.core.modules) c.args.domain) (sym c.self.view_is)
    c.requires.domain)))

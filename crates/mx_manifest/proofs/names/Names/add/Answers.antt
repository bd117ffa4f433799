use Rattle.std.proofs.Common.{◌∙◌, ap, not}
use Rattle.std.specs.List.{list_any}
use Rattle.std.specs.Str.{bytes_eq}
use Rattle.mx_manifest.proofs.Domains.{any_text}
use Rattle.mx_manifest.proofs.names.Names.add.Goals as goal

pub returns-clause-fresh : goal.returns-clause-fresh
returns-clause-fresh c =
    c.in_ok-fresh.ensures.added ∙ ap not (any_text c.args.name.now c.self.inside.set.keys)
    ∙ ap (λ names. not (list_any (bytes_eq c.args.name.now) names)) c.self.view_is

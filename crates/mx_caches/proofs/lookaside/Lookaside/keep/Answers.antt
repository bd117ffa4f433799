use Rattle.std.proofs.Common.{◌∷◌, List, take, refl, ap, ◌∙◌, arith}
use Rattle.mx_words.specs.Caches.{Entry}
use Rattle.mx_caches.proofs.Ring.{window_keep}
use Rattle.mx_caches.proofs.lookaside.Lookaside.keep.Goals as goal

pub returns : goal.returns
returns g c =
    let l = c.self.inside in
    let i = c.self.invariant in
    window_keep l.newest l.len l.slots i.1 (omega arith) i.0 _ (c.args.domain, c.args.span) refl g.row.N _ i.2 i.3 c.min-self-inside.ensures
    ∙ ap (λ (es : List Entry). take g.row.N ((c.args.domain, c.args.span) ∷ es)) c.self.view_is

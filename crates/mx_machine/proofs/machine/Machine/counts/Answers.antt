use Rattle.std.proofs.Common.{◌≡◌, ◌<◌, length, ap, sym, subst, ◌∙◌}
use Rattle.mx_words.specs.Caches.{Cache}
use Rattle.mx_check.specs.Harts.{kept_at}
use Rattle.mx_model.specs.State.{Flat, cache_at}
use Rattle.mx_machine.proofs.CoreLaws.{caches-at}
use Rattle.mx_machine.proofs.ReadLaws.{kept-there}
use Rattle.mx_machine.proofs.SizeLaws.{fits-checker}
use Rattle.mx_machine.proofs.machine.Machine.counts.Goals as goal

pub counts-requires : goal.counts-requires
counts-requires g c =
    let m = c.self.inside.bare in (
      search fits-checker,
      subst (λ x. c.args.hart < length x.bare.parts.harts) (sym c.self-inside.view_is)
          (kept-there m c.args.hart c.self.invariant.fits (subst (λ (f : Flat). c.args.hart < length f.core.harts) (sym c.self.view_is)
          c.requires)),
    )

pub returns-clause-sidecar : goal.returns-clause-sidecar
returns-clause-sidecar g c =
    subst (λ (f : Flat). c.counts.result.sidecar ≡ (cache_at f.core c.args.hart).sidecar) c.self.view_is
    (c.counts.ensures.sidecar ∙ ap (λ x. (kept_at x.bare.parts.harts c.args.hart).cache.sidecar) c.self-inside.view_is
    ∙ sym (ap (λ (k : Cache). k.sidecar) (caches-at c.self.inside.bare.parts.harts c.args.hart)))

pub returns-clause-lookaside : goal.returns-clause-lookaside
returns-clause-lookaside g c =
    subst (λ (f : Flat). c.counts.result.lookaside ≡ (cache_at f.core c.args.hart).lookaside) c.self.view_is
    (c.counts.ensures.lookaside ∙ ap (λ x. (kept_at x.bare.parts.harts c.args.hart).cache.lookaside) c.self-inside.view_is
    ∙ sym (ap (λ (k : Cache). k.lookaside) (caches-at c.self.inside.bare.parts.harts c.args.hart)))

pub returns-clause-walks : goal.returns-clause-walks
returns-clause-walks g c =
    subst (λ (f : Flat). c.counts.result.walks ≡ (cache_at f.core c.args.hart).walks) c.self.view_is
    (c.counts.ensures.walks ∙ ap (λ x. (kept_at x.bare.parts.harts c.args.hart).cache.walks) c.self-inside.view_is
    ∙ sym (ap (λ (k : Cache). k.walks) (caches-at c.self.inside.bare.parts.harts c.args.hart)))

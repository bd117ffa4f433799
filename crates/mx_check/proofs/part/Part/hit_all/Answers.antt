use Rattle.mx_check.specs.Harts.{Kept}
use Rattle.mx_check.proofs.HitLaws.{hits-counted, hits-none, some-but-none}
use Rattle.mx_check.proofs.part.Part.hit_all.Goals as goal

pub returns-then-fetches-eq0 : goal.returns-then-fetches-eq0
returns-then-fetches-eq0 g c = hits-none c.args.fetches c.args.domain c.args.self.now c.if-fetches-eq0.true

pub returns : goal.returns
returns g c =
    let i = c.self.inside in
    let k : Kept = record {
      cache = record {
        places = i.places;
        kept = i.kept;
        sidecar = i.counts.sidecar;
        lookaside = i.counts.lookaside;
        walks =
            i.counts.walks;
      };
      halted = i.halted;
      domain = i.domain;
      flight = i.flight;
    } in
    rw (← c.self.view_is) (hits-counted c.args.fetches c.args.domain k _ (some-but-none c.args.fetches c.if-fetches-eq0.false)
    c.raised_by-self-inside.ensures.fits c.raised_by-self-inside.ensures.sum)

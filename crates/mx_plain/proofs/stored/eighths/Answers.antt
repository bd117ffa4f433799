use Rattle.std.proofs.Common.{◌≢◌, ◌<◌, length, ◌∙◌, arith, below_more, length-set, get_or-set_other, get_or-set_same}
use Rattle.mx_words.specs.declared.perm.Perm.TheVariants as P
use Rattle.mx_plain.proofs.StoredWords.{eighths_are}
use Rattle.mx_plain.proofs.stored.eighths.Goals as goal

pub loop-e-preserved : goal.loop-e-preserved
loop-e-preserved c =
    let e = c.loop-e.e in
    let there : e < length c.loop-e.perms = omega arith in (
      length-set c.loop-e.perms e c.at.result ∙ c.loop-e.invariant.0,
      below_more _ _
          (λ k below. let ne : k ≢ e = omega arith in get_or-set_other c.loop-e.perms e k c.at.result P.None ne
          ∙ c.loop-e.invariant.1 k below)
          (get_or-set_same c.loop-e.perms e c.at.result P.None there ∙ c.at.ensures),
    )

pub returns : goal.returns
returns c = eighths_are c.args.size c.args.map.now c.args.first c.loop-e.perms c.loop-e.invariant.0 (λ k below.
    c.loop-e.invariant.1 k (omega arith))

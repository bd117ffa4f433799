use Rattle.std.proofs.Common.{refl}
use Rattle.mx_words.specs.declared.perm.Perm.TheVariants as P
use Rattle.mx_segments.proofs.TallyLaws.{first_tally}
use Rattle.mx_segments.proofs.tally.frames_of.Goals as goal

pub loop-n-init : goal.loop-n-init
loop-n-init c = record {
  tally = first_tally c.args.words c.args.row.now c.requires.row c.requires.some (record { end = 0; before = 0; runs = 1; last = P.None })
      refl refl refl;
  end = refl;
}

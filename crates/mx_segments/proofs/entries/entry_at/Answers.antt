use Rattle.std.proofs.Common.{◌*◌, ◌<◌, refl, arith}
use Rattle.mx_segments.specs.Store.{frames_in}
use Rattle.mx_segments.proofs.SoundLaws.{no_run, entry_read}
use Rattle.mx_segments.proofs.entries.entry_at.Goals as goal

pub returns-in-0-clause-none : goal.returns-in-0-clause-none
returns-in-0-clause-none c = (
  λ _. no_run c.args.words c.args.leaf.now c.args.chains.now.lists c.args.row c.requires.sound c.args.i c.word.result c.word.ensures
      c.in-0.is,
  λ _. refl,
)

pub returns-in_default-clause-entry : goal.returns-in_default-clause-entry
returns-in_default-clause-entry c =
    let lt : c.args.i < 64 * frames_in c.args.chains.now.lists c.args.row = omega (arith, c.if-i-len_at.false, c.len_at.ensures.len) in
    entry_read c.args.words c.args.leaf.now c.args.chains.now.lists c.args.row c.requires.sound c.args.i c.word.result lt c.word.ensures
    (omega (arith, c.in_default))

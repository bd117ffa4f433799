use Rattle.std.proofs.Common.{arith}
use Rattle.mx_segments.proofs.SoundLaws.{some_before, place_held, starts_rise, shown_read}
use Rattle.mx_segments.proofs.entries.shown_in.Goals as goal

pub overflow_sub-behind : goal.overflow_sub-behind
overflow_sub-behind c =
    omega (
      arith,
      c.runs_before-behind.ensures,
      some_before c.args.words c.args.leaf.now c.args.chains.now.lists c.args.row c.requires.sound
          c.args.at c.requires.word,
    )

pub overflow_sub-behind-2 : goal.overflow_sub-behind-2
overflow_sub-behind-2 c =
    omega (
      arith,
      c.runs_before-behind.ensures,
      some_before c.args.words c.args.leaf.now c.args.chains.now.lists c.args.row c.requires.sound
          c.args.at c.requires.word,
    )

pub word-stored-requires-clause-place : goal.word-stored-requires-clause-place
word-stored-requires-clause-place c =
    place_held c.args.words c.args.leaf.now c.args.chains.now.lists c.args.row c.requires.sound c.args.at c.runs_before-behind.result
    c.requires.word c.runs_before-behind.ensures

pub overflow_sub-result : goal.overflow_sub-result
overflow_sub-result c =
    omega (
      arith,
      c.start_at-first.ensures,
      c.start_at-next.ensures,
      starts_rise c.args.words c.args.leaf.now c.args.chains.now.lists
          c.args.row c.requires.sound c.args.at c.runs_before-behind.result c.requires.word c.runs_before-behind.ensures,
    )

pub returns : goal.returns
returns c =
    shown_read c.args.words c.args.leaf.now c.args.chains.now.lists c.args.row c.requires.sound c.args.at c.runs_before-behind.result
    c.start_at-first.result c.start_at-next.result c.word-stored.result c.requires.word c.runs_before-behind.ensures
    c.start_at-first.ensures c.start_at-next.ensures c.word-stored.ensures

use Rattle.std.proofs.Common.{◌∙◌, arith}
use Rattle.mx_segments.proofs.SoundLaws.{some_before, place_held, perm_read, starts_rise, span_read}
use Rattle.mx_segments.proofs.entries.run_in.Goals as goal

pub overflow_sub-behind : goal.overflow_sub-behind
overflow_sub-behind c =
    omega (
      arith,
      c.runs_before-behind.ensures,
      some_before c.args.words c.args.leaf.now c.args.chains.now.lists c.args.row c.requires.sound
          c.args.at c.requires.word,
    )

pub overflow_sub-behind-2 : goal.overflow_sub-behind-2
overflow_sub-behind-2 c =
    omega (
      arith,
      c.runs_before-behind.ensures,
      some_before c.args.words c.args.leaf.now c.args.chains.now.lists c.args.row c.requires.sound
          c.args.at c.requires.word,
    )

pub word-requires-clause-place : goal.word-requires-clause-place
word-requires-clause-place c =
    place_held c.args.words c.args.leaf.now c.args.chains.now.lists c.args.row c.requires.sound c.args.at c.runs_before-behind.result
    c.requires.word c.runs_before-behind.ensures

pub overflow_sub-result : goal.overflow_sub-result
overflow_sub-result c =
    omega (
      arith,
      c.start_at-first.ensures,
      c.start_at-next.ensures,
      starts_rise c.args.words c.args.leaf.now c.args.chains.now.lists
          c.args.row c.requires.sound c.args.at c.runs_before-behind.result c.requires.word c.runs_before-behind.ensures,
    )

pub returns : goal.returns
returns c =
    span_read c.args.words c.args.leaf.now c.args.chains.now.lists c.args.row c.requires.sound c.args.at c.runs_before-behind.result
    c.start_at-first.result c.start_at-next.result c.entry_perm-perm.result c.requires.word c.runs_before-behind.ensures
    c.start_at-first.ensures c.start_at-next.ensures
    (c.entry_perm-perm.ensures ∙ perm_read c.args.words c.args.leaf.now c.args.chains.now.lists c.args.row c.requires.sound c.args.at
    c.runs_before-behind.result c.word.result c.requires.word c.runs_before-behind.ensures c.word.ensures)

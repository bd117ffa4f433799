use Rattle.std.proofs.Common.{◌∙◌, arith}
use Rattle.mx_segments.proofs.SoundLaws.{some_before, place_held, perm_read}
use Rattle.mx_segments.proofs.entries.perm_in.Goals as goal

pub overflow_sub-behind : goal.overflow_sub-behind
overflow_sub-behind c =
    omega (
      arith,
      c.runs_before-behind.ensures,
      some_before c.args.words c.args.leaf.now c.args.chains.now.lists c.args.row c.requires.sound
          c.args.at c.requires.word,
    )

pub word-requires-clause-place : goal.word-requires-clause-place
word-requires-clause-place c =
    place_held c.args.words c.args.leaf.now c.args.chains.now.lists c.args.row c.requires.sound c.args.at c.runs_before-behind.result
    c.requires.word c.runs_before-behind.ensures

pub returns : goal.returns
returns c =
    c.entry_perm.ensures ∙ perm_read c.args.words c.args.leaf.now c.args.chains.now.lists c.args.row c.requires.sound c.args.at
    c.runs_before-behind.result c.word.result c.requires.word c.runs_before-behind.ensures c.word.ensures

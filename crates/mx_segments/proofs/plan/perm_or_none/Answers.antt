use Rattle.std.proofs.Common.{sym, arith}
use Rattle.std.proofs.lemmas.List.{get_or_past}
use Rattle.mx_segments.specs.Sound.{map_in}
use Rattle.mx_segments.proofs.plan.perm_or_none.Goals as goal

pub returns-else-at-words : goal.returns-else-at-words
returns-else-at-words c =
    let m = map_in c.args.words c.args.leaf.now c.args.chains.now.lists c.args.row in
    sym (get_or_past m c.args.at _ (omega (arith, c.requires.sound.length_is)))

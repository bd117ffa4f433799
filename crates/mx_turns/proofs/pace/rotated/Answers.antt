use Rattle.std.proofs.Common.{◌≡◌, arith}
use Rattle.mx_turns.proofs.Paces.{paces_in, paces_next, paces_again}
use Rattle.mx_turns.proofs.pace.rotated.Goals as goal

pub returns-then-turns-left : goal.returns-then-turns-left
returns-then-turns-left c = λ s core i. paces_in s core c.args.quantum c.args.last c.args.hart c.args.left c.args.turns c.if-turns-left.true
    i

pub returns-then-hart-last : goal.returns-then-hart-last
returns-then-hart-last c =
    let end : c.args.left ≡ c.args.turns = omega (arith, c.if-turns-left.false, c.requires.leaves) in
    λ s core i. paces_next s core c.args.quantum c.args.last c.args.hart c.args.left c.args.turns end c.if-hart-last.true i

pub returns-else-hart-last : goal.returns-else-hart-last
returns-else-hart-last c =
    let end : c.args.left ≡ c.args.turns = omega (arith, c.if-turns-left.false, c.requires.leaves) in
    λ s core i. paces_again s core c.args.quantum c.args.last c.args.hart c.args.left c.args.turns end c.if-hart-last.false i

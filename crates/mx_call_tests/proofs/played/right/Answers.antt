use Rattle.std.proofs.Common.{arith}
use Rattle.mx_call_tests.proofs.played.right.Goals as goal

pub perm-requires : goal.perm-requires
perm-requires g c =
    let modules = c.requires.ready.modules in
    let words = c.requires.ready.words in
    (omega arith, (record { first = c.requires.first; last = omega (arith, modules) }, omega (arith, words)))

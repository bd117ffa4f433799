use Rattle.std.proofs.Common.{ℕ, ◌<◌, length, IsSome, lit<, sym, subst, arith}
use Rattle.mx_words.specs.declared.tables.Kind.TheVariants as K
use Rattle.mx_trie.specs.Heap.{heap}
use Rattle.mx_trie.specs.Shape.{length-read_maps}
use Rattle.mx_table_tests.proofs.examples.in_root.Goals as goal

pub get-root-requires-clause-last : goal.get-root-requires-clause-last
get-root-requires-clause-last c =
    let t = c.args.tables.now in
    omega (arith, c.requires.one, length-read_maps K.Multilevel t.upper t.leaf t.spill t.words t.roots)

pub get-requires : goal.get-requires
get-requires c =
    let t = c.args.tables.now in
    let one = length-read_maps K.Multilevel t.upper t.leaf t.spill t.words t.roots in
    let first : 0 < length t.roots = omega (arith, c.requires.one, one) in
    let table = t.stands.tables.forest.tables 0 first in
    (lit< tt, (subst (λ (f : ℕ). IsSome (heap t.upper t.leaf t.spill 0 f)) (sym c.get-root.ensures) table.node.self, c.requires.place))

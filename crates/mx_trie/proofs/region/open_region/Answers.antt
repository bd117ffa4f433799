use Rattle.std.proofs.Common.{◌≡◌, ◌%◌, arith, subst}
use Rattle.std.proofs.lemmas.Bool.{ne_eqb}
use Rattle.mx_trie.specs.OnWay.{IsRegionFilled}
use Rattle.mx_trie.proofs.RegionTables.{region-filled}
use Rattle.mx_trie.proofs.region.open_region.Goals as goal

pub returns-clause-opened : goal.returns-clause-opened
returns-clause-opened c = λ kind leaf spill table.
    let closed = ne_eqb (c.args.entry % 4) 0 c.if-entry-eq0.false in
    let end : c.loop-part.part ≡ 8 = omega (arith, c.loop-part-test.false, c.loop-part.auto.part-end) in
    region-filled kind c.args.upper.now leaf spill c.loop-part.upper c.args.entry c.in-Some.frame closed
    (subst (λ n. IsRegionFilled c.args.upper.now c.loop-part.upper c.args.entry c.in-Some.frame n) end c.loop-part.invariant)

use Rattle.std.proofs.Common.{◌<◌, arith}
use Rattle.mx_pool.specs.Frames.{free_in}
use Rattle.mx_trie.specs.Laying.{cuts}
use Rattle.mx_trie.specs.OnWay.{cuts_left}
use Rattle.mx_trie.proofs.Cuts.{cuts-within, room-left}
use Rattle.mx_trie.proofs.DomainRegions.{regions-none, regions-more, regions-all, root-taken}
use Rattle.mx_trie.proofs.domain.change_regions.Goals as goal

pub loop-region-init : goal.loop-region-init
loop-region-init g c =
    regions-none g.L.LeafForm.kind g.met.L.LeafForm.trie c.args.upper.now c.args.leaf.now c.args.spill.now c.args.lay.now c.args.beside.now
    c.args.root
    _ c.requires.table (omega (arith, c.near_first-from.ensures, c.REACH.ensures, g.met.L.LeafForm.reach))

pub change_region-new-requires-clause-upper_room : goal.change_region-new-requires-clause-upper_room
change_region-new-requires-clause-upper_room g c =
    let below : c.loop-region.region < 16 = omega (arith, c.loop-region-test.true, c.near_last.ensures) in
    room-left (free_in c.args.upper.now) (free_in c.loop-region.upper) 2 (cuts_left 1048576 c.loop-region.region 16777216 c.args.lay.now)
    (cuts 1048576 c.loop-region.region c.args.lay.now)
    c.loop-region.invariant.upper_room c.requires.upper_room (cuts-within 1048576 c.loop-region.region 16777216 c.args.lay.now
    (omega (arith, below)))

pub change_region-new-requires-clause-leaf_room : goal.change_region-new-requires-clause-leaf_room
change_region-new-requires-clause-leaf_room g c =
    let below : c.loop-region.region < 16 = omega (arith, c.loop-region-test.true, c.near_last.ensures) in
    room-left (free_in c.args.leaf.now) (free_in c.loop-region.leaf) 2 (cuts_left 1048576 c.loop-region.region 16777216 c.args.lay.now)
    (cuts 1048576 c.loop-region.region c.args.lay.now)
    c.loop-region.invariant.leaf_room c.requires.leaf_room (cuts-within 1048576 c.loop-region.region 16777216 c.args.lay.now
    (omega (arith, below)))

pub change_region-new-requires-clause-spill_room : goal.change_region-new-requires-clause-spill_room
change_region-new-requires-clause-spill_room g c =
    let below : c.loop-region.region < 16 = omega (arith, c.loop-region-test.true, c.near_last.ensures) in
    room-left (free_in c.args.spill.now) (free_in c.loop-region.spill) 2 (cuts_left 1048576 c.loop-region.region 16777216 c.args.lay.now)
    (cuts 1048576 c.loop-region.region c.args.lay.now)
    c.loop-region.invariant.spill_room c.requires.spill_room (cuts-within 1048576 c.loop-region.region 16777216 c.args.lay.now
    (omega (arith, below)))

pub set_root_entry-requires-clause-root : goal.set_root_entry-requires-clause-root
set_root_entry-requires-clause-root g c =
    root-taken g.L.LeafForm.kind g.met.L.LeafForm.trie c.args.upper.now c.args.leaf.now c.args.spill.now c.args.lay.now c.args.beside.now
    c.args.root
    c.loop-region.upper c.loop-region.leaf c.loop-region.spill c.loop-region.region c.loop-region.invariant
    (omega (arith, c.loop-region-test.true, c.near_last.ensures)) c.root_entry-old.result c.root_entry-old.ensures
    c.change_region-new.new.upper c.change_region-new.new.leaf c.change_region-new.new.spill c.change_region-new.result
    c.change_region-new.ensures

pub loop-region-preserved : goal.loop-region-preserved
loop-region-preserved g c =
    regions-more g.L.LeafForm.kind g.met.L.LeafForm.trie c.args.upper.now c.args.leaf.now c.args.spill.now c.args.lay.now c.args.beside.now
    c.args.root
    c.loop-region.upper c.loop-region.leaf c.loop-region.spill c.loop-region.region c.loop-region.invariant
    (omega (arith, c.loop-region-test.true, c.near_last.ensures)) c.root_entry-old.result c.root_entry-old.ensures
    c.change_region-new.new.upper c.change_region-new.new.leaf c.change_region-new.new.spill c.set_root_entry.new.upper
    c.change_region-new.result c.change_region-new.ensures
    (record {
      taken = c.set_root_entry.ensures.taken;
      here = c.set_root_entry.ensures.here;
      others = c.set_root_entry.ensures.others;
      elsewhere = c.set_root_entry.ensures.elsewhere;
    })
    c.set_root_entry.ensures.free c.set_root_entry.ensures.total

pub returns : goal.returns
returns g c =
    regions-all g.L.LeafForm.kind g.met.L.LeafForm.trie c.args.upper.now c.args.leaf.now c.args.spill.now c.args.lay.now c.args.beside.now
    c.args.root
    c.loop-region.upper c.loop-region.leaf c.loop-region.spill c.loop-region.region c.loop-region.invariant
    (omega (arith, c.loop-region-test.false, c.near_last.ensures, c.REACH-2.ensures, g.met.L.LeafForm.reach))

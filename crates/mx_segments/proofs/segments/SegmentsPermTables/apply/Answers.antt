use Rattle.std.proofs.Common.{◌≡◌, List, sum_by, ap, arith}
use Rattle.mx_words.specs.declared.perm.Perm.{Perm}
use Rattle.mx_words.specs.Need.{segment_frames}
use Rattle.mx_table.specs.Change.{given, changed}
use Rattle.mx_segments.specs.Kept.{maps_in}
use Rattle.mx_segments.specs.Shape.{need_leaf}
use Rattle.mx_segments.proofs.KeptLaws.{changed_maps_in, fit_of}
use Rattle.mx_segments.proofs.segments.SegmentsPermTables.apply.Goals.{After-change_all}
use Rattle.mx_segments.proofs.segments.SegmentsPermTables.apply.Goals as goal

maps_changed : (c : After-change_all) → maps_in c.args.self.now.words c.change_all.new.leaf c.change_all.new.chains.lists
    ≡ changed c.args.change.now (maps_in c.args.self.now.words c.args.self.now.leaf c.args.self.now.chains.lists)
maps_changed c =
    let t = c.args.self.now in
    let change = c.args.change.now in
    changed_maps_in t.words t.leaf t.chains.lists c.change_all.new.leaf c.change_all.new.chains.lists change.first change.count
    (given change) c.change_all.ensures.rows c.change_all.ensures.changed

pub returns-clause-changed : goal.returns-clause-changed
returns-clause-changed c =
    let t = c.args.self.now in
    let change = c.args.change.now in
    changed_maps_in t.words t.leaf t.chains.lists c.change_all.new.leaf c.change_all.new.chains.lists change.first change.count
    (given change) c.change_all.ensures.rows c.change_all.ensures.changed

pub invariant_of-self : goal.invariant_of-self
invariant_of-self c =
    let t = c.args.self.now in
    let k = t.kept in
    let e = c.change_all.ensures in
    let need = need_leaf t.words c.change_all.new.leaf c.change_all.new.chains.lists e.sound in
    let maps : sum_by segment_frames (maps_in t.words c.change_all.new.leaf c.change_all.new.chains.lists)
    ≡ sum_by segment_frames (changed c.args.change.now (maps_in t.words t.leaf t.chains.lists)) =
    ap (λ (ms : List (List Perm)). sum_by segment_frames ms) (maps_changed c) in
    let fit = fit_of (sum_by segment_frames (changed c.args.change.now (maps_in t.words t.leaf t.chains.lists))) t.limit c.requires.fits in
    let some_rows = k.some_rows in
    let few_rows = k.few_rows in
    let room = k.room in
    record {
      kept = record {
        store = e.store;
        some_words = k.some_words;
        few_words = k.few_words;
        some_rows = omega (arith, e.rows);
        few_rows = omega (arith, e.rows);
        sound = e.sound;
        room = omega (arith, e.rows, e.total);
        memory_for = record { enough = (let m = k.memory_for.enough in omega (arith, m, e.total, e.same_room)) };
        limited = k.limited;
        fit = omega (arith, need, maps);
      };
    }

use Rattle.std.proofs.Common.{arith}
use Rattle.mx_words.specs.Newest.{laid}
use Rattle.mx_words.specs.Changes.{grant_of}
use Rattle.mx_segments.specs.Store.{frames_in, word_in}
use Rattle.mx_segments.specs.Entries.{IsChain}
use Rattle.mx_segments.specs.Sound.{map_in}
use Rattle.mx_segments.specs.Plan.{IsLaid}
use Rattle.mx_words.proofs.CountingLaws.{bit-le}
use Rattle.mx_segments.proofs.MoveLaws.{keeps_trans}
use Rattle.mx_segments.proofs.SoundLaws.{few_runs}
use Rattle.mx_segments.proofs.ChangeLaws.{laid_chain}
use Rattle.mx_segments.proofs.LaidLaws.{means, means_itself, laid_steps}
use Rattle.mx_segments.proofs.change.rewrite_row.Goals.{After-trim}
use Rattle.mx_segments.proofs.change.rewrite_row.Goals as goal

pub returns-clause-others : goal.returns-clause-others
returns-clause-others c =
    let r = c.args.row in
    let ls = c.make_room.new.chains.lists in
    keeps_trans c.args.leaf.now c.args.chains.now.lists c.make_room.new.leaf ls c.trim.new.leaf c.trim.new.chains.lists r
    c.make_room.ensures.others
    (keeps_trans c.make_room.new.leaf ls c.shift.new.leaf ls c.trim.new.leaf c.trim.new.chains.lists r c.shift.ensures.rewritten.others
    (keeps_trans c.shift.new.leaf ls c.put_if.new.leaf ls c.trim.new.leaf c.trim.new.chains.lists r c.put_if.ensures.rewritten.others
    (keeps_trans c.put_if.new.leaf ls c.put_if-2.new.leaf ls c.trim.new.leaf c.trim.new.chains.lists r c.put_if-2.ensures.rewritten.others
    (keeps_trans c.put_if-2.new.leaf ls c.clear.new.leaf ls c.trim.new.leaf c.trim.new.chains.lists r c.clear.ensures.rewritten.others
    c.trim.ensures.others))))

pub make_room-requires-clause-memory : goal.make_room-requires-clause-memory
make_room-requires-clause-memory c =
    record { enough = (let m = c.requires.memory.enough in omega (arith, m, c.plan_of-plan.ensures.most, c.total-total.ensures)) }

laid_down : (c : After-trim) → IsLaid (word_in c.args.leaf.now c.args.chains.now.lists c.args.row)
    (frames_in c.trim.new.chains.lists c.args.row)
    (word_in c.trim.new.leaf c.trim.new.chains.lists c.args.row) c.args.first c.args.count c.args.perm c.plan_of-plan.result
laid_down c =
    let r = c.args.row in
    let ls = c.make_room.new.chains.lists in
    let plan = c.plan_of-plan.result in
    let few = few_runs c.args.words c.args.leaf.now c.args.chains.now.lists r c.requires.sound in
    laid_steps (word_in c.args.leaf.now c.args.chains.now.lists r) (word_in c.make_room.new.leaf ls r) (word_in c.shift.new.leaf ls r)
    (word_in c.put_if.new.leaf ls r) (word_in c.put_if-2.new.leaf ls r) (word_in c.clear.new.leaf ls r)
    (word_in c.trim.new.leaf c.trim.new.chains.lists r)
    (frames_in c.args.chains.now.lists r) (frames_in ls r) (frames_in c.trim.new.chains.lists r) c.args.first c.args.count c.args.perm plan
    c.plan_of-plan.ensures.before c.plan_of-plan.ensures.behind (omega (arith, few, c.plan_of-plan.ensures.plan.all))
    (omega (arith, c.make_room.ensures.enough, c.total-total.ensures)) c.make_room.ensures.more
    (omega (arith, c.trim.ensures.frames, c.div_ceil.ensures, c.total-total.ensures))
    (λ k from lt. c.requires.sound.rest k (omega (arith, c.plan_of-plan.ensures.plan.all)) lt)
    c.make_room.ensures.words c.make_room.ensures.zeros
    c.shift.ensures.moved c.shift.ensures.same c.shift.ensures.rest
    c.put_if.ensures.here c.put_if.ensures.elsewhere
    c.second.result c.second.ensures
    c.put_if-2.ensures.here c.put_if-2.ensures.elsewhere
    c.total-total.result c.total-total.ensures
    c.clear.ensures.zeros c.clear.ensures.below c.clear.ensures.behind
    (λ j lt. c.trim.ensures.words j (omega (arith, c.trim.ensures.frames)))

chain : (c : After-trim) → IsChain c.args.words (frames_in c.trim.new.chains.lists c.args.row)
    (word_in c.trim.new.leaf c.trim.new.chains.lists c.args.row)
    (laid (grant_of c.args.first c.args.count c.args.perm) (map_in c.args.words c.args.leaf.now c.args.chains.now.lists c.args.row))
chain c =
    let m = map_in c.args.words c.args.leaf.now c.args.chains.now.lists c.args.row in
    laid_chain c.args.words m c.requires.sound.length_is c.args.first c.args.count c.args.perm c.requires.some c.requires.inside
    c.plan_of-plan.result c.plan_of-plan.ensures.plan
    (frames_in c.args.chains.now.lists c.args.row) (word_in c.args.leaf.now c.args.chains.now.lists c.args.row) c.requires.sound
    (frames_in c.trim.new.chains.lists c.args.row) (word_in c.trim.new.leaf c.trim.new.chains.lists c.args.row) (laid_down c)

pub returns-clause-sound : goal.returns-clause-sound
returns-clause-sound c = means_itself c.args.words (frames_in c.trim.new.chains.lists c.args.row)
    (word_in c.trim.new.leaf c.trim.new.chains.lists c.args.row)
    (laid (grant_of c.args.first c.args.count c.args.perm) (map_in c.args.words c.args.leaf.now c.args.chains.now.lists c.args.row))
    (chain c)

pub returns-clause-changed : goal.returns-clause-changed
returns-clause-changed c = means c.args.words (frames_in c.trim.new.chains.lists c.args.row)
    (word_in c.trim.new.leaf c.trim.new.chains.lists c.args.row)
    (laid (grant_of c.args.first c.args.count c.args.perm) (map_in c.args.words c.args.leaf.now c.args.chains.now.lists c.args.row))
    (chain c)

pub make_room-requires-clause-near : goal.make_room-requires-clause-near
make_room-requires-clause-near c = omega (arith, bit-le c.plan_of-plan.result.starts, bit-le c.plan_of-plan.result.ends)

pub returns-clause-free : goal.returns-clause-free
returns-clause-free c = omega arith

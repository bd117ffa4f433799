use Rattle.std.proofs.Common.{◌≡◌, ◌<◌, length, drop, arith}
use Rattle.std.proofs.lemmas.List.{take_all}
use Rattle.mx_commands.proofs.Parts.{came_part, came_end, came_failed, came_all, written_back}
use Rattle.mx_commands.proofs.reading.read_told.Goals as goal

pub returns-in-Ok-eq0-clause-found : goal.returns-in-Ok-eq0-clause-found
returns-in-Ok-eq0-clause-found g c =
    let part = rw (c.deref_mut.ensures.value, c.in-Ok-eq0.field-0-test) at c.in-Ok-eq0.ensures in
    came_end g.S.Store.gives c.args.name.now c.args.told c.args.store.now c.parts.store c.read_part.new.store c.parts.got
    c.parts.bytes.items c.read_part.new.bytes c.parts.invariant.full c.parts-test.true
    part c.parts.invariant.came

pub returns-in-Err-clause-found : goal.returns-in-Err-clause-found
returns-in-Err-clause-found g c =
    let part = rw c.deref_mut.ensures.value at c.in-Err.ensures in
    came_failed g.S.Store.gives c.args.name.now c.args.told c.args.store.now c.parts.store c.read_part.new.store c.parts.got
    c.parts.bytes.items c.read_part.new.bytes c.parts.invariant.full
    c.parts-test.true part c.parts.invariant.came

pub parts-preserved : goal.parts-preserved
parts-preserved g c =
    let now = c.read_part.new.bytes in
    let part = rw c.deref_mut.ensures.value at c.in-Ok-read_part.ensures in
    let full = c.parts.invariant.full in
    let same : length now ≡ c.args.told = omega (arith, c.read_part.auto.bytes, c.deref_mut.ensures.len, c.parts.bytes.ok.0, full) in
    let bound = part.bound in
    let more : 0 < c.in-Ok-read_part.count = omega (arith, c.in-Ok-read_part.count-test.1) in
    rw (written_back c.parts.bytes.len now (drop (length now) c.parts.bytes.items) (omega (arith, same, c.parts.bytes.ok.0, full)))
    (record {
      within = omega (arith, bound, full);
      full = same;
      came = came_part g.S.Store.gives c.args.name.now c.args.told c.args.store.now c.parts.store c.read_part.new.store c.parts.got
          c.in-Ok-read_part.count c.parts.bytes.items now full same c.parts-test.true more
          part c.parts.invariant.came;
    })

pub returns-clause-found : goal.returns-clause-found
returns-clause-found g c =
    let full = c.parts.invariant.full in
    let all = take_all c.parts.got c.parts.bytes.items (omega (arith, full, c.parts-test.false)) in
    came_all g.S.Store.gives c.args.name.now c.args.told c.args.store.now c.parts.store c.parts.bytes.items full
    (rw all at c.parts.invariant.came)

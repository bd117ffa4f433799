use Rattle.std.proofs.Common.{◌≡◌, sym, ◌∙◌, ◌++◌, take, arith}
use Rattle.std.proofs.lemmas.Grind.{common_steps}
use Rattle.mx_io.specs.Bytes.{BytesState}
use Rattle.mx_io.proofs.SinkLaws.{writes_refused, writes_taken}
use Rattle.mx_io.proofs.bytes.BytesSink.write.Goals as goal

pub returns-then-is_refused-clause-writes : goal.returns-then-is_refused-clause-writes
returns-then-is_refused-clause-writes c =
    let s : BytesState = record {
      written = c.self.inside.written.items;
      room = c.self.inside.room;
      faults = c.self.inside.faults;
      calls =
          c.self.inside.calls;
    } in
    rw (← c.self.view_is, c.next-listed.ensures.after, c.saturating_add-self-inside.ensures)
    (writes_refused s c.args.bytes.now c.self.invariant.counted
    (rw (← c.next-listed.ensures.fails) (sym c.is_refused.ensures ∙ c.if-is_refused.true)))

pub returns-clause-writes : goal.returns-clause-writes
returns-clause-writes c =
    let s : BytesState = record {
      written = c.self.inside.written.items;
      room = c.self.inside.room;
      faults = c.self.inside.faults;
      calls =
          c.self.inside.calls;
    } in
    let items : c.extend_from_slice.new.self.items ≡ c.self.inside.written.items ++ take c.min-taken.result c.args.bytes.now =
    grind (arith, common_steps) in
    rw (← c.self.view_is, c.next-listed.ensures.after, items, c.min-taken.ensures)
    (writes_taken s c.args.bytes.now c.self.invariant.counted c.next-listed.ensures.counted
    (rw (← c.next-listed.ensures.fails) (sym c.is_refused.ensures ∙ c.if-is_refused.false)))

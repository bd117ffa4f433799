use Rattle.std.proofs.Common.{◌≡◌, ◌+◌, length}
use Rattle.mx_snapshot.specs.Fields.{block_in}
use Rattle.mx_snapshot.specs.Rules.{behind}
use Rattle.mx_words.specs.FirstFit.{AreApart}
use Rattle.mx_resume.proofs.Lists.{Left}
use Rattle.mx_resume.proofs.areas.restore_blocks.Given as goal

abbrev pub invariant-live : goal.invariant-live
invariant-live l = record {
  area : l.heap.area ≡ l.fn.heap.area;
  long : length l.heap.blocks ≡ l.counter;
  end : l.heap.area.first + l.heap.area.count ≡ l.end;
  from : behind l.heap.area l.heap.blocks ≡ l.from;
  apart : AreApart l.heap.area.first l.from l.heap.blocks;
  left : Left (block_in l.fn.heap.area) l.bytes l.count l.fn.at l.counter l.heap.blocks l.at;
}

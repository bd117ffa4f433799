use Rattle.std.proofs.Common.{◌<◌, length, drop}
use Rattle.mx_tail.proofs.TailLaws.{Adding}
use Rattle.mx_tail.proofs.tail.Tail.put_each.Given as goal

abbrev pub invariant-loop-byte : goal.invariant-loop-byte
invariant-loop-byte g l = record {
  adding : Adding l.initial.self (g.C.Sink.state l.initial.sink) l.bytes l.self (g.C.Sink.state l.sink) (drop l.byte-index l.bytes);
  few : length l.self < 4096;
}

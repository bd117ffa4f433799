use Rattle.std.proofs.Common.{◌<◌, length, drop}
use Rattle.mx_tail.proofs.TailLaws.{Adding}
use Rattle.mx_tail.proofs.tail.Tail.add.Given as goal

abbrev pub invariant-loop-i : goal.invariant-loop-i
invariant-loop-i g l = record {
  adding : Adding l.initial.self (g.C.Sink.state l.initial.sink) l.bytes.bytes l.self (g.C.Sink.state l.sink) (drop l.i l.bytes.bytes);
  few : length l.self < 4096;
}

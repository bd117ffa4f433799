use Rattle.std.proofs.Common.{◌<◌}
use Rattle.mx_any.specs.Machines.{meaning}
use Rattle.mx_audit.specs.AlikeWords.{AllTell, Tells, some_exposes}
use Rattle.mx_audit.proofs.alike.alike_at.Given as goal

abbrev pub invariant-loop-i : goal.invariant-loop-i
invariant-loop-i l =
    let f = meaning l.machine in
    record {
      known : AllTell f l.live l.word l.known;
      behind : l.word < l.all.end;
      tells : Tells f (some_exposes f l.live l.i) l.word l.all;
    }

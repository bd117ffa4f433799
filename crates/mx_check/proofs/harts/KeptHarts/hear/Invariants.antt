use Rattle.std.proofs.Common.{◌≡◌, length}
use Rattle.mx_check.specs.Calls.{hears_first}
use Rattle.mx_check.proofs.harts.KeptHarts.hear.Given as goal

abbrev pub invariant-loop-i : goal.invariant-loop-i
invariant-loop-i g l = record {
  heard : l.self ≡ hears_first l.hart l.i l.fn.self;
  same_length : length l.self ≡ length l.fn.self;
}

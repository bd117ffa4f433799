use Rattle.std.proofs.Common.{◌≡◌}
use Rattle.mx_table.specs.Rows.{end_at, first_spans}
use Rattle.mx_segments.specs.Tally.{IsTally}
use Rattle.mx_segments.proofs.tally.frames_of.Given as goal

abbrev pub invariant-loop-n : goal.invariant-loop-n
invariant-loop-n l = record {
  tally : IsTally l.words (first_spans l.words l.row l.n) l.tally;
  end : l.tally.end ≡ end_at l.row l.n;
}

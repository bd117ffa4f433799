use Rattle.std.proofs.Common.{◌≡◌, take, map}
use Rattle.mx_words.specs.Need.{need}
use Rattle.mx_table.specs.Tables.{row_map}
use Rattle.mx_plain.specs.Sums.{IsFew}
use Rattle.mx_plain.proofs.needs.need_of_rows.Given as goal

abbrev pub invariant-loop-spans : goal.invariant-loop-spans
invariant-loop-spans l = (l.needed ≡ need l.kind (take l.spans-index (map (row_map l.words) l.rows))) × IsFew l.spans-index l.needed

use Rattle.std.proofs.Common.{◌≡◌}
use Rattle.std.specs.List.{enumerate_from}
use Rattle.mx_boot.specs.Seen.{seen}
use Rattle.mx_boot.specs.Faults.{flags_rows}
use Rattle.mx_boot.proofs.Rows.{first_from}
use Rattle.mx_boot.proofs.files.flags_fault.Given as goal

abbrev pub invariant-loop-k : goal.invariant-loop-k
invariant-loop-k l = first_from (flags_rows (seen l.home)) l.k (enumerate_from 0 l.segments)
    ≡ first_from (flags_rows (seen l.home)) 0 (enumerate_from 0 l.segments)

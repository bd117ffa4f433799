use Rattle.std.proofs.Common.{◌≡◌, List, length}
use Rattle.mx_snapshot.specs.Fields.{hart_in}
use Rattle.mx_snapshot.specs.Stored.{StoredHart}
use Rattle.mx_resume.specs.Parts.{harts_in_code, head_seen}
use Rattle.mx_resume.proofs.Lists.{Left}
use Rattle.mx_resume.proofs.harts.read_harts.Given as goal

abbrev pub invariant-harts : goal.invariant-harts
invariant-harts l = (before : List StoredHart) × (length before ≡ l.number) × (l.harts ≡ harts_in_code l.head.words l.heaps before)
    × Left (hart_in (head_seen l.head)) l.bytes l.head.harts l.fn.at l.number before l.at

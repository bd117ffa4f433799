-- Readers one behind another: the refusal of the first is that of both.
use Rattle.std.proofs.Common.{◌≡◌, ℕ, List, sym, ap, subst}
use Rattle.mx_snapshot.specs.Reader.{Taken, Reader, goes_on}
use Rattle.mx_resume.specs.declared.refused.SnapshotRefused.{SnapshotRefused}
use Rattle.mx_resume.specs.declared.refused.SnapshotRefused.TheVariants.{Fault, TablesFull, NoMemory}
use Rattle.mx_resume.specs.Taking.{Misses}

pub misses_first : {A B : Type 0} (next : A → Reader B) (bytes : List ℕ) (taken : Taken A) (refused : SnapshotRefused)
    → Misses taken refused → Misses (goes_on next bytes taken) refused
misses_first next bytes taken (Fault at number) m = ap (goes_on next bytes) m
misses_first next bytes taken (TablesFull need limit) m = m
misses_first next bytes taken NoMemory m = tt

-- memory that ended tells nothing
pub misses_memory : {A : Type 0} (taken : Taken A) (refused : SnapshotRefused) → refused ≡ NoMemory → Misses taken refused
misses_memory taken refused e = subst (Misses taken) (sym e) tt

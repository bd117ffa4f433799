-- The numbers with which the program ends.
use Rattle.std.specs.Prelude.{ℕ}
use Rattle.mx_commands.specs.declared.status.Status.{Status}
use Rattle.mx_commands.specs.declared.status.Status.TheVariants.{Ran, Usage, Refused, TablesFull, StoreFault, ShortFile, NoFile}
use Rattle.mx_commands.specs.declared.status.Status.TheVariants.{ConsoleFault, ReportFault, DumpFault, WantOfMemory, AsmFault, Unlike}
use Rattle.mx_commands.specs.declared.status.Status.TheVariants.{NoDomain, SecondRefused, SecondTablesFull, SnapshotFault}

-- the number of a status
abbrev pub number_of : Status → ℕ
number_of Ran = 0
number_of Usage = 2
number_of (Refused fault) = 3
number_of (TablesFull need limit) = 4
number_of StoreFault = 5
number_of (ShortFile role told got) = 5
number_of (NoFile role) = 6
number_of ConsoleFault = 7
number_of ReportFault = 8
number_of DumpFault = 9
number_of WantOfMemory = 10
number_of (AsmFault line number) = 11
number_of (Unlike key) = 12
number_of NoDomain = 13
number_of (SecondRefused fault) = 3
number_of (SecondTablesFull need limit) = 4
number_of (SnapshotFault at number) = 14

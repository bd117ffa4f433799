-- The lines of refusals, each a whole report.
-- The rules: docs/COMMANDS.md, "Statuses".
use Rattle.std.specs.Prelude.{ℕ, List, [], ◌∷◌, decimal, codes, Option, Some, None}
use Rattle.std.specs.List.{concat}
use Rattle.mx_io.specs.Piece.{shown_name}
use Rattle.mx_words.specs.declared.tables.Need.{Need}
use Rattle.mx_manifest.specs.declared.fault.BootFault.{BootFault}
use Rattle.mx_manifest.specs.declared.fault.Key.{Key}
use Rattle.mx_manifest.specs.declared.fault.Part.{Part}
use Rattle.mx_manifest.specs.declared.fault.Part.TheVariants as part
use Rattle.mx_manifest.specs.Keys.{key_text}
use Rattle.mx_commands.specs.declared.status.Status.{Status}
use Rattle.mx_commands.specs.declared.status.Status.TheVariants.{Ran, Usage, Refused, TablesFull, StoreFault, ShortFile, NoFile}
use Rattle.mx_commands.specs.declared.status.Status.TheVariants.{ConsoleFault, ReportFault, DumpFault, WantOfMemory, AsmFault, Unlike}
use Rattle.mx_commands.specs.declared.status.Status.TheVariants.{NoDomain, SecondRefused, SecondTablesFull, SnapshotFault}

-- the text of a table of the manifest, or of the schedule
unfoldable pub place_text : Part → ℕ → List ℕ
place_text part.Manifest index = concat (codes "manifest" ∷ [])
place_text part.Module index = concat (codes "module." ∷ decimal index ∷ [])
place_text part.Hart index = concat (codes "hart." ∷ decimal index ∷ [])
place_text part.Schedule index = concat (codes "schedule" ∷ [])

-- the number of a fault
unfoldable pub fault_text : ℕ → List ℕ
fault_text number = concat (codes "refused fault=" ∷ decimal number ∷ codes " at=" ∷ [])

-- the key at which it stands, and what it adds
unfoldable pub detail_text : List ℕ → ℕ → List ℕ
detail_text name detail = concat (codes " key=" ∷ name ∷ codes " detail=" ∷ decimal detail
    ∷ codes "\n" ∷ [])

-- a boot is refused
unfoldable pub refused_line : BootFault → List ℕ
refused_line fault =
    concat (fault_text fault.number ∷ place_text fault.place.part fault.place.index
    ∷ detail_text (key_text fault.place.key) fault.detail ∷ [])

-- the words have no meaning
unfoldable pub usage_line : List ℕ
usage_line = codes "mondrix: these words have no meaning\n"

-- the store failed
unfoldable pub store_fault_line : List ℕ
store_fault_line = codes "store fault\n"

-- a file ended early
unfoldable pub short_file_line : List ℕ → ℕ → ℕ → List ℕ
short_file_line name told got =
    concat (codes "short file " ∷ shown_name name ∷ codes " told=" ∷ decimal told ∷ codes " got="
    ∷ decimal got ∷ codes "\n" ∷ [])

-- a file is absent
unfoldable pub no_file_line : List ℕ → List ℕ
no_file_line name = concat (codes "no file " ∷ shown_name name ∷ codes "\n" ∷ [])

-- the permission tables of the boot need more than the limit
unfoldable pub tables_full_line : Need → Need → List ℕ
tables_full_line need limit =
    concat (codes "tables full upper=" ∷ decimal need.upper ∷ codes "/" ∷ decimal limit.upper
    ∷ codes " leaf=" ∷ decimal need.leaf
    ∷ codes "/" ∷ decimal limit.leaf ∷ codes " spill=" ∷ decimal need.spill ∷ codes "/"
    ∷ decimal limit.spill ∷ codes "\n" ∷ [])

-- a source has this first fault
unfoldable pub asm_fault_line : ℕ → ℕ → List ℕ
asm_fault_line line number =
    concat (codes "asm line=" ∷ decimal line ∷ codes " fault=" ∷ decimal number ∷ codes "\n" ∷ [])

-- two plans to be compared differ in a key
unfoldable pub unlike_line : Key → List ℕ
unlike_line key = concat (codes "twin unlike key=" ∷ key_text key ∷ codes "\n" ∷ [])

-- the domain to be compared is no module's
unfoldable pub no_domain_line : List ℕ
no_domain_line = codes "twin no domain\n"

-- a snapshot has this first fault, at this place
unfoldable pub snapshot_fault_line : ℕ → ℕ → List ℕ
snapshot_fault_line at number =
    concat (codes "snapshot fault=" ∷ decimal number ∷ codes " at=" ∷ decimal at ∷ codes "\n" ∷ [])

-- the line of a status, where it has one
abbrev pub line_of : List ℕ → Status → Option (List ℕ)
line_of name Usage = Some usage_line
line_of name (Refused fault) = Some (refused_line fault)
line_of name (TablesFull need limit) = Some (tables_full_line need limit)
line_of name StoreFault = Some store_fault_line
line_of name (ShortFile role told got) = Some (short_file_line name told got)
line_of name (NoFile role) = Some (no_file_line name)
line_of name (AsmFault line number) = Some (asm_fault_line line number)
line_of name Ran = None
line_of name ConsoleFault = None
line_of name ReportFault = None
line_of name DumpFault = None
line_of name WantOfMemory = None
line_of name (Unlike key) = Some (unlike_line key)
line_of name NoDomain = Some no_domain_line
line_of name (SecondRefused fault) = Some (refused_line fault)
line_of name (SecondTablesFull need limit) = Some (tables_full_line need limit)
line_of name (SnapshotFault at number) = Some (snapshot_fault_line at number)

-- The lines of a run's report, each as docs/COMMANDS.md, "The report", shows it.
use Rattle.std.specs.Prelude.{ℕ, Bool, true, false, ◌==◌, if◌then◌else◌, List, [], ◌∷◌, length, decimal, codes, flat_map}
use Rattle.std.specs.List.{concat}
use Rattle.mx_words.specs.declared.perm.Perm.{Perm}
use Rattle.mx_words.specs.declared.perm.Perm.TheVariants as P
use Rattle.mx_words.specs.declared.tables.Kind.{Kind}
use Rattle.mx_words.specs.declared.tables.Kind.TheVariants as K
use Rattle.mx_words.specs.declared.tables.Level.{Level}
use Rattle.mx_words.specs.declared.tables.Level.TheVariants as L
use Rattle.mx_words.specs.declared.tables.Need.{Need}
use Rattle.mx_words.specs.declared.tables.Shown.{Shown}
use Rattle.mx_words.specs.Caches.{Cache}
use Rattle.mx_words.specs.Ranges.{address_of}
use Rattle.mx_io.specs.Piece.{hex_digits, hex_number}
use Rattle.mx_model.specs.declared.values.Fault.{Fault}
use Rattle.mx_model.specs.declared.values.Note.{Note}
use Rattle.mx_model.specs.declared.values.Note.TheVariants as N
use Rattle.mx_model.specs.State.{Hart}
use Rattle.mx_machine.specs.declared.views.HartStatus.{HartStatus}
use Rattle.mx_machine.specs.declared.views.HartStatus.TheVariants as V
use Rattle.mx_machine.specs.declared.views.HartView.{HartView}
use Rattle.mx_machine.specs.Readings.{status_told}
use Rattle.mx_report.specs.declared.lines.EndState.{EndState}
use Rattle.mx_report.specs.declared.lines.EndState.TheVariants as E

-- a fault at a step
unfoldable pub fault_line : ℕ → ℕ → ℕ → ℕ → Fault → List ℕ
fault_line step hart domain pc fault =
    concat (codes "fault step=" ∷ decimal step ∷ codes " hart=" ∷ decimal hart ∷ codes " domain="
    ∷ decimal domain ∷ codes " pc=" ∷ hex_number pc ∷ codes " cause=" ∷ decimal fault.cause
    ∷ codes " value=" ∷ hex_number fault.value ∷ codes "\n" ∷ [])

-- an exit at a step
unfoldable pub exit_line : ℕ → ℕ → ℕ → ℕ → List ℕ
exit_line step hart domain code =
    concat (codes "exit step=" ∷ decimal step ∷ codes " hart=" ∷ decimal hart ∷ codes " domain="
    ∷ decimal domain ∷ codes " code=" ∷ decimal code ∷ codes "\n" ∷ [])

-- the line of a note
abbrev pub note_line : Note → List ℕ
note_line (N.Fault step hart domain pc fault) = fault_line step hart domain pc fault
note_line (N.Exit step hart domain code) = exit_line step hart domain code

-- why a run ended: all harts are halted, the steps asked are made, or the schedule is at its end
abbrev pub end_name : EndState → List ℕ
end_name E.Halted = codes "halted"
end_name E.Steps = codes "steps"
end_name E.Schedule = codes "schedule"

-- the end of a run: how many turns were made, and why it ended
unfoldable pub end_line : ℕ → EndState → List ℕ
end_line steps state =
    concat (codes "end steps=" ∷ decimal steps ∷ codes " state=" ∷ end_name state ∷ codes "\n" ∷ [])

abbrev pub status_name : HartStatus → List ℕ
status_name V.Running = codes "running"
status_name V.Waiting = codes "waiting"
status_name V.Halted = codes "halted"

-- hart h: its status, domain, pc and number of frames
unfoldable pub hart_text : ℕ → HartStatus → ℕ → ℕ → ℕ → List ℕ
hart_text h status domain pc frames =
    concat (codes "hart " ∷ decimal h ∷ codes " status=" ∷ status_name status ∷ codes " domain="
    ∷ decimal domain ∷ codes " pc=" ∷ hex_number pc ∷ codes " frames=" ∷ decimal frames
    ∷ codes "\n" ∷ [])

-- one register
unfoldable pub register_text : ℕ → List ℕ
register_text value = concat (codes " " ∷ hex_digits value ∷ [])

-- hart h's registers, x0 first
abbrev pub registers_head : ℕ → List ℕ
registers_head h = concat (codes "regs " ∷ decimal h ∷ [])

unfoldable pub registers_line : ℕ → List ℕ → List ℕ
registers_line h regs = concat (registers_head h ∷ flat_map register_text regs ∷ codes "\n" ∷ [])

-- both lines of a hart, by what is told of it
unfoldable pub view_lines : ℕ → HartView → List ℕ
view_lines h v = concat (hart_text h v.status v.domain v.pc v.frames ∷ registers_line h v.regs ∷ [])

-- what is told of a hart
abbrev pub view_of : Hart → HartView
view_of hart =
    record {
      status = status_told hart.status;
      domain = hart.domain;
      pc = hart.pc;
      frames = length hart.frames;
      regs = hart.regs;
    }

-- both lines of a hart
abbrev pub hart_lines : ℕ → Hart → List ℕ
hart_lines h hart = view_lines h (view_of hart)

-- how the line of a domain ends, where it is dead and where it isn't
abbrev pub dead_text : Bool → List ℕ
dead_text true = codes " dead\n"
dead_text false = codes "\n"

-- a domain and its module's name
unfoldable pub domain_head : ℕ → List ℕ → Bool → List ℕ
domain_head domain name dead =
    concat (codes "domain " ∷ decimal domain ∷ codes " " ∷ name ∷ dead_text dead ∷ [])

-- a permission's name; none has no line
abbrev pub permission_name : Perm → List ℕ
permission_name P.None = codes "-"
permission_name P.Read = codes "r"
permission_name P.ReadWrite = codes "rw"
permission_name P.ExecuteRead = codes "rx"

-- a word's address
abbrev pub word_text : ℕ → List ℕ
word_text word = hex_number (address_of word)

-- words from `first` up to `behind` with one permission: the first address, the address after them, and the permission
unfoldable pub map_line : ℕ → ℕ → ℕ → Perm → List ℕ
map_line domain first behind perm =
    concat (codes "map " ∷ decimal domain ∷ codes " " ∷ word_text first ∷ codes " "
    ∷ word_text behind ∷ codes " " ∷ permission_name perm ∷ codes "\n" ∷ [])

-- the line of a maximal run of one permission; one of none has no line
abbrev pub map_text : ℕ → ℕ → ℕ → Perm → List ℕ
map_text domain first behind P.None = []
map_text domain first behind P.Read = map_line domain first behind P.Read
map_text domain first behind P.ReadWrite = map_line domain first behind P.ReadWrite
map_text domain first behind P.ExecuteRead = map_line domain first behind P.ExecuteRead

-- words from `first` up to `behind` with one owner
unfoldable pub owner_line : ℕ → ℕ → ℕ → List ℕ
owner_line first behind owner =
    concat (codes "owner " ∷ word_text first ∷ codes " " ∷ word_text behind ∷ codes " "
    ∷ decimal owner ∷ codes "\n" ∷ [])

-- the line of a maximal run of one owner; one of the supervisor, 0, has no line
abbrev pub owner_text : ℕ → ℕ → ℕ → List ℕ
owner_text first behind owner = if owner == 0 then [] else owner_line first behind owner

abbrev pub kind_name : Kind → List ℕ
kind_name K.Segments = codes "segments"
kind_name K.Multilevel = codes "multilevel"
kind_name K.Packed = codes "packed"

-- what the tables of a kind take, and the limit of each count
unfoldable pub tables_line : Kind → Need → Need → List ℕ
tables_line kind used limit =
    concat (codes "tables kind=" ∷ kind_name kind ∷ codes " upper=" ∷ decimal used.upper ∷ codes "/"
    ∷ decimal limit.upper ∷ codes " leaf=" ∷ decimal used.leaf ∷ codes "/" ∷ decimal limit.leaf
    ∷ codes " spill=" ∷ decimal used.spill ∷ codes "/" ∷ decimal limit.spill ∷ codes "\n" ∷ [])

abbrev pub level_name : Level → List ℕ
level_name L.Segment = codes "segment"
level_name L.Root = codes "root"
level_name L.Mid = codes "mid"
level_name L.Leaf = codes "leaf"
level_name L.Spill = codes "spill"

-- a stored item of a domain's map: its level, the address of its first word, and its bits
unfoldable pub shown_line : ℕ → Shown → List ℕ
shown_line domain item =
    concat (codes "shown " ∷ decimal domain ∷ codes " " ∷ level_name item.level ∷ codes " "
    ∷ word_text item.first ∷ codes " " ∷ hex_number item.stored ∷ codes "\n" ∷ [])

-- how many checks of hart h its places answered, how many its lookaside buffer, and how many the tables
unfoldable pub counts_text : ℕ → ℕ → ℕ → ℕ → List ℕ
counts_text h sidecar lookaside walks =
    concat (codes "counts " ∷ decimal h ∷ codes " sidecar=" ∷ decimal sidecar ∷ codes " lookaside="
    ∷ decimal lookaside ∷ codes " walks=" ∷ decimal walks ∷ codes "\n" ∷ [])

abbrev pub counts_line : ℕ → Cache → List ℕ
counts_line h cache = counts_text h cache.sidecar cache.lookaside cache.walks

-- The documents of a debugger's session: what is told of the harts, the images and the memory, and why a run stops.
use Rattle.std.specs.Prelude.{ℕ, ◌+◌, ◌-◌, ◌*◌, ◌<◌, Bool, true, false, ◌==◌, ◌||◌, nat_lt, List, [], ◌∷◌, ◌++◌, length, drop, min}
use Rattle.std.specs.Prelude.{flat_map, codes, decimal, slice_index_or, Option, Some, None, Result, Ok, Err, if◌then◌else◌}
use Rattle.std.specs.Prelude.{map as list_map}
use Rattle.std.specs.List.{concat, range_with_len}
use Rattle.mx_words.specs.declared.perm.Perm.{Perm}
use Rattle.mx_words.specs.declared.perm.Perm.TheVariants as P
use Rattle.mx_words.specs.Ranges.{address_of, word_of}
use Rattle.mx_io.specs.Piece.{hex_number}
use Rattle.mx_elf.specs.declared.image.Image.{Image}
use Rattle.mx_elf.specs.declared.image.ImageFault.{ImageFault}
use Rattle.mx_elf.specs.declared.segment.Seg.{Seg}
use Rattle.mx_elf.specs.Image.{image_of}
use Rattle.mx_manifest.specs.declared.parts.HartPlan.{HartPlan}
use Rattle.mx_manifest.specs.declared.parts.ModulePlan.{ModulePlan}
use Rattle.mx_manifest.specs.Plan.{Said}
use Rattle.mx_model.specs.declared.values.Fault.{Fault}
use Rattle.mx_model.specs.declared.values.Frame.{Frame}
use Rattle.mx_model.specs.declared.values.Gate.{Gate}
use Rattle.mx_model.specs.declared.values.Note.{Note}
use Rattle.mx_model.specs.declared.values.Note.TheVariants as N
use Rattle.mx_model.specs.Reads.{flat_reads}
use Rattle.mx_model.specs.State.{Core, Flat, Hart, Status, Running, Waiting, Halted, hart_at}
use Rattle.mx_machine.specs.declared.views.HartStatus.{HartStatus}
use Rattle.mx_machine.specs.declared.views.HartStatus.TheVariants as V
use Rattle.mx_report.specs.Lines.{note_line, permission_name}
use Rattle.mx_debug_texts.specs.declared.document.Document.{Document}
use Rattle.mx_debug_texts.specs.declared.document.Document.TheVariants as D
use Rattle.mx_debug_texts.specs.declared.named.Named.{Named}
use Rattle.mx_debug_texts.specs.Pieces.{short_digits, xml_text}

-- what is known of a boot beside its machine: the plan, and the files of the modules' images
pub record Known : Type 0 where
  pub plan : Said
  pub images : List (List ℕ)

abbrev pub known_by : Named → Known
known_by named = record { plan = named.plan.now; images = named.images.now }

-- the name of a domain's module
abbrev pub name_of : Said → ℕ → List ℕ
name_of plan d = slice_index_or (list_map (λ (m : ModulePlan). m.name) plan.modules) (d - 1) []

-- the path of a hart through gates: each caller, the outermost first, with an arrow behind it, and then the domain where it is
abbrev pub path_text : Said → List ℕ → Hart → List ℕ
path_text plan arrow hart =
    flat_map (λ (f : Frame). name_of plan f.caller ++ arrow) hart.frames ++ name_of plan hart.domain

-- its status, and whether the next turn of the run is its own
abbrev pub status_text : Status → Bool → List ℕ
status_text Running false = codes ", running"
status_text Running true = codes ", running, next"
status_text (Waiting call heard) false = codes ", waiting"
status_text (Waiting call heard) true = codes ", waiting, next"
status_text (Halted None) next = codes ", halted by a fault"
status_text (Halted (Some code)) next = concat (codes ", halted by exit, code " ∷ decimal code ∷ [])

-- the same of a hart that no exit has ended, by what is told of its status
abbrev pub unended_text : HartStatus → Bool → List ℕ
unended_text V.Running false = codes ", running"
unended_text V.Running true = codes ", running, next"
unended_text V.Waiting false = codes ", waiting"
unended_text V.Waiting true = codes ", waiting, next"
unended_text V.Halted next = codes ", halted by a fault"

abbrev pub is_next : Option ℕ → ℕ → Bool
is_next None h = false
is_next (Some n) h = n == h

-- what is told of a hart
abbrev pub hart_text : Said → List ℕ → Core → Option ℕ → ℕ → List ℕ
hart_text plan arrow c next h =
    path_text plan arrow (hart_at c h) ++ status_text (hart_at c h).status (is_next next h)

-- the threads: one for each hart
abbrev pub thread_head : ℕ → List ℕ
thread_head h =
    concat (codes "<thread id=\"p1." ∷ short_digits (h + 1) ∷ codes "\" name=\"hart " ∷ decimal h ∷ codes "\">" ∷ [])

abbrev pub thread_text : Said → Core → Option ℕ → ℕ → List ℕ
thread_text plan c next h = (thread_head h ++ hart_text plan (codes " &gt; ") c next h) ++ codes "</thread>"

abbrev pub threads_text : Said → Core → Option ℕ → List ℕ
threads_text plan c next =
    (codes "<threads>" ++ flat_map (thread_text plan c next) (range_with_len 0 (length c.harts))) ++ codes "</threads>"

-- the lowest address of segments
abbrev pub lowest_from : ℕ → List Seg → ℕ
lowest_from a [] = a
lowest_from a (s ∷ more) = lowest_from (min a s.address) more

abbrev pub lowest_of : List Seg → ℕ
lowest_of [] = 0
lowest_of (s ∷ more) = lowest_from s.address more

abbrev pub lowest_in : Result Image ImageFault → ℕ
lowest_in (Ok image) = lowest_of image.segments
lowest_in (Err fault) = 0

-- the domain of the first hart
abbrev pub first_domain : Said → ℕ
first_domain plan = slice_index_or (list_map (λ (h : HartPlan). h.module) plan.harts) 0 0

-- the name of the image of the module at a place, and what is told of it: a library, but for the first hart's
abbrev pub file_at : Said → ℕ → Option (List ℕ)
file_at plan i = slice_index_or (list_map (λ (m : ModulePlan). m.image) plan.modules) i None

abbrev pub library_at : List ℕ → ℕ → List ℕ
library_at name lowest =
    concat (codes "<library name=\"" ∷ xml_text name ∷ codes "\"><segment address=\"0x" ∷ short_digits lowest
    ∷ codes "\"/></library>" ∷ [])

abbrev pub library_named : Option (List ℕ) → ℕ → List ℕ
library_named None lowest = []
library_named (Some name) lowest = library_at name lowest

abbrev pub library_text : Known → ℕ → List ℕ
library_text k i =
    if i + 1 == first_domain k.plan then []
    else library_named (file_at k.plan i) (lowest_in (image_of (slice_index_or k.images i [])))

abbrev pub libraries_text : Known → List ℕ
libraries_text k =
    (codes "<library-list>" ++ flat_map (library_text k) (range_with_len 0 (length k.plan.modules))) ++ codes "</library-list>"

-- the name of the first hart's image, or nothing where its module has none
abbrev pub file_named : Option (List ℕ) → List ℕ
file_named None = []
file_named (Some name) = name

abbrev pub file_text : Said → List ℕ
file_text plan = file_named (file_at plan (first_domain plan - 1))

-- the regions of memory: one, RAM
abbrev pub memory_text : ℕ → List ℕ
memory_text words =
    concat (codes "<memory-map><memory type=\"ram\" start=\"0x80000000\" length=\"0x" ∷ short_digits (4 * words)
    ∷ codes "\"/></memory-map>" ∷ [])

-- who may do what at a word: its owner, the domains with a right, and the gates there
abbrev pub owner_text : Said → ℕ → List ℕ
owner_text plan d = if d == 0 then codes "nobody" else name_of plan d

abbrev pub is_none : Perm → Bool
is_none P.None = true
is_none P.Read = false
is_none P.ReadWrite = false
is_none P.ExecuteRead = false

abbrev pub right_of : Said → ℕ → Perm → List ℕ
right_of plan d perm = concat (name_of plan d ∷ codes " " ∷ permission_name perm ∷ [])

abbrev pub right_text : Said → ℕ → Perm → List ℕ
right_text plan d perm = if is_none perm then [] else codes ", " ++ right_of plan d perm

abbrev pub rights_at : Flat → Said → ℕ → List ℕ
rights_at f plan w =
    flat_map (λ d. right_text plan d ((flat_reads f).perm d w)) (range_with_len 1 (length f.core.modules))

-- a further right, with a comma before it unless it is the first
abbrev pub comma : Bool → List ℕ
comma true = codes ", "
comma false = []

abbrev pub next_right : Said → ℕ → Perm → Bool → List ℕ
next_right plan d perm some = if is_none perm then [] else comma some ++ right_of plan d perm

-- rights without the comma before the first
abbrev pub rights_text : List ℕ → List ℕ
rights_text rights = if nat_lt 0 (length rights) then drop 2 rights else codes "nobody has a right"

abbrev pub gate_here : Said → Gate → List ℕ
gate_here plan gate =
    if gate.domain == gate.target
    then concat (codes "; return gate of " ∷ name_of plan gate.domain ∷ [])
    else concat (codes "; gate of " ∷ name_of plan gate.target ∷ codes " for " ∷ name_of plan gate.domain ∷ [])

abbrev pub gate_text : Said → ℕ → Gate → List ℕ
gate_text plan w gate = if gate.word == w then gate_here plan gate else []

abbrev pub owned_text : Said → ℕ → ℕ → List ℕ
owned_text plan w owner =
    concat (hex_number (address_of w) ∷ codes " is owned by " ∷ owner_text plan owner ∷ codes "; " ∷ [])

abbrev pub word_text : Flat → Said → ℕ → List ℕ
word_text f plan w =
    (owned_text plan w ((flat_reads f).owner w) ++ rights_text (rights_at f plan w))
    ++ flat_map (gate_text plan w) f.core.gates

-- the same of an address
abbrev pub who_by : Flat → Said → ℕ → Option ℕ → List ℕ
who_by f plan a None = concat (hex_number a ∷ codes " is outside RAM" ∷ [])
who_by f plan a (Some w) = word_text f plan w

abbrev pub who_text : Flat → Said → ℕ → List ℕ
who_text f plan a = who_by f plan a (word_of a f.core.size)

-- what a fault is, by its cause
abbrev pub cause_text : ℕ → List ℕ
cause_text cause =
    if cause == 0 then codes "jump misaligned"
    else if cause == 1 then codes "fetch denied"
    else if cause == 2 then codes "illegal instruction"
    else if cause == 3 then codes "ebreak"
    else if cause == 4 then codes "load misaligned"
    else if cause == 5 then codes "load denied"
    else if cause == 6 then codes "store misaligned"
    else if cause == 7 then codes "store denied"
    else if cause == 16 then codes "frames full"
    else if cause == 17 then codes "wrong return"
    else if cause == 18 then codes "empty return"
    else if cause == 19 then codes "return misaligned"
    else if cause == 20 then codes "dead domain"
    else codes "fault"

-- whether it denies an access
abbrev pub is_denial : ℕ → Bool
is_denial cause = (cause == 1) || ((cause == 5) || (cause == 7))

-- for an access that is denied, who may do what there
abbrev pub denied_text : Flat → Said → Fault → List ℕ
denied_text f plan fault = if is_denial fault.cause then codes ": " ++ who_text f plan fault.value else []

abbrev pub fault_head : Said → ℕ → Fault → List ℕ
fault_head plan domain fault =
    concat (codes "    " ∷ cause_text fault.cause ∷ codes ", in " ∷ name_of plan domain ∷ [])

-- beside the report's line of a fault: what it is, in which module, and why an access is denied
abbrev pub reason_text : Flat → Said → Note → List ℕ
reason_text f plan (N.Fault step hart domain pc fault) =
    (fault_head plan domain fault ++ denied_text f plan fault) ++ codes "\n"
reason_text f plan (N.Exit step hart domain code) = []

abbrev pub noted_text : Flat → Said → Note → List ℕ
noted_text f plan note = note_line note ++ reason_text f plan note

-- the end and the begin of a run
abbrev pub over_text : ℕ → List ℕ
over_text turns = concat (codes "the run is over after " ∷ decimal turns ∷ codes " turns\n" ∷ [])

-- the whole text of a document
abbrev pub document_text : Flat → Known → Document → List ℕ
document_text f k (D.Threads next) = threads_text k.plan f.core next
document_text f k (D.Hart h next) = hart_text k.plan (codes " > ") f.core next h
document_text f k D.File = file_text k.plan
document_text f k D.Libraries = libraries_text k
document_text f k D.Memory = memory_text f.core.size
document_text f k (D.Noted note) = noted_text f k.plan note
document_text f k (D.Over turns) = over_text turns
document_text f k D.Before = codes "before the first turn\n"

-- a hart of which is told is there
abbrev pub IsThere : Core → Document → Type 0
IsThere c (D.Threads next) = Unit {0}
IsThere c (D.Hart h next) = h < length c.harts
IsThere c D.File = Unit {0}
IsThere c D.Libraries = Unit {0}
IsThere c D.Memory = Unit {0}
IsThere c (D.Noted note) = Unit {0}
IsThere c (D.Over turns) = Unit {0}
IsThere c D.Before = Unit {0}

-- how a stop by a fault begins: `T` and its signal in hexadecimal digits
abbrev pub fault_signal : ℕ → List ℕ
fault_signal cause =
    if (cause == 0) || ((cause == 4) || ((cause == 6) || (cause == 19))) then codes "T0a"
    else if cause == 2 then codes "T04"
    else if cause == 3 then codes "T05"
    else if cause == 20 then codes "T06"
    else codes "T0b"

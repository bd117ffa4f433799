-- Worked examples of the documents, computed: a consumer that calls a producer through a gate, a driver that waits, and a hart that ended.
use Rattle.std.specs.Prelude.{◌≡◌, ℕ, false, List, [], ◌∷◌, ◌++◌, codes, replicate, refl, Option, Some, None}
use Rattle.std.specs.Fmt.{digits}
use Rattle.mx_words.specs.declared.perm.Perm.TheVariants as P
use Rattle.mx_words.specs.declared.tables.Kind.TheVariants as K
use Rattle.mx_elf.specs.declared.segment.Seg.{Seg}
use Rattle.mx_manifest.specs.declared.parts.HartPlan.{HartPlan}
use Rattle.mx_manifest.specs.declared.parts.ModulePlan.{ModulePlan}
use Rattle.mx_manifest.specs.Plan.{Said}
use Rattle.mx_model.specs.declared.values.Call.{Call}
use Rattle.mx_model.specs.declared.values.Fault.{Fault}
use Rattle.mx_model.specs.declared.values.Frame.{Frame}
use Rattle.mx_model.specs.declared.values.Gate.{Gate}
use Rattle.mx_model.specs.declared.values.Note.TheVariants as N
use Rattle.mx_model.specs.State.{Core, Flat, Hart, Status, Running, Waiting, Halted, no_module}
use Rattle.mx_report.specs.Lines.{fault_line, exit_line}
use Rattle.mx_debug_texts.specs.declared.document.Document.TheVariants as D
use Rattle.mx_debug_texts.specs.Documents.{Known, document_text, fault_signal, file_text, library_at, lowest_of, memory_text, who_text}
use Rattle.mx_debug_texts.specs.Pieces.{short_digits}
use Rattle.mx_debug_texts.specs.Told.{document_said, note_signal, window_text}

abbrev module_of : List ℕ → Option (List ℕ) → ModulePlan
module_of name image = record {
  name = name;
  image = image;
  at = None;
  perm = None;
  words = None;
  wx = None;
  heap = None;
  heap_words = None;
  stack = None;
  stack_words = None;
  gates = [];
  returns = [];
  kills = false;
  seal = false;
  input = None;
}

abbrev hart_in : ℕ → HartPlan
hart_in domain = record { «module» = domain; entry = None }

-- modules 1 to 3, the second one inline; the first hart begins in module 1
abbrev plan : Said
plan = record {
  version = 2;
  ram_kib = 64;
  tables = K.Packed;
  upper = 128;
  leaf = 4096;
  spill = 4096;
  lookaside = 32;
  quantum = 1;
  modules = module_of (codes "consumer") (Some (codes "consumer.elf")) ∷ module_of (codes "producer") None
      ∷ module_of (codes "driver") (Some (codes "a<b.elf")) ∷ [];
  harts = hart_in 1 ∷ hart_in 3 ∷ hart_in 2 ∷ [];
}

abbrev known : Known
known = record { plan = plan; images = [] ∷ [] ∷ [] ∷ [] }

abbrev frame_of : ℕ → Frame
frame_of caller = record { back = 0; caller = caller; kept = replicate 15 0 }

abbrev hart_with : Status → ℕ → List Frame → Hart
hart_with status domain frames = record { regs = replicate 32 0; pc = 0x80000000; domain = domain; frames = frames; status = status }

abbrev call : Call
call = record { number = 1; args = replicate 4 0; hart = 1; domain = 3; nested = false }

abbrev gate_at : ℕ → ℕ → ℕ → Gate
gate_at domain word target = record { domain = domain; word = word; target = target }

-- hart 0 is in the producer, which the consumer called; hart 1 waits in the driver, two calls deep; hart 2 ended
abbrev core : Core
core = record {
  ram = [];
  modules = no_module ∷ no_module ∷ no_module ∷ [];
  gates = gate_at 1 2 2 ∷ gate_at 2 3 2 ∷ gate_at 3 2 2 ∷ [];
  harts = hart_with Running 2 (frame_of 1 ∷ []) ∷ hart_with (Waiting call []) 3 (frame_of 3 ∷ frame_of 1 ∷ [])
      ∷ hart_with (Halted (Some 5)) 2 [] ∷ [];
  caches = [];
  turns = 9;
  size = 4;
  kind = K.Packed;
  limit = record { upper = 0; leaf = 0; spill = 0 };
  buffer = 32;
}

abbrev flat : Flat
flat = record {
  core = core;
  maps = (P.None ∷ P.Read ∷ P.ExecuteRead ∷ P.None ∷ []) ∷ (P.None ∷ P.ReadWrite ∷ P.None ∷ P.None ∷ [])
      ∷ (P.None ∷ P.None ∷ P.ReadWrite ∷ P.None ∷ []) ∷ [];
  owners = 0 ∷ 2 ∷ 1 ∷ 0 ∷ [];
}

-- harts: the outermost caller first; whose turn is next; one that waits, and one that ended, even where the schedule names it
in_producer : document_text flat known (D.Hart 0 (Some 0)) ≡ codes "consumer > producer, running, next"
in_producer = refl

not_next : document_text flat known (D.Hart 0 (Some 1)) ≡ codes "consumer > producer, running"
not_next = refl

no_next : document_text flat known (D.Hart 0 None) ≡ codes "consumer > producer, running"
no_next = refl

waits : document_text flat known (D.Hart 1 None) ≡ codes "driver > consumer > driver, waiting"
waits = refl

waits_next : document_text flat known (D.Hart 1 (Some 1)) ≡ codes "driver > consumer > driver, waiting, next"
waits_next = refl

halted : document_text flat known (D.Hart 2 (Some 2)) ≡ codes "producer, halted by exit, code 5"
unfolding digits
halted = refl

threads : document_text flat known (D.Threads (Some 0))
    ≡ codes "<threads><thread id=\"p1.1\" name=\"hart 0\">consumer &gt; producer, running, next</thread>"
    ++ codes "<thread id=\"p1.2\" name=\"hart 1\">driver &gt; consumer &gt; driver, waiting</thread>"
    ++ codes "<thread id=\"p1.3\" name=\"hart 2\">producer, halted by exit, code 5</thread></threads>"
unfolding digits short_digits
threads = refl

-- images: that of the first hart, and the lowest of several segments; a name in XML
file : document_text flat known D.File ≡ codes "consumer.elf"
file = refl

inline : file_text (record plan { harts = hart_in 2 ∷ [] }) ≡ []
inline = refl

abbrev segment : ℕ → Seg
segment address = record { offset = 0; file = 0; address = address; memory = 4; flags = 4 }

lowest : lowest_of (segment 0x80001000 ∷ segment 0x80000400 ∷ segment 0x80000800 ∷ []) ≡ 0x80000400
lowest = refl

no_segment : lowest_of [] ≡ 0
no_segment = refl

library : library_at (codes "a<b&\">.elf") 0x80000400 ≡ codes
    "<library name=\"a&lt;b&amp;&quot;&gt;.elf\"><segment address=\"0x80000400\"/></library>"
unfolding short_digits
library = refl

-- the memory: 64 KiB, and one word
memory : memory_text 16384 ≡ codes "<memory-map><memory type=\"ram\" start=\"0x80000000\" length=\"0x10000\"/></memory-map>"
unfolding short_digits
memory = refl

one_word : memory_text 1 ≡ codes "<memory-map><memory type=\"ram\" start=\"0x80000000\" length=\"0x4\"/></memory-map>"
unfolding short_digits
one_word = refl

no_digit : short_digits 0 ≡ codes "0"
unfolding short_digits
no_digit = refl

-- who may do what: nobody, two rights, gates in their order, a return gate, and outside RAM
nobody : who_text flat plan 0x80000000 ≡ codes "0x80000000 is owned by nobody; nobody has a right"
nobody = refl

two_rights : who_text flat plan 0x80000007 ≡ codes "0x80000004 is owned by producer; consumer r, producer rw"
two_rights = refl

two_gates : who_text flat plan 0x80000008
    ≡ codes "0x80000008 is owned by consumer; consumer rx, driver rw; gate of producer for consumer; gate of producer for driver"
two_gates = refl

return_gate : who_text flat plan 0x8000000c ≡ codes "0x8000000c is owned by nobody; nobody has a right; return gate of producer"
return_gate = refl

behind_ram : who_text flat plan 0x80000010 ≡ codes "0x80000010 is outside RAM"
behind_ram = refl

before_ram : who_text flat plan 0x7fffffff ≡ codes "0x7fffffff is outside RAM"
before_ram = refl

-- faults: the report's line and the reason, with who may do what for causes 1, 5 and 7
abbrev fault_by : ℕ → ℕ → Fault
fault_by cause value = record { cause = cause; value = value }

store_denied : document_text flat known (D.Noted (N.Fault 10 0 2 0x80000100 (fault_by 7 0x80000000)))
    ≡ codes "fault step=10 hart=0 domain=2 pc=0x80000100 cause=7 value=0x80000000\n"
    ++ codes "    store denied, in producer: 0x80000000 is owned by nobody; nobody has a right\n"
unfolding fault_line digits
store_denied = refl

fetch_denied : document_text flat known (D.Noted (N.Fault 10 0 3 0x80000010 (fault_by 1 0x80000010)))
    ≡ codes "fault step=10 hart=0 domain=3 pc=0x80000010 cause=1 value=0x80000010\n"
    ++ codes "    fetch denied, in driver: 0x80000010 is outside RAM\n"
unfolding fault_line digits
fetch_denied = refl

load_denied : document_text flat known (D.Noted (N.Fault 10 0 1 0x80000100 (fault_by 5 0x80000000)))
    ≡ codes "fault step=10 hart=0 domain=1 pc=0x80000100 cause=5 value=0x80000000\n"
    ++ codes "    load denied, in consumer: 0x80000000 is owned by nobody; nobody has a right\n"
unfolding fault_line digits
load_denied = refl

frames_full : document_text flat known (D.Noted (N.Fault 10 0 1 0x80000100 (fault_by 16 0x80000000)))
    ≡ codes "fault step=10 hart=0 domain=1 pc=0x80000100 cause=16 value=0x80000000\n    frames full, in consumer\n"
unfolding fault_line digits
frames_full = refl

exit : document_text flat known (D.Noted (N.Exit 3 0 1 5)) ≡ codes "exit step=3 hart=0 domain=1 code=5\n"
unfolding exit_line digits
exit = refl

-- the end and the begin
over : document_text flat known (D.Over 4294967296) ≡ codes "the run is over after 4294967296 turns\n"
unfolding digits
over = refl

before : document_text flat known D.Before ≡ codes "before the first turn\n"
before = refl

-- signals
bus : fault_signal 0 ++ fault_signal 4 ++ fault_signal 6 ++ fault_signal 19 ≡ codes "T0aT0aT0aT0a"
bus = refl

segment_fault : fault_signal 1 ++ fault_signal 5 ++ fault_signal 7 ++ fault_signal 16 ++ fault_signal 17 ++ fault_signal 18
    ≡ codes "T0bT0bT0bT0bT0bT0b"
segment_fault = refl

others : fault_signal 2 ++ fault_signal 3 ++ fault_signal 20 ≡ codes "T04T05T06"
others = refl

noted : note_signal (Some (N.Fault 10 0 1 0x80000100 (fault_by 2 0))) ≡ codes "T04"
noted = refl

-- parts: the whole, one of which more follows, the last, and one behind the end
whole : window_text (codes "0123456789") 0 4091 ≡ codes "l0123456789"
whole = refl

first : window_text (codes "0123456789") 0 4 ≡ codes "m0123"
first = refl

up_to_the_end : window_text (codes "0123456789") 4 6 ≡ codes "l456789"
up_to_the_end = refl

past_the_end : window_text (codes "0123456789") 11 4 ≡ codes "l"
past_the_end = refl

-- texts for the console
said : document_said (codes "no\n") ≡ codes "$O6e6f0a#17"
said = refl

none_said : document_said [] ≡ []
none_said = refl

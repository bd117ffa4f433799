-- The texts of answers.
use Rattle.std.specs.Prelude.{ℕ, zero, suc, ◌+◌, ◌-◌, ◌*◌, ◌/◌, ◌%◌, ◌^◌, ◌==◌, ◌&&◌, ◌||◌, List, [], ◌∷◌, ◌++◌, length, take, drop, min}
use Rattle.std.specs.Prelude.{flat_map, codes, nat_le, nat_lt, Option, Some, None, if◌then◌else◌}
use Rattle.std.specs.List.{range_with_len}
use Rattle.mx_words.specs.Ranges.{ram_base}
use Rattle.mx_packets.specs.Frames.{cut}
use Rattle.mx_model.specs.State.{Core, Hart, hart_at}
use Rattle.mx_debug_texts.specs.declared.document.Document.{Document}
use Rattle.mx_debug_texts.specs.declared.document.Document.TheVariants as D
pub use Rattle.mx_debug_texts.specs.Told.{chunks_said, document_said, most_shown, note_signal, pairs, shown_text, window_mark, window_text}
use Rattle.mx_debug.specs.declared.stop.Stop.{Stop}
use Rattle.mx_debug.specs.declared.stop.Stop.TheVariants as S
use Rattle.mx_debug.specs.Session.{hart_of_stop}

abbrev pub ok : List ℕ
ok = codes "OK"

abbrev pub wrong : List ℕ
wrong = codes "E01"

-- a number's four low bytes, from the lowest on
abbrev pub word_text : ℕ → List ℕ
word_text n = pairs (n % 256 ∷ n / 256 % 256 ∷ n / 65536 % 256 ∷ n / 16777216 % 256 ∷ [])

-- the registers that target.xml tells: x0 to x31, pc, the domain, the number of frames, and the turns made in eight bytes
abbrev pub registers_text : Hart → ℕ → List ℕ
registers_text hart made =
    flat_map word_text
    (hart.regs ++ hart.pc ∷ hart.domain ∷ length hart.frames ∷ made % 2 ^ 32 ∷ made / 2 ^ 32 ∷ [])

-- those of a hart that is there
abbrev pub registers_of : Core → ℕ → ℕ → List ℕ
registers_of c h made = if nat_lt h (length c.harts) then registers_text (hart_at c h) made else wrong

-- one of them: 0 to 34 have four bytes, 35 has eight
abbrev pub register_of : Core → ℕ → ℕ → ℕ → List ℕ
register_of c h made n =
    if nat_lt n 35 then take 8 (drop (8 * n) (cut (registers_of c h made)))
    else if n == 35 then take 16 (drop 280 (cut (registers_of c h made)))
    else wrong

-- as many bytes of RAM from an address on as there are, at most so many
abbrev pub seen_bytes : Core → ℕ → ℕ → List ℕ
seen_bytes c address count = take count (drop (address - ram_base) c.ram)

abbrev pub most_seen : ℕ
most_seen = 2040

abbrev pub memory_text : Core → ℕ → ℕ → List ℕ
memory_text c address count =
    if nat_le ram_base address && nat_lt address (ram_base + 4 * c.size)
    then pairs (seen_bytes c address (min count most_seen))
    else wrong

-- a hart's thread: its number and one
abbrev pub thread_digit : ℕ → ℕ
thread_digit h = if nat_lt h 9 then 49 + h else 63

abbrev pub thread_name : ℕ → List ℕ
thread_name h = codes "p1." ++ thread_digit h ∷ []

-- a stop: its signal and its thread
abbrev pub signal_text : Stop → List ℕ
signal_text (S.Breaks h) = codes "T05"
signal_text (S.Faults h note) = note_signal note
signal_text (S.Steps h) = codes "T05"
signal_text S.Ends = codes "T05replaylog:end;"
signal_text S.Begins = codes "T05replaylog:begin;"
signal_text S.Pauses = codes "T02"

abbrev pub stop_text : ℕ → Stop → List ℕ
stop_text kept stop = ((signal_text stop ++ codes "thread:") ++ thread_name (hart_of_stop kept stop)) ++ codes ";"

-- what is told of a stop after so many turns, if anything is
abbrev pub document_by : ℕ → Stop → Option Document
document_by made (S.Breaks h) = None
document_by made (S.Faults h None) = None
document_by made (S.Faults h (Some note)) = Some (D.Noted note)
document_by made (S.Steps h) = None
document_by made S.Ends = Some (D.Over made)
document_by made S.Begins = Some D.Before
document_by made S.Pauses = None

-- what is said of the console's bytes
abbrev pub shown_said : List ℕ → List ℕ
shown_said bytes = chunks_said (length bytes) bytes

-- the threads of so many harts: that of the first, and further ones from one on
abbrev pub more_threads : ℕ → ℕ → List ℕ
more_threads h zero = []
more_threads h (suc n) = (codes "," ++ thread_name h) ++ more_threads (h + 1) n

abbrev pub threads_text : ℕ → List ℕ
threads_text harts = (codes "m" ++ thread_name 0) ++ more_threads 1 (harts - 1)

-- what is understood
abbrev pub supported : List ℕ
supported =
    codes "PacketSize=1000;QStartNoAckMode+;vContSupported+;multiprocess+;qXfer:features:read+;qXfer:threads:read+;"
    ++ codes "qXfer:exec-file:read+;qXfer:libraries:read+;qXfer:memory-map:read+;ReverseStep+;ReverseContinue+"

-- the ways in which a run goes on
abbrev pub ways : List ℕ
ways = codes "vCont;c;C;s;S;r"

-- the description of the registers
abbrev pub type_of : ℕ → List ℕ
type_of i =
    if i == 1 then codes "code_ptr"
    else if nat_le 2 i && nat_le i 4 || (i == 8) then codes "data_ptr"
    else codes "int"

-- a number below 100 in decimal
abbrev pub place_text : ℕ → List ℕ
place_text i = if nat_lt i 10 then (48 + i) ∷ [] else (48 + i / 10) ∷ (48 + i % 10) ∷ []

abbrev pub register_line : ℕ → List ℕ
register_line i =
    codes "<reg name=\"x" ++ place_text i ++ codes "\" bitsize=\"32\" type=\"" ++ type_of i ++ codes "\"/>"

abbrev pub target_text : List ℕ
target_text =
    codes "<?xml version=\"1.0\"?><!DOCTYPE target SYSTEM \"gdb-target.dtd\"><target version=\"1.0\">"
    ++ codes "<architecture>riscv:rv32</architecture><osabi>none</osabi>"
    ++ codes "<feature name=\"org.gnu.gdb.riscv.cpu\">"
    ++ flat_map register_line (range_with_len 0 32)
    ++ codes "<reg name=\"pc\" bitsize=\"32\" type=\"code_ptr\"/></feature><feature name=\"mondrix.hart\">"
    ++ codes "<reg name=\"domain\" bitsize=\"32\" type=\"uint32\"/>"
    ++ codes "<reg name=\"frames\" bitsize=\"32\" type=\"uint32\"/>"
    ++ codes "<reg name=\"turns\" bitsize=\"64\" type=\"uint64\"/></feature></target>"

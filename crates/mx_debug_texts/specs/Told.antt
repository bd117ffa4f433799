-- How documents are told: a part that is asked for, in pairs of digits, and as texts of the console.
use Rattle.std.specs.Prelude.{ℕ, zero, suc, ◌+◌, Bool, List, [], ◌∷◌, ◌++◌, length, take, drop, min, flat_map, nat_lt, Option, Some, None}
use Rattle.std.specs.Prelude.{if◌then◌else◌}
use Rattle.mx_model.specs.declared.values.Note.{Note}
use Rattle.mx_model.specs.declared.values.Note.TheVariants as N
use Rattle.mx_packets.specs.Frames.{cut, pair}
use Rattle.mx_packets.specs.Streams.{sent}
use Rattle.mx_debug_texts.specs.Documents.{fault_signal}

-- bytes as pairs of digits
abbrev pub pairs : List ℕ → List ℕ
pairs bytes = flat_map pair bytes

-- a part of an object's text: `m` where more follows it, else `l`, and so many bytes from a place on, at most 4000
abbrev pub mark_by : Bool → ℕ
mark_by more = if more then 109 else 108

abbrev pub window_mark : ℕ → ℕ → ℕ
window_mark end all = mark_by (nat_lt end all)

abbrev pub window_text : List ℕ → ℕ → ℕ → List ℕ
window_text text at count =
    let part = take (min count 4000) (drop at text) in
    window_mark (at + length part) (length text) ∷ part

-- what is told of bytes for the console, as texts of at most so many bytes each: none of no bytes
abbrev pub most_shown : ℕ
most_shown = 2040

abbrev pub shown_text : List ℕ → List ℕ
shown_text bytes = 79 ∷ pairs bytes

abbrev pub chunks_said : ℕ → List ℕ → List ℕ
chunks_said zero bytes = []
chunks_said (suc n) [] = []
chunks_said (suc n) (b ∷ more) =
    sent (cut (shown_text (take most_shown (b ∷ more)))) ++ chunks_said n (drop most_shown (b ∷ more))

-- a document is told in at most 16 of them, more than any has
abbrev pub document_said : List ℕ → List ℕ
document_said text = chunks_said 16 text

-- how a stop at a fault begins, by the note of its turn
abbrev pub note_signal : Option Note → List ℕ
note_signal None = fault_signal 1
note_signal (Some (N.Fault step hart domain pc fault)) = fault_signal fault.cause
note_signal (Some (N.Exit step hart domain code)) = fault_signal 1

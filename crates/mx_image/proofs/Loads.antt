-- Program headers are read as they were written.
use Rattle.std.proofs.Common.{◌≡◌, ℕ, ◌+◌, ◌%◌, ◌^◌, ◌<◌, ◌≤◌, true, List, [], ◌∷◌, ◌++◌, length, refl, sym, ap, ◌∙◌, arith, append_assoc}
use Rattle.std.specs.Prelude.{None}
use Rattle.std.specs.List.{AllByRecursion}
use Rattle.std.specs.Option.{option_or}
use Rattle.std.proofs.lemmas.List.{length-append}
use Rattle.std.proofs.lemmas.Bool.Decides.{nat_tests}
use Rattle.mx_words.specs.Bytes.{number_at}
use Rattle.mx_elf.specs.declared.segment.Seg.{Seg}
use Rattle.mx_elf.specs.Field.{word_at, places}
use Rattle.mx_elf.specs.Image.{is_loaded, segment_at, segments_at, segment_rows, rows_from, first_fault}
use Rattle.mx_elf.proofs.Loading.{faults-here}
use Rattle.mx_image.specs.declared.segment.Segment.{Segment}
use Rattle.mx_image.specs.Image.{rounded, program_header, program_headers, contents}
use Rattle.mx_image.specs.Lawful.{placed}
use Rattle.mx_image.proofs.Sizes.{length-contents-cons}
use Rattle.mx_image.proofs.Fields.{word-behind, word-begins, four-bytes}

-- a segment with bytes whose numbers have 32 bits
pub record IsLoadable (s : Segment) : Type 0 where
  pub some : 0 < length s.bytes
  pub size : length s.bytes < 2 ^ 32
  pub address : s.address < 2 ^ 32
  pub flags : s.flags < 2 ^ 32
  pub aligned : s.address % 4 ≡ 0

-- the fields of a program header
record IsRead (bytes : List ℕ) (place at : ℕ) (s : Segment) : Type 0 where
  type : word_at bytes place ≡ 1
  offset : word_at bytes (place + 4) ≡ at
  address : word_at bytes (place + 8) ≡ s.address
  file : word_at bytes (place + 16) ≡ length s.bytes
  memory : word_at bytes (place + 20) ≡ length s.bytes
  flags : word_at bytes (place + 24) ≡ s.flags

header-fields : (at : ℕ) (s : Segment) (rest : List ℕ) → at < 2 ^ 32 → IsLoadable s → IsRead (program_header at s ++ rest) 0 at s
unfolding word_at number_at
header-fields at s rest lt h = record {
  type = refl;
  offset = four-bytes at lt;
  address = four-bytes s.address h.address;
  file = four-bytes (length s.bytes) h.size;
  memory = four-bytes (length s.bytes) h.size;
  flags = four-bytes s.flags h.flags;
}

-- after a part
header-read : (bytes part rest : List ℕ) (place at : ℕ) (s : Segment) → bytes ≡ part ++ (program_header at s ++ rest) → place ≡ length part
    → at < 2 ^ 32
    → IsLoadable s → IsRead bytes place at s
header-read bytes part rest place at s is start lt h =
    let r = header-fields at s rest lt h in
    record {
      type = word-begins bytes part (program_header at s ++ rest) place is start ∙ r.type;
      offset = word-behind bytes part (program_header at s ++ rest) place 4 is start ∙ r.offset;
      address = word-behind bytes part (program_header at s ++ rest) place 8 is start ∙ r.address;
      file = word-behind bytes part (program_header at s ++ rest) place 16 is start ∙ r.file;
      memory = word-behind bytes part (program_header at s ++ rest) place 20 is start ∙ r.memory;
      flags = word-behind bytes part (program_header at s ++ rest) place 24 is start ∙ r.flags;
    }

-- the loaded segment
abbrev seg_of : ℕ → Segment → Seg
seg_of at s = record { offset = at; file = length s.bytes; address = s.address; memory = length s.bytes; flags = s.flags }

loads : (bytes : List ℕ) (place at : ℕ) (s : Segment) → IsLoadable s → IsRead bytes place at s → is_loaded bytes place ≡ true
loads bytes place at s h r =
    let type = r.type in
    let memory = r.memory in
    rw (type, memory) (grind (arith, nat_tests, h.some))

says : (bytes : List ℕ) (place at : ℕ) (s : Segment) → IsRead bytes place at s → segment_at bytes place ≡ seg_of at s
says bytes place at s r = rw (r.offset, r.address, r.file, r.memory, r.flags) refl

-- all program headers
pub segments-read : (bytes part rest : List ℕ) (place at : ℕ) (segments : List Segment)
    → bytes ≡ part ++ (program_headers at segments ++ rest) → place ≡ length part
    → at + length (contents segments) < 2 ^ 32 → AllByRecursion IsLoadable segments
    → segments_at bytes (places place 32 (length segments)) ≡ placed at segments
segments-read bytes part rest place at [] is start lt all = refl
segments-read bytes part rest place at (s ∷ segments) is start lt all =
    let next = at + rounded (length s.bytes) in
    let tail = program_headers next segments ++ rest in
    let here : bytes ≡ part ++ (program_header at s ++ tail) =
    is ∙ ap (λ (xs : List ℕ). part ++ xs) (append_assoc (program_header at s) (program_headers next segments) rest) in
    let further : bytes ≡ (part ++ program_header at s) ++ tail = here ∙ sym (append_assoc part (program_header at s) tail) in
    let size = length-contents-cons s segments in
    let r = header-read bytes part tail place at s here start (omega (arith, lt)) all.0 in
    let longer : place + 32 ≡ length (part ++ program_header at s) = omega (arith, start, length-append part (program_header at s)) in
    let left = segments-read bytes (part ++ program_header at s) rest (place + 32) next segments further longer (omega (arith, lt, size))
    all.1 in
    rw (loads bytes place at s all.0 r, says bytes place at s r, left) refl

-- they have no fault
pub segments-sound : (size place at : ℕ) (segments : List Segment) → place + length segments ≤ 16 → at + length (contents segments) ≤ size
    → AllByRecursion IsLoadable segments → first_fault (rows_from size place (placed at segments)) ≡ None
segments-sound size place at [] few inside all = refl
segments-sound size place at (s ∷ segments) few inside all =
    let next = at + rounded (length s.bytes) in
    let longer = length-contents-cons s segments in
    let one : first_fault (segment_rows size (place, seg_of at s)) ≡ None = grind (arith, nat_tests, all.0.aligned, all.0.some, longer) in
    faults-here size place (seg_of at s) (placed next segments)
    ∙ ap (λ o. option_or o (first_fault (rows_from size (place + 1) (placed next segments)))) one
    ∙ segments-sound size (place + 1) next segments (omega (arith, few)) (omega (arith, inside, longer)) all.1

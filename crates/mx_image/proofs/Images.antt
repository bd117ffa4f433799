-- The image of a lawful program, and what the loader reads of it.
use Rattle.std.proofs.Common.{◌≡◌, ℕ, ◌+◌, ◌-◌, ◌^◌, ◌<◌, ◌≤◌, true, List, [], ◌∷◌, ◌++◌, length, take, drop, refl, ap, ◌∙◌, arith, ⊎_elim}
use Rattle.std.specs.Prelude.{Ok, Some, None, map, replicate}
use Rattle.std.specs.List.{AllByRecursion}
use Rattle.std.proofs.lemmas.List.{length-append, append-nil}
use Rattle.std.proofs.lemmas.List.Sums.{sum_by-cons}
use Rattle.std.proofs.lemmas.Bool.{cond_both}
use Rattle.std.proofs.lemmas.Bool.Decides.{nat_tests}
use Rattle.mx_elf.specs.Image.{image_of as image_read}
use Rattle.mx_elf.specs.Segment.{memory_bytes}
use Rattle.mx_elf.specs.Symbol.{symbol_of}
use Rattle.mx_image.specs.declared.segment.Segment.{Segment}
use Rattle.mx_image.specs.Program.{Label, Program, has_bytes, filled, byte_count}
use Rattle.mx_image.specs.Image.{rounded, padded, file_header, program_headers, contents, symbol_table, strings, null_section}
use Rattle.mx_image.specs.Image.{symbol_section, string_section, contents_at, symbols_at, strings_at, sections_at, image_with, image_of}
use Rattle.mx_image.specs.Lawful.{IsSegment, IsProgram, IsNoLabel, IsTold, placed, read_of, file_bytes}
use Rattle.mx_image.proofs.Sizes.{small, program_headers_length}
use Rattle.mx_image.proofs.Loads.{IsLoadable}
use Rattle.mx_image.proofs.Reading.{header-read, read}
use Rattle.mx_image.proofs.Symbols.{address_of, value-found, each-found, none-found}
use Rattle.mx_image.proofs.Sections.{symbol-in-image}
use Rattle.mx_image.proofs.Splits.{eight, cut-2, cut-3, cut-4, bytes-there}

-- the segments of a lawful program
loadable-one : (s : Segment) → has_bytes s ≡ true → length s.bytes ≤ 4194304 → IsSegment s → IsLoadable s
loadable-one s some few h =
    let more : 0 < length s.bytes = grind (arith, nat_tests) in
    let flags : s.flags < 2 ^ 32 = ⊎_elim (λ e. omega arith) (λ e. omega arith) h.flags in
    record { some = more; size = omega (arith, few); address = omega (arith, more, h.ends); flags = flags; aligned = h.aligned }

pub loadable : (segments : List Segment) → byte_count segments ≤ 4194304 → AllByRecursion IsSegment (filled segments)
    → AllByRecursion IsLoadable (filled segments)
loadable [] few = λ all. tt
loadable (s ∷ segments) few =
    let bytes : byte_count (s ∷ segments) ≡ length s.bytes + byte_count segments = sum_by-cons (λ x. length x.bytes) s segments in
    let rest = loadable segments (omega (arith, few, bytes)) in
    cond_both (has_bytes s) (s ∷ filled segments) (filled segments)
    (λ left. AllByRecursion IsSegment left → AllByRecursion IsLoadable left)
    (λ some. λ all. (loadable-one s some (omega (arith, few, bytes)) all.0, rest all.1)) (λ _. rest)

-- how many bytes three parts have of a list
three : (bytes a b c rest : List ℕ) → bytes ≡ (a ++ b ++ c) ++ rest → length a + length b + length c ≤ length bytes
three bytes a b c rest is = omega (arith, ap length is, length-append (a ++ b ++ c) rest, length-append (a ++ b) c, length-append a b)

-- the loader reads the entry and the segments that have bytes
pub reads-image : (p : Program) → IsProgram p
    → image_read (image_of p) ≡ Ok (read_of p)
unfolding image_with
reads-image p h =
    let segments = filled p.segments in
    let sizes = small p h.sized in
    let at = contents_at (length segments) in
    let a = file_header p.entry (sections_at segments p.labels) (length segments) in
    let b = program_headers at segments in
    let c = contents segments in
    let d = symbol_table p.labels in
    let e = padded (strings p.labels) in
    let f = null_section in
    let g = symbol_section (symbols_at segments) (length p.labels + 1) in
    let i = string_section (strings_at segments p.labels) (length (strings p.labels)) in
    let head : length a ≡ 52 = refl in
    let long = three (image_of p) a b c _ (eight a b c d e f g i ∙ cut-4 a b c d e f g i) in
    let names : length (strings p.labels) ≤ 68157441 = omega (arith, sizes.names) in
    read (image_of p) p.entry (sections_at segments p.labels) segments _ (eight a b c d e f g i ∙ cut-2 a b c d e f g i) h.entry
    (omega (arith, sizes.segments, sizes.contents, sizes.labels, names)) sizes.segments
    (omega (arith, long, head, program_headers_length at segments)) (omega (arith, sizes.contents))
    (loadable p.segments h.sized.bytes h.segments)

-- their bytes stand where it reads them
pub reads-bytes : (p : Program) → IsProgram p
    → map (file_bytes (image_of p)) (read_of p).segments ≡ map (λ s. s.bytes) (filled p.segments)
unfolding image_with
reads-bytes p h =
    let segments = filled p.segments in
    let at = contents_at (length segments) in
    let a = file_header p.entry (sections_at segments p.labels) (length segments) in
    let b = program_headers at segments in
    let c = contents segments in
    let d = symbol_table p.labels in
    let e = padded (strings p.labels) in
    let f = null_section in
    let g = symbol_section (symbols_at segments) (length p.labels + 1) in
    let i = string_section (strings_at segments p.labels) (length (strings p.labels)) in
    let head : length a ≡ 52 = refl in
    let start : at ≡ length (a ++ b) = omega (arith, head, length-append a b, program_headers_length at segments) in
    bytes-there (image_of p) (a ++ b) _ at segments (eight a b c d e f g i ∙ cut-3 a b c d e f g i) start

-- and in memory, where they have no more
memory-file : (bytes : List ℕ) (at : ℕ) (segments : List Segment)
    → map (memory_bytes bytes) (placed at segments) ≡ map (file_bytes bytes) (placed at segments)
unfolding memory_bytes
memory-file bytes at [] = refl
memory-file bytes at (s ∷ segments) =
    let none : length s.bytes - length s.bytes ≡ 0 = omega arith in
    let same : take (length s.bytes) (drop at bytes) ++ replicate (length s.bytes - length s.bytes) 0
    ≡ take (length s.bytes) (drop at bytes) =
    rw none (append-nil (take (length s.bytes) (drop at bytes))) in
    rw (same, memory-file bytes (at + rounded (length s.bytes)) segments) refl

pub reads-memory : (p : Program) → IsProgram p → map (memory_bytes (image_of p)) (read_of p).segments
    ≡ map (λ s. s.bytes) (filled p.segments)
reads-memory p h = memory-file (image_of p) (contents_at (length (filled p.segments))) (filled p.segments) ∙ reads-bytes p h

-- the value of a symbol is the address of the first label with its name
pub symbol-of-image : (p : Program) → IsProgram p → (name : List ℕ) → symbol_of (image_of p) name ≡ address_of p.labels name
unfolding image_with
symbol-of-image p h name =
    let segments = filled p.segments in
    let sizes = small p h.sized in
    let at = contents_at (length segments) in
    let a = file_header p.entry (sections_at segments p.labels) (length segments) in
    let b = program_headers at segments in
    let c = contents segments in
    let d = symbol_table p.labels in
    let e = padded (strings p.labels) in
    let f = null_section in
    let g = symbol_section (symbols_at segments) (length p.labels + 1) in
    let i = string_section (strings_at segments p.labels) (length (strings p.labels)) in
    let head : length a ≡ 52 = refl in
    let names : length (strings p.labels) ≤ 68157441 = omega (arith, sizes.names) in
    let start : symbols_at segments ≡ length (a ++ b ++ c) = omega
    (arith, head, length-append (a ++ b) c, length-append a b, program_headers_length at segments) in
    let high : sections_at segments p.labels < 2 ^ 32 = omega (arith, sizes.segments, sizes.contents, sizes.labels, names) in
    let fields = header-read (image_of p) p.entry (sections_at segments p.labels) (length segments) _ (eight a b c d e f g i
    ∙ cut-2 a b c d e f g i) h.entry high (omega (arith, sizes.segments)) in
    symbol-in-image (image_of p) a b c name p.labels p.entry (length segments) (symbols_at segments) (eight a b c d e f g i) start
    (omega arith) high fields
    ∙ value-found p.labels name (omega (arith, sizes.names)) h.labels

-- each label is found
each : (p : Program) → IsProgram p → (labels : List Label) → AllByRecursion (λ l. address_of p.labels l.name ≡ Some l.address) labels
    → AllByRecursion (IsTold (image_of p)) labels
each p h [] all = tt
each p h (l ∷ labels) all = (symbol-of-image p h l.name ∙ all.0, each p h labels all.1)

pub finds-labels : (p : Program) → IsProgram p → AllByRecursion (IsTold (image_of p)) p.labels
finds-labels p h = each p h p.labels (each-found p.labels h.distinct)

-- and nothing else
pub finds-no-other : (p : Program) (name : List ℕ) → IsProgram p → IsNoLabel p name → symbol_of (image_of p) name ≡ None
finds-no-other p name h apart = symbol-of-image p h name ∙ none-found p.labels name apart

-- A file without a fault has sound segments, and at most 16 of them.
use Rattle.std.proofs.Common.{◌≡◌, ℕ, ◌+◌, ◌%◌, ◌<◌, ◌≤◌, true, false, List, [], ◌∷◌, length, refl, sym, ap, ◌∙◌, arith, ◌==◌, nat_lt}
use Rattle.std.specs.Prelude.{Option, Some, None, Ok, not, ◌&&◌, map, filter}
use Rattle.std.proofs.lemmas.Bool.{cond_both}
use Rattle.std.proofs.lemmas.Bool.Decides.{nat_tests}
use Rattle.std.specs.List.{AllByRecursion}
use Rattle.mx_elf.specs.declared.image.Image.{Image}
use Rattle.mx_elf.specs.declared.segment.Seg.{Seg}
use Rattle.mx_elf.specs.Field.{places}
use Rattle.mx_elf.specs.Header.{e_entry, e_phoff, e_phnum, p_memsz}
use Rattle.mx_elf.specs.Image.{first_fault, header_rows, segment_rows, rows_from, rows_of, is_loaded, segment_at, segments_at, segments_of}
use Rattle.mx_elf.specs.Image.{image_of, unless, IsSound}
use Rattle.mx_words.proofs.FirstRowLaws.{first_row-append}
use Rattle.mx_words.proofs.OptionLaws.{neither, row_none}
use Rattle.mx_elf.proofs.Loading.{faults-here}

-- the tests of a segment, as facts
inside-fits : (size : ℕ) (s : Seg) → (not (s.file == 0) && nat_lt size (s.offset + s.file)) ≡ false → 0 < s.file → s.offset + s.file ≤ size
inside-fits size s e some = grind (arith, nat_tests)

-- the rows of a segment say what is known of it
sound-here : (size place : ℕ) (s : Seg) → 0 < s.memory → first_fault (segment_rows size (place, s)) ≡ None
    → IsSound size s × (place ≡ 16 → ⊥)
sound-here size place s covers e =
    let a = row_none (place == 16) 7 _ e in
    let b = row_none (not (s.file == 0) && nat_lt size (s.offset + s.file)) 8 _ a.1 in
    let c = row_none (nat_lt s.memory s.file) 9 _ b.1 in
    let d = row_none (not (s.address % 4 == 0)) 10 _ c.1 in (
      record {
        inside = inside-fits size s b.0;
        held = grind (arith, nat_tests, c.0);
        covers = covers;
        aligned = grind (arith, nat_tests, d.0);
      },
      grind (arith, nat_tests, a.0),
    )

has-memory : (bytes : List ℕ) (at : ℕ) → is_loaded bytes at ≡ true → 0 < p_memsz bytes at
has-memory bytes at e = grind (arith, nat_tests)

-- each loaded segment has memory
covers-all : (bytes headers : List ℕ) → AllByRecursion (λ s. 0 < s.memory) (segments_at bytes headers)
covers-all bytes [] = tt
covers-all bytes (at ∷ headers) =
    cond_both (is_loaded bytes at) (at ∷ filter (is_loaded bytes) headers) (filter (is_loaded bytes) headers)
    (λ places. AllByRecursion (λ s. 0 < s.memory) (map (segment_at bytes) places))
    (λ e. (has-memory bytes at e, covers-all bytes headers)) (λ e. covers-all bytes headers)

-- segments without a fault
sound-all : (size place : ℕ) (segments : List Seg) → AllByRecursion (λ s. 0 < s.memory) segments → place ≤ 16
    → first_fault (rows_from size place segments) ≡ None
    → AllByRecursion (IsSound size) segments × (place + length segments ≤ 16)
sound-all size place [] covers le e = (tt, omega arith)
sound-all size place (s ∷ segments) covers le e =
    let both = neither (first_fault (segment_rows size (place, s))) (first_fault (rows_from size (place + 1) segments))
    (sym (faults-here size place s segments) ∙ e) in
    let one = sound-here size place s covers.0 both.0 in
    let rest = sound-all size (place + 1) segments covers.1 (omega (arith, one.1)) both.1 in
    ((one.0, rest.0), omega (arith, rest.1))

-- a value that stands there has no fault before it
given : (fault : Option ℕ) (x y : Image) → Ok x ≡ unless fault y → (fault ≡ None) × (x ≡ y)
given None x y e = (refl, cc)
given (Some n) x y e = absurd cc

-- an image has sound segments, at most 16
pub sound-image : (bytes : List ℕ) (image : Image) → Ok image ≡ image_of bytes
    → AllByRecursion (IsSound (length bytes)) image.segments × (length image.segments ≤ 16)
unfolding image_of
sound-image bytes image e =
    let parts = given (first_fault (rows_of bytes)) image (record { entry = e_entry bytes; segments = segments_of bytes }) e in
    let none = neither (first_fault (header_rows bytes)) (first_fault (rows_from (length bytes) 0 (segments_of bytes)))
    (sym (first_row-append (header_rows bytes) (rows_from (length bytes) 0 (segments_of bytes))) ∙ parts.0) in
    let all = sound-all (length bytes) 0 (segments_of bytes) (covers-all bytes (places (e_phoff bytes) 32 (e_phnum bytes))) (omega arith)
    none.1 in
    let same : image.segments ≡ segments_of bytes = ap (λ (i : Image). i.segments) parts.1 in
    rw same (all.0, omega (arith, all.1))

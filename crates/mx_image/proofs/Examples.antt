-- Definitions at numbers, and one program with its image.
use Rattle.std.proofs.Common.{◌≡◌, ℕ, List, [], ◌∷◌, ◌++◌, length, take, drop, refl, inl, inr, arith}
use Rattle.std.specs.Prelude.{codes}
use Rattle.mx_image.specs.declared.segment.Segment.{Segment}
use Rattle.mx_image.specs.Program.{Program, label, no_program, with_entry, with_segment, with_byte, with_label, filled}
use Rattle.mx_image.specs.Image.{little_endian, rounded, padded, symbols_at, strings_at, sections_at, image_with, image_of}
use Rattle.mx_image.specs.Lawful.{IsProgram, read_of}

-- numbers are little-endian
number : little_endian 4 0x12345678 ≡ 0x78 ∷ 0x56 ∷ 0x34 ∷ 0x12 ∷ []
number = refl

-- multiples of 4
rounded-none : rounded 0 ≡ 0
rounded-none = refl

rounded-up : rounded 5 ≡ 8
rounded-up = refl

rounded-there : rounded 8 ≡ 8
rounded-there = refl

padding : padded (1 ∷ 2 ∷ 3 ∷ 4 ∷ 5 ∷ []) ≡ 1 ∷ 2 ∷ 3 ∷ 4 ∷ 5 ∷ 0 ∷ 0 ∷ 0 ∷ []
padding = refl

-- a program of two segments and one without bytes
segment : ℕ → ℕ → List ℕ → Segment
segment address flags bytes = record { address = address; flags = flags; bytes = bytes }

two : Program
two = record {
  entry = 0x80000000;
  segments = segment 0x80000000 5 (0x6F ∷ 0 ∷ 0 ∷ 0 ∷ []) ∷ segment 0x80000800 5 [] ∷ segment 0x80001000 6 (1 ∷ []) ∷ [];
  labels = label (codes "start") 0x80000000 ∷ label (codes "k") 0x80001000 ∷ [];
}

-- the same program piece by piece
two-built : with_byte 1 (with_segment (segment 0x80001000 6 [])
    (with_label (label (codes "k") 0x80001000) (with_segment (segment 0x80000800 5 [])
    (with_byte 0 (with_byte 0 (with_byte 0 (with_byte 0x6F (with_label (label (codes "start") 0x80000000) (with_entry 0x80000000
    (with_segment (segment 0x80000000 5 []) no_program)))))))))) ≡ two
unfolding segment two
two-built = refl

-- the places of its parts, and its size
two-symbols-at : symbols_at (filled two.segments) ≡ 124
unfolding segment two
two-symbols-at = refl

two-strings-at : strings_at (filled two.segments) two.labels ≡ 172
unfolding segment two
two-strings-at = refl

two-sections-at : sections_at (filled two.segments) two.labels ≡ 184
unfolding segment two
two-sections-at = refl

two-size : length (image_of two) ≡ 304
unfolding segment two image_with
two-size = refl

-- its second program header, its symbols and its strings
two-header : take 32 (drop 84 (image_of two))
    ≡ 1 ∷ 0 ∷ 0 ∷ 0 ∷ 0x78 ∷ 0 ∷ 0 ∷ 0 ∷ 0 ∷ 0x10 ∷ 0 ∷ 0x80 ∷ 0 ∷ 0x10 ∷ 0 ∷ 0x80 ∷ 1 ∷ 0 ∷ 0 ∷ 0 ∷ 1 ∷ 0 ∷ 0 ∷ 0 ∷ 6 ∷ 0 ∷ 0 ∷ 0 ∷ 4 ∷ 0
    ∷ 0 ∷ 0 ∷ []
unfolding segment two image_with
two-header = refl

two-symbol : take 16 (drop 156 (image_of two)) ≡ 7 ∷ 0 ∷ 0 ∷ 0 ∷ 0 ∷ 0x10 ∷ 0 ∷ 0x80 ∷ 0 ∷ 0 ∷ 0 ∷ 0 ∷ 0 ∷ 0 ∷ 0xF1 ∷ 0xFF ∷ []
unfolding segment two image_with
two-symbol = refl

two-strings : take 12 (drop 172 (image_of two)) ≡ 0 ∷ codes "start" ++ 0 ∷ codes "k" ++ 0 ∷ 0 ∷ 0 ∷ 0 ∷ []
unfolding segment two image_with
two-strings = refl

-- what a loader reads of it: 4 and 1 bytes at 116 and 120
two-read : read_of two ≡ record {
  entry = 0x80000000;
  segments = record { offset = 116; file = 4; address = 0x80000000; memory = 4; flags = 5 }
      ∷ record { offset = 120; file = 1; address = 0x80001000; memory = 1; flags = 6 } ∷ [];
}
unfolding segment two
two-read = refl

-- it is lawful
two-lawful : IsProgram two
unfolding segment two
two-lawful = record {
  sized = record {
    segments = omega arith;
    bytes = omega arith;
    labels = omega arith;
    names = (record { some = omega arith; most = omega arith }, (record { some = omega arith; most = omega arith }, tt));
  };
  entry = omega arith;
  segments = (
    record {
      aligned = refl;
      flags = inl refl;
      ends =
          omega arith;
    },
    (record { aligned = refl; flags = inr refl; ends = omega arith }, tt),
  );
  labels = (
    record { name = (λ e. cc, (λ e. cc, (λ e. cc, (λ e. cc, (λ e. cc, tt))))); address = omega arith },
    (record { name = (λ e. cc, tt); address = omega arith }, tt),
  );
  distinct = ((λ e. cc, tt), (tt, tt));
}

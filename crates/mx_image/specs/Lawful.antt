-- Programs that have an image, and how a loader reads it.
use Rattle.std.specs.Prelude.{◌≡◌, ◌≢◌, ◌⊎◌, ℕ, ◌+◌, ◌^◌, ◌%◌, ◌<◌, ◌≤◌, List, [], ◌∷◌, length, take, drop, Some}
use Rattle.std.specs.List.{AllByRecursion}
use Rattle.mx_words.specs.Limits.{most_segments, most_segment_bytes}
use Rattle.mx_elf.specs.declared.image.Image.{Image}
use Rattle.mx_elf.specs.declared.segment.Seg.{Seg}
use Rattle.mx_elf.specs.Symbol.{symbol_of}
use Rattle.mx_image.specs.declared.segment.Segment.{Segment}
use Rattle.mx_image.specs.Program.{Label, Program, filled, byte_count}
use Rattle.mx_image.specs.Image.{rounded, contents_at}

-- a name of 1 to 64 bytes
pub record IsName (name : List ℕ) : Type 0 where
  pub some : 0 < length name
  pub most : length name ≤ 64

-- a program that an image of less than 2^31 bytes can hold
pub record IsSized (p : Program) : Type 0 where
  pub segments : length (filled p.segments) ≤ most_segments
  pub bytes : byte_count p.segments ≤ most_segment_bytes
  pub labels : length p.labels ≤ 2 ^ 20
  pub names : AllByRecursion (λ l. IsName l.name) p.labels

-- a segment at a multiple of 4, readable and either executable or writable, that doesn't pass 2^32
pub record IsSegment (s : Segment) : Type 0 where
  pub aligned : s.address % 4 ≡ 0
  pub flags : (s.flags ≡ 5) ⊎ (s.flags ≡ 6)
  pub ends : s.address + length s.bytes ≤ 2 ^ 32

-- bytes of which none is zero
abbrev pub HasNoZero : List ℕ → Type 0
HasNoZero bytes = AllByRecursion (λ b. b ≢ 0) bytes

-- a label whose name has no zero byte, at an address
pub record IsLabel (l : Label) : Type 0 where
  pub name : HasNoZero l.name
  pub address : l.address < 2 ^ 32

-- labels of which no two have one name
abbrev pub AreDistinct : List Label → Type 0
AreDistinct [] = Unit {0}
AreDistinct (l ∷ labels) = AllByRecursion (λ m. l.name ≢ m.name) labels × AreDistinct labels

-- a program whose image can be read
pub record IsProgram (p : Program) : Type 0 where
  pub sized : IsSized p
  pub entry : p.entry < 2 ^ 32
  pub segments : AllByRecursion IsSegment (filled p.segments)
  pub labels : AllByRecursion IsLabel p.labels
  pub distinct : AreDistinct p.labels

-- a name that no label of the program has
abbrev pub IsNoLabel : Program → List ℕ → Type 0
IsNoLabel p name = AllByRecursion (λ l. l.name ≢ name) p.labels

-- the loaded segments of an image, their bytes standing one after the other at multiples of 4, the first ones at a place
abbrev pub placed : ℕ → List Segment → List Seg
placed at [] = []
placed at (s ∷ segments) =
    record {
      offset = at;
      file = length s.bytes;
      address = s.address;
      memory = length s.bytes;
      flags = s.flags;
    }
    ∷ placed (at + rounded (length s.bytes)) segments

-- how a loader reads the image of a program
abbrev pub read_of : Program → Image
read_of p = record {
  entry = p.entry;
  segments = placed (contents_at (length (filled p.segments))) (filled p.segments);
}

-- the bytes that a file has of a segment
abbrev pub file_bytes : List ℕ → Seg → List ℕ
file_bytes bytes s = take s.file (drop s.offset bytes)

-- whether a file has a label's address by its name
abbrev pub IsTold : List ℕ → Label → Type 0
IsTold bytes l = symbol_of bytes l.name ≡ Some l.address

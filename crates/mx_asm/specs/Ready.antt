-- What is known where the bytes of a line without faults are added.
use Rattle.std.specs.Prelude.{◌≡◌, ℕ, ◌+◌, ◌<◌, ◌≤◌, ◌^◌, true, false, List, length, None, IsTrue}
use Rattle.mx_image.specs.Program.{Program, byte_count}
use Rattle.mx_source.specs.declared.mnemonics.Keyword.{Keyword}
use Rattle.mx_source.specs.Lines.{Statement, Absent, Unlisted, Listed}
use Rattle.mx_asm.specs.declared.places.Place.{Place}
use Rattle.mx_asm.specs.Places.{address_of, size_of}
use Rattle.mx_asm.specs.Labels.{Definition}
use Rattle.mx_asm.specs.Faults.{operand_fault, offset_fits, begins_segment}

-- a listed statement has no fault, has a segment to stand in, and there is room for it
pub record IsReadyFor (labels : List Definition) (place : Place) (keyword : Keyword)
    (operands : List (List ℕ)) (p : Program) : Type 0 where
  pub begun : begins_segment keyword ≡ false → 0 < length p.segments
  pub address : begins_segment keyword ≡ true → address_of operands < 2 ^ 32
  pub faultless : operand_fault labels keyword operands ≡ None
  pub fits : IsTrue (offset_fits labels place.here keyword operands)
  pub room : byte_count p.segments + size_of keyword operands place.here ≤ 2 ^ 23

abbrev pub IsReady : List Definition → Place → Statement → Program → Type 0
IsReady labels place Absent p = Unit {0}
IsReady labels place Unlisted p = Unit {0}
IsReady labels place (Listed keyword operands) p = IsReadyFor labels place keyword operands p

-- as many segments, and so many more bytes in the last one
pub record IsGrown (p : Program) (count : ℕ) (q : Program) : Type 0 where
  pub segments : length q.segments ≡ length p.segments
  pub bytes : byte_count q.segments ≡ byte_count p.segments + count

-- One step of each walk through the lines.
use Rattle.std.proofs.Common.{◌≡◌, ℕ, ◌+◌, List, ◌∷◌, refl, Option, None, Some}
use Rattle.std.specs.Option.{option_or}
use Rattle.mx_source.specs.Lines.{Line, line_of}
use Rattle.mx_asm.specs.declared.places.Place.{Place}
use Rattle.mx_asm.specs.declared.faults.SourceFault.{SourceFault}
use Rattle.std.specs.Str.Lines.{lines}
use Rattle.mx_asm.specs.Denoted.{first_fault, labels_of_source}
use Rattle.mx_asm.specs.Places.{place_after, start}
use Rattle.mx_asm.specs.Labels.{Definition, with_name, labels_from}
use Rattle.mx_asm.specs.Faults.{line_fault, offset_fault, at_line, fault_from, offset_from}

module _ (labels : List Definition) (place : Place) (number : ℕ) (text : List ℕ) (line : Line) (rest : List (List ℕ))
    (is : line ≡ line_of text) (after : Place) (moves : after ≡ place_after line.statement place) where
  -- the labels of the later lines
  pub labels_more : (more : List Definition) → more ≡ with_name line.label place.here number labels
      → labels_from after (number + 1) more rest ≡ labels_from place number labels (text ∷ rest)
  unfolding labels_from
  labels_more more adds = rw (adds, moves, is) refl

  -- the fault of the later lines, where this one has none
  pub faults_more : line_fault labels number place line.label line.statement ≡ None
      → fault_from labels after (number + 1) rest ≡ fault_from labels place number (text ∷ rest)
  unfolding fault_from
  faults_more none = rw (moves, (rw is at none)) (rw is refl)

  pub offsets_more : (first : Option SourceFault)
      → option_or (option_or first (at_line number (offset_fault labels place line.statement))) (offset_from labels after (number + 1) rest)
      ≡ option_or first (offset_from labels place number (text ∷ rest))
  unfolding offset_from
  offsets_more None = rw (moves, is) refl
  offsets_more (Some fault) = refl

  -- this line's fault, where it has one
  pub fault_here : (n : ℕ) → line_fault labels number place line.label line.statement ≡ Some n
      → fault_from labels place number (text ∷ rest) ≡ Some (record { line = number; number = n })
  unfolding fault_from
  fault_here n some = rw (rw is at some) refl

-- the first fault of a source is the first one of its lines, or else the first of their offsets
pub first_told : (source : List ℕ) (labels : List Definition) (fault : SourceFault) → labels ≡ labels_of_source source
    → fault_from labels start 1 (lines source) ≡ Some fault → first_fault source ≡ Some fault
unfolding first_fault
first_told source labels fault is told = rw (rw is at told) refl

pub offset_told : (source : List ℕ) (labels : List Definition) (offset : Option SourceFault) → labels ≡ labels_of_source source
    → fault_from labels start 1 (lines source) ≡ None → offset_from labels start 1 (lines source) ≡ offset → first_fault source ≡ offset
unfolding first_fault
offset_told source labels offset is none told = rw (rw is at none) (rw is at told)

pub option_or-none : {A : Type 0} (o : Option A) → option_or o None ≡ o
option_or-none None = refl
option_or-none (Some a) = refl

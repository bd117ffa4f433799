-- A supervisor of one hart between its calls.
use Rattle.std.specs.Prelude.{◌≡◌, ℕ, ◌+◌, ◌<◌, ◌≤◌, length}
use Rattle.mx_words.specs.declared.perm.Span.{Span}
use Rattle.mx_check.specs.Conditions.{MayLook}
use Rattle.mx_heap.specs.HeapState.{HeapState}
use Rattle.mx_table.specs.Tables.{IsDomain}
use Rattle.mx_supervisor.specs.Parts.{Parts, IsSound}

-- hart h is alone and may make any call in domain d
pub record IsAtRest (h d : ℕ) (p : Parts) : Type 0 where
  pub sound : IsSound p
  pub domain : IsDomain p.maps d
  pub alone : length p.harts ≡ 1
  pub may : MayLook h d p.harts

-- two modules over 64 KiB, and hart 0 alone, which may make any call in domain 1
pub record IsReady (p : Parts) : Type 0 where
  pub rest : IsAtRest 0 1 p
  pub modules : length p.maps ≡ 2
  pub words : p.size ≡ 16384

-- a heap's area ends by word n
abbrev pub EndsBy : ℕ → HeapState → Type 0
EndsBy n heap = heap.area.first + heap.area.count ≤ n

-- a span that isn't empty and lies in 64 KiB of RAM
pub record IsSample (s : Span) : Type 0 where
  pub some : 0 < s.count
  pub inside : s.first + s.count ≤ 16384

-- What a store says of itself, and what its calls answer.
-- The rules: docs/PROMISES.md, "The outside".
use Rattle.std.specs.Prelude.{◌≡◌, ℕ, ◌^◌, ◌<◌, ◌≤◌, Bool, IsTrue, List, [], ◌++◌, length, take, drop, min, ◌-◌, Option, Result, IsOk, OnOk}
use Rattle.std.specs.Prelude.{OnErr, unwrap_or}
use Rattle.std.specs.Ordering.{nat_cmp}
use Rattle.std.specs.Cmp.Lexicographic.{slice_cmp}
use Rattle.std.specs.FinMap.{FinMap, get}
use Rattle.mx_io.specs.Count.{Rose}

-- files: a finite map from names to bytes
abbrev pub FileMap : Type 0
FileMap = FinMap (slice_cmp nat_cmp) (List ℕ)

-- the bytes of the file of that name, none where it is absent
abbrev pub file_bytes : FileMap → List ℕ → List ℕ
file_bytes files name = unwrap_or (get files name) []

-- its files, where the store tells them; its count of faults; whether every later call is sure to succeed
pub record StoreState : Type 0 where
  pub told : Option FileMap
  pub faults : ℕ
  pub sure : Bool

-- any call of a store: its files stay, its count never falls and stays where it succeeds, and it fails only where the count rose and
-- success was not sure
pub record Asks {A E : Type 0} (before now : StoreState) (result : Result A E) : Type 0 where
  pub files : now.told ≡ before.told
  pub later : before.faults ≤ now.faults
  pub counted : now.faults < 2 ^ 64
  pub kept : OnOk result (now.faults ≡ before.faults)
  pub failed : OnErr result (Rose before.faults now.faults)
  pub sure : IsTrue before.sure → IsOk result × (now.faults ≡ before.faults) × IsTrue now.sure

-- the greatest part from place `at` on was copied to the start of a slice, whose other bytes stay
pub record CopiesPart (bytes : List ℕ) (at : ℕ) (old now : List ℕ) (k : ℕ) : Type 0 where
  pub count : k ≡ min (length old) (length bytes - at)
  pub copied : now ≡ take k (drop at bytes) ++ drop k old

-- Files in memory that tell nothing, each with a size of its own, as values.
use Rattle.std.specs.Prelude.{◌≡◌, ℕ, List, [], true, Option, None, Some, map, option_map, unwrap_or, take, drop, refl}
use Rattle.std.proofs.Common.{arith}
use Rattle.std.specs.Coded.{Coded, coded×, coded_ℕ, coded_list}
use Rattle.std.specs.Ordering.{nat_cmp}
use Rattle.std.specs.Cmp.Lexicographic.{slice_cmp}
use Rattle.std.specs.FinMap.{FinMap, from_entries, get, insert, code}
use Rattle.mx_io.specs.declared.named.Named.{Named}
use Rattle.mx_io.specs.declared.loose.LooseFile.{LooseFile}
use Rattle.mx_io.specs.Named.{named}
use Rattle.mx_io.specs.Store.{StoreState}
use Rattle.mx_io.specs.Answer.{Answer, Sized, Gave, Tells}

-- from names to a size and bytes
abbrev pub LooseMap : Type 0
LooseMap = FinMap (slice_cmp nat_cmp) (ℕ × List ℕ)

-- a code by which two of them are told apart
abbrev pub loose_code : Coded LooseMap
loose_code = code (coded_list coded_ℕ) (coded× coded_ℕ (coded_list coded_ℕ))

-- the files that entries under names make, the newest first
abbrev pub loose_of : List (Named LooseFile) → LooseMap
loose_of entries = from_entries (map (λ e. (e.0, (e.1.size, e.1.bytes.items))) (named entries))

-- the size that is told of a name
abbrev pub loose_size : LooseMap → List ℕ → Option ℕ
loose_size files name = option_map (λ f. f.0) (get files name)

-- the bytes under a name, none where it is absent
abbrev pub loose_bytes : LooseMap → List ℕ → List ℕ
loose_bytes files name = unwrap_or (option_map (λ f. f.1) (get files name)) []

-- with a size and bytes under a name, in place of older ones
abbrev pub with_loose : LooseMap → List ℕ → ℕ → List ℕ → LooseMap
with_loose files name size bytes = insert files name (size, bytes)

-- as a store: it tells nothing, and no call fails
abbrev pub loose_store : LooseMap → StoreState
loose_store files = record { told = None; faults = 0; sure = true }

-- its answer: the size that it holds for the name, or as many of its bytes from the place on as there is room for
abbrev pub IsHeld : LooseMap → Answer → Type 0
IsHeld files (Sized name size) = size ≡ Some (loose_size files name)
IsHeld files (Gave name at room bytes) = bytes ≡ Some (take room (drop at (loose_bytes files name)))

-- its step: the answer is what it holds, and nothing changes
abbrev pub loose_gives : LooseMap → Answer → LooseMap → Type 0
loose_gives files answer now = IsHeld files answer × (now ≡ files)

not_failed : {A : Type 0} {a : A} → None ≡ Some a → ⊥
not_failed e = cc

-- the steps meet the law of the stores
pub loose_tells : (files : LooseMap) → (answer : Answer) → (now : LooseMap) →
    loose_gives files answer now → Tells (loose_store files) answer (loose_store now)
loose_tells files (Sized name (Some size)) now step =
    record {
      files = refl;
      later = omega arith;
      counted = omega arith;
      kept = λ _. refl;
      failed = λ fails. absurd (fails tt);
      sure = λ _. (tt, refl, refl);
      told = tt;
    }
loose_tells files (Sized name None) now step = absurd (not_failed step.0)
loose_tells files (Gave name at room (Some bytes)) now step =
    record {
      files = refl;
      later = omega arith;
      counted = omega arith;
      kept = λ _. refl;
      failed = λ fails. absurd (fails tt);
      sure = λ _. (tt, refl, refl);
      told = tt;
    }
loose_tells files (Gave name at room None) now step = absurd (not_failed step.0)

-- What holds of each word of a range, and the test of all of them.
use Rattle.std.proofs.Common.{ℕ, ◌≡◌, ◌+◌, ◌<◌, ◌≤◌, Bool, true, false, refl, sym}
use Rattle.std.specs.Prelude.{IsTrue, ◌↔◌}
use Rattle.std.specs.List.{list_all, range_with_len}
use Rattle.mx_words.proofs.RangeTests.{all_pass, each_passes}

-- a test of a range, told by a fact of each of its words
pub all_told : (test : ℕ → Bool) (first count : ℕ) (b : Bool) → (IsTrue b ↔ ((w : ℕ) → first ≤ w → w < first + count → test w ≡ true))
    → b ≡ list_all test (range_with_len first count)
all_told test first count b told = by b (list_all test (range_with_len first count)) (λ t. all_pass test first count (told.0 t)) (λ t.
    told.1 (each_passes test first count t))
  where
    by : (b c : Bool) → (b ≡ true → c ≡ true) → (c ≡ true → b ≡ true) → b ≡ c
    by true c p q = sym (p refl)
    by false true p q = q refl
    by false false p q = refl

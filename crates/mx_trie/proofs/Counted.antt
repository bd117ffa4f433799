-- Numbers of a range that pass a test, counted one by one.
use Rattle.std.proofs.Common.{◌≡◌, ℕ, ◌+◌, ◌-◌, ◌<◌, ◌≤◌, Bool, true, false, arith}
use mir.Val.{bool_byte}
use Rattle.mx_words.specs.Counting.{bit}
use Rattle.mx_words.proofs.CountingLaws.{count_below-zero, count_below-more, count_below_still, bit-le}
use Rattle.mx_trie.specs.After.{count_from}

pub byte-bit : (b : Bool) → bool_byte b ≡ bit b
byte-bit x = grind arith

-- the numbers from `from` up to `at` are counted, of those up to `to`
pub record IsCountedTo (from at to count : ℕ) (test : ℕ → Bool) : Type 0 where
  pub begun : from ≤ at
  pub within : at ≤ to
  pub count_is : count ≡ count_from from at test
  pub few : count ≤ at - from

pub counted_none : (from to : ℕ) (test : ℕ → Bool) → from ≤ to → IsCountedTo from from to 0 test
counted_none from to test le = let zero = count_below-zero (λ i. test (from + i)) in search arith

pub counted_more : (from at to count byte : ℕ) (test : ℕ → Bool) (told : Bool) → IsCountedTo from at to count test →
    at < to → byte ≡ bool_byte told → told ≡ test at →
    IsCountedTo from (at + 1) to (count + byte) test
counted_more from at to count byte test told so below is here =
    search (arith, bit-le, byte-bit, count_below-more (at - from) (λ i. test (from + i)))

pub counted_all : (from at to count : ℕ) (test : ℕ → Bool) → IsCountedTo from at to count test → to ≤ at →
    count ≡ count_from from to test
counted_all from at to count test so end = grind arith

-- of the numbers first to last those between the two ends don't pass
pub edges-one : (first last count : ℕ) (test : ℕ → Bool) (told : Bool) → first ≡ last → count ≡ bool_byte told →
    told ≡ test first → count ≡ count_from first (last + 1) test
edges-one first last count test told same is here = search (arith, counted_more, counted_none)

-- the one number of a range that has some passes
pub one-counted : (first last count : ℕ) (test : ℕ → Bool) → first ≡ last → count ≡ count_from first (last + 1) test →
    0 < count → test first ≡ true
one-counted first last count test same is some = search (arith, edges-one)

pub edges-two : (first last one two : ℕ) (test : ℕ → Bool) (told told' : Bool) → first < last →
    ((i : ℕ) → first < i → i < last → test i ≡ false) →
    one ≡ bool_byte told → told ≡ test first → two ≡ bool_byte told' → told' ≡ test last →
    one + two ≡ count_from first (last + 1) test
edges-two first last one two test told told' less inner is here is' there =
    search (
      arith,
      edges-one,
      counted_more,
      byte-bit,
      bit-le,
      count_below_still (first + 1 - first) (last - first) (λ i. test (first + i))
          (omega arith) (λ i a b. inner _ (omega arith) (omega arith)),
    )

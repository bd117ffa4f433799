-- What the maps of all domains need in a trie, counted domain by domain.
use Rattle.std.proofs.Common.{◌≡◌, ℕ, zero, suc, ◌+◌, ◌*◌, ◌/◌, ◌<◌, ◌≤◌, inl, inr, List, [], length, get_or, sum_by, arith}
use Rattle.std.proofs.Math.Nat.{suc-mul}
use Rattle.std.proofs.lemmas.List.{get_or_default}
use Rattle.mx_words.specs.declared.perm.Perm.{Perm}
use Rattle.mx_words.specs.declared.tables.Kind.{Kind}
use Rattle.mx_words.specs.declared.tables.Kind.TheVariants as K
use Rattle.mx_words.specs.declared.tables.Need.{Need}
use Rattle.mx_words.specs.Changes.{grant_of}
use Rattle.mx_words.specs.Newest.{laid}
use Rattle.mx_words.specs.Counting.{sum_below, list_below}
use Rattle.mx_words.specs.Runs.{broken_blocks, crowded_lines, region_words, page_words}
use Rattle.mx_words.specs.Need.{need, upper_frames}
use Rattle.mx_words.proofs.CountingLaws.{count_below_agree, count_below_none, sum_below_agree, list_below_is, sum_by-list_below}
use Rattle.mx_words.proofs.BlockLaws.{crowded_lines-count}
use Rattle.mx_words.proofs.BrokenLaws.{crowded_lines-after}
use Rattle.mx_words.proofs.OverlayLaws.{length-laid}
use Rattle.mx_table.specs.Tables.{most_words}
use Rattle.mx_trie.specs.Leaf.{IsTrieKind}
use Rattle.mx_trie.specs.Walk.{most_lines}
use Rattle.mx_trie.specs.Laying.{spill_lines}
use Rattle.mx_trie.specs.After.{IsNeedOf}
use Rattle.mx_trie.proofs.RegionPages.{sum_below-none}

-- the lines that need a spill word are the crowded ones in packed tables, and none in plain ones
spill_lines-plain : (kind : Kind) (m : List Perm) → kind ≡ K.Multilevel → spill_lines kind m ≡ 0
spill_lines-plain kind m e = rw e (search (arith, count_below_none))

spill_lines-packed : (kind : Kind) (m : List Perm) → kind ≡ K.Packed → length m ≤ most_words →
    spill_lines kind m ≡ crowded_lines m
spill_lines-packed kind m e few =
    (let at : (z : ℕ) → z * 16 / 16 ≡ z = λ z. omega arith in
    rw e (search (arith, count_below_agree, crowded_lines-count m most_lines, at)))

-- a sum over a list, by index
sum-listed : {A : Type 0} (f : A → ℕ) (n : ℕ) (g : ℕ → A) (xs : List A) (x : A) → length xs ≡ n →
    ((i : ℕ) → i < n → get_or xs i x ≡ g i) → sum_by f xs ≡ sum_below n (λ i. f (g i))
sum-listed f n g xs x long at =
    (let same : list_below n g ≡ xs = search (arith, list_below_is, get_or_default) in cc (sum_by-list_below f n g))

-- so many more for each number
pub sum_below-each : (n more : ℕ) (f : ℕ → ℕ) → sum_below n (λ i. more + f i) ≡ n * more + sum_below n f
unfolding sum_below
sum_below-each zero more f = omega arith
sum_below-each (suc n) more f = omega (arith, sum_below-each n more f, suc-mul n more)

-- a permission laid over a range makes at most two more lines need a spill word
pub spill-two : (kind : Kind) → IsTrieKind kind → (m : List Perm) (first count : ℕ) (p : Perm) →
    first + count ≤ length m → length m ≤ most_words →
    spill_lines kind (laid (grant_of first count p) m) ≤ spill_lines kind m + 2
spill-two kind k m first count p inside few =
    grind (arith, spill_lines-plain kind, spill_lines-packed kind, crowded_lines-after m first count p inside most_lines few, length-laid)

-- the need of a list of maps: a root table per domain and a mid table per broken region, a leaf table per broken page, and a spill word
-- per line that needs one
pub need-listed : (kind : Kind) → IsTrieKind kind → (n : ℕ) (maps : ℕ → List Perm) (list : List (List Perm)) →
    length list ≡ n → ((d : ℕ) → d < n → get_or list d [] ≡ maps d) →
    ((d : ℕ) → d < n → length (maps d) ≤ most_words) → IsNeedOf kind n maps (need kind list)
need-listed kind k n maps list long at short =
    let upper = sum-listed upper_frames n maps list [] long at in
    let leaf = sum-listed (broken_blocks page_words) n maps list [] long at in
    let lines = sum-listed crowded_lines n maps list [] long at in
    let each = sum_below-each n 1 (λ d. broken_blocks region_words (maps d)) in elim k [
      | inl e ↦ (let none : sum_below n (λ d. spill_lines K.Multilevel (maps d)) ≡ 0 =
          search (arith, sum_below-none, spill_lines-plain K.Multilevel) in rw e (search arith))
      | inr e ↦ (let some : sum_below n (λ d. crowded_lines (maps d)) ≡ sum_below n (λ d. spill_lines K.Packed (maps d)) =
          search (arith, sum_below_agree, spill_lines-packed) in rw e (search arith))
    ]

pub need-same : (kind : Kind) (n : ℕ) (maps : ℕ → List Perm) (a b : Need) → IsNeedOf kind n maps a →
    IsNeedOf kind n maps b → a ≡ b
need-same kind n maps a b x y = search arith

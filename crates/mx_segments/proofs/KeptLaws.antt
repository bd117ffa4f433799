-- What follows for the maps of all domains.
use Rattle.std.proofs.Common.{◌≡◌, ◌≢◌, ℕ, ◌+◌, ◌*◌, ◌<◌, ◌≤◌, Bool, true, false, ◌&&◌, nat_le, List, length, sum_by, Option, refl, sym}
use Rattle.std.proofs.Common.{◌∙◌, ap, arith}
use Rattle.std.proofs.lemmas.Bool.Decides.{nat_tests}
use Rattle.std.proofs.lemmas.List.{same_lists}
use Rattle.mx_words.specs.declared.perm.Perm.{Perm}
use Rattle.mx_words.specs.declared.tables.Need.{Need}
use Rattle.mx_words.specs.Counting.{count_below, list_below, sum_below}
use Rattle.mx_words.specs.Starts.{is_start}
use Rattle.mx_words.specs.Need.{segment_frames, within}
use Rattle.mx_words.specs.Changes.{changed_map, changed_from}
use Rattle.mx_words.proofs.CountingLaws.{count_below_after, list_below_is, sum_below-more, sum_by-list_below}
use Rattle.mx_words.proofs.ChangeLaws.{length-changed_from, changed_from-at}
use Rattle.mx_table.proofs.WithinLaws.{within-parts}
use Rattle.mx_pool.specs.Frames.{Frames}
use Rattle.mx_segments.specs.Store.{frames_in, word_in, KeepsOthers}
use Rattle.mx_segments.specs.Entries.{IsChain}
use Rattle.mx_segments.specs.Sound.{map_in, IsSound}
use Rattle.mx_segments.specs.Kept.{maps_in}
use Rattle.mx_segments.specs.Shape.{length-maps_in, maps_in-at}
use Rattle.mx_segments.proofs.EntryLaws.{runs_are, runs_held}
use Rattle.mx_segments.proofs.LaidLaws.{means, means_itself}

-- the same words in as many frames are the same chain
pub chain_same : (words n n' : ℕ) (w w' : ℕ → ℕ) (m : List Perm) → IsChain words n w m → n' ≡ n → ((k : ℕ) → k < 64 * n → w' k ≡ w k)
    → IsChain words n' w' m
chain_same words n n' w w' m chain same_n same =
    let held = runs_held words n w m chain in
    record {
      length_is = chain.length_is;
      frames_are = same_n ∙ chain.frames_are;
      entries = λ i lt start. same (count_below i (is_start m))
          (omega (arith, held, runs_are words n w m chain, count_below_after i words (is_start m) lt start)) ∙ chain.entries i lt start;
      rest = λ k from lt. same k (omega (arith, same_n)) ∙ chain.rest k from (omega (arith, same_n));
    }

-- a change of one row keeps the maps of all others
module _ (words : ℕ) (fs : Frames) (ls : List (List ℕ)) (fs' : Frames) (ls' : List (List ℕ)) (row : ℕ)
    (keeps : KeepsOthers fs ls fs' ls' row)
    (q : ℕ) (ne : q ≢ row) (sound : IsSound words fs ls q) where
  kept_frames : frames_in ls' q ≡ frames_in ls q
  kept_frames = ap (λ (l : List ℕ). length l) (keeps.chains q ne)

  kept_chain : IsChain words (frames_in ls' q) (word_in fs' ls' q) (map_in words fs ls q)
  kept_chain = chain_same words (frames_in ls q) (frames_in ls' q) (word_in fs ls q) (word_in fs' ls' q) (map_in words fs ls q) sound
      kept_frames (λ k lt. keeps.words q k ne lt)

  pub kept_map : map_in words fs' ls' q ≡ map_in words fs ls q
  kept_map = means words (frames_in ls' q) (word_in fs' ls' q) (map_in words fs ls q) kept_chain

  pub kept_sound : IsSound words fs' ls' q
  kept_sound = means_itself words (frames_in ls' q) (word_in fs' ls' q) (map_in words fs ls q) kept_chain

pub within_test : (leaf : ℕ) (limit : Need) → within (record { upper = 0; leaf = leaf; spill = 0 }) limit ≡ nat_le leaf limit.leaf
within_test leaf limit =
    let low : nat_le 0 limit.upper ≡ true = grind (arith, nat_tests) in
    let high : nat_le 0 limit.spill ≡ true = grind (arith, nat_tests) in
    ap (λ b. b && nat_le leaf limit.leaf && nat_le 0 limit.spill) low ∙ ap (λ b. true && nat_le leaf limit.leaf && b) high
    ∙ last (nat_le leaf limit.leaf)
  where
    last : (b : Bool) → (true && b && true) ≡ b
    last true = refl
    last false = refl

pub fit_of : (leaf : ℕ) (limit : Need) → within (record { upper = 0; leaf = leaf; spill = 0 }) limit ≡ true → leaf ≤ limit.leaf
fit_of leaf limit e = (within-parts (record { upper = 0; leaf = leaf; spill = 0 }) limit e).leaf

-- where each row has its changed map, the maps are the changed ones
pub changed_maps_in : (words : ℕ) (fs : Frames) (ls : List (List ℕ)) (fs' : Frames) (ls' : List (List ℕ)) (first count : ℕ) (given : ℕ
    → Option Perm) →
    length ls' ≡ length ls →
    ((q : ℕ) → q < length ls → map_in words fs' ls' q ≡ changed_map first count (given (q + 1)) (map_in words fs ls q)) →
    maps_in words fs' ls' ≡ changed_from first count given 1 (maps_in words fs ls)
changed_maps_in words fs ls fs' ls' first count given len each =
    same_lists (maps_in words fs' ls') (changed_from first count given 1 (maps_in words fs ls))
    (length-maps_in words fs' ls' ∙ len ∙ sym (length-maps_in words fs ls)
    ∙ sym (length-changed_from first count given 1 (maps_in words fs ls)))
    (λ k x lt. let below : k < length ls' = omega (arith, length-maps_in words fs' ls') in
    let below' : k < length ls = omega (arith, len) in
    let there : k < length (maps_in words fs ls) = omega (arith, length-maps_in words fs ls) in
    maps_in-at words fs' ls' k x below ∙ each k below' ∙ ap (changed_map first count (given (k + 1)))
    (sym (maps_in-at words fs ls k x below'))
    ∙ sym (changed_from-at first count given 1 (maps_in words fs ls) k (k + 1) x there (omega arith)))

pub sum_step : (f : ℕ → ℕ) (n a b : ℕ) → a ≡ sum_below n f → b ≡ f n → a + b ≡ sum_below (n + 1) f
sum_step f n a b so_far here = omega (arith, so_far, here, sum_below-more n f)

-- the need of the changed maps, row by row
pub need_changed : (words : ℕ) (fs : Frames) (ls : List (List ℕ)) (first count : ℕ) (given : ℕ → Option Perm) →
    sum_by segment_frames (changed_from first count given 1 (maps_in words fs ls))
    ≡ sum_below (length ls) (λ q. segment_frames (changed_map first count (given (q + 1)) (map_in words fs ls q)))
need_changed words fs ls first count given =
    let h : ℕ → List Perm = λ q. changed_map first count (given (q + 1)) (map_in words fs ls q) in
    let lists : list_below (length ls) h ≡ changed_from first count given 1 (maps_in words fs ls) =
    list_below_is (length ls) h (changed_from first count given 1 (maps_in words fs ls))
    (length-changed_from first count given 1 (maps_in words fs ls) ∙ length-maps_in words fs ls)
    (λ i x lt. let there : i < length (maps_in words fs ls) = omega (arith, length-maps_in words fs ls) in
    changed_from-at first count given 1 (maps_in words fs ls) i (i + 1) x there (omega arith)
    ∙ ap (changed_map first count (given (i + 1))) (maps_in-at words fs ls i x lt)) in
    ap (λ (ms : List (List Perm)). sum_by segment_frames ms) (sym lists) ∙ sum_by-list_below segment_frames (length ls) h

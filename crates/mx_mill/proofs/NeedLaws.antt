-- The need of maps with few grants. A map without a grant needs a root table alone; each grant breaks at most two regions and two
-- pages more, and crowds at most two lines more.
use Rattle.std.proofs.Common.{◌≡◌, ℕ, zero, suc, ◌+◌, ◌*◌, ◌/◌, ◌<◌, ◌≤◌, ◌⊎◌, inl, inr, Bool, true, nat_le, not, List, [], ◌∷◌, ◌++◌}
use Rattle.std.proofs.Common.{length, replicate, sum_by, refl, sym, ap, ◌∙◌, arith, le-leb, length-take}
use Rattle.std.proofs.Common.{map as list_map}
use Rattle.std.specs.List.{list_all}
use Rattle.std.proofs.lemmas.Bool.{and_parts, cases_lt, le-ltb, leb-true}
use Rattle.std.proofs.lemmas.List.{get_or_past}
use Rattle.std.proofs.lemmas.List.Sums.{sum_by-cons}
use Rattle.std.specs.Prelude.{drop}
use Rattle.mx_words.specs.declared.perm.Perm.{Perm}
use Rattle.mx_words.specs.declared.perm.Perm.TheVariants as P
use Rattle.mx_words.specs.declared.tables.Kind.TheVariants as K
use Rattle.mx_words.specs.declared.tables.Need.{Need}
use Rattle.mx_words.specs.Blocks.{block_of, is_broken}
use Rattle.mx_words.specs.Counting.{count_below}
use Rattle.mx_words.specs.Need.{need, upper_frames, within}
use Rattle.mx_words.specs.Newest.{Grant, laid, map}
use Rattle.mx_words.specs.Rights.{perm_at}
use Rattle.mx_words.specs.Runs.{broken_blocks, crowded_lines, is_crowded, line_words, page_words, region_words, runs, whole_line}
use Rattle.mx_words.specs.Starts.{is_start}
use Rattle.mx_words.proofs.BlockLaws.{block_of-at, broken_blocks-count, crowded_lines-count, whole-even}
use Rattle.mx_words.proofs.BrokenLaws.{broken_blocks-after, crowded_lines-after}
use Rattle.mx_words.proofs.CountingLaws.{bit-le, count_below-zero, count_below_first, count_below_none}
use Rattle.mx_words.proofs.OverlayLaws.{length-map_of, map-append, map-at}
use Rattle.mx_words.proofs.RunLaws.{is_start-behind, runs-count, same_from}

-- no word of a map without a grant has a permission
none-at : (words i : ℕ) → perm_at (map [] words) i ≡ P.None
none-at words i = by (cases_lt i words)
  where
    by : (i < words) ⊎ (words ≤ i) → perm_at (map [] words) i ≡ P.None
    by (inl h) = map-at [] words i P.None h
    by (inr h) = get_or_past (map [] words) i P.None (omega (arith, length-map_of [] words))

none-broken : (size part k words : ℕ) → size / 8 ≡ part → size ≡ 8 * part → 0 < part → words ≤ k * size
    → broken_blocks size (map [] words) ≡ 0
none-broken size part k words is eight some within =
    let m : List Perm = map [] words in
    broken_blocks-count size m k (omega arith) (omega (arith, length-map_of [] words))
    ∙ count_below_none k (is_broken size m)
    (λ b below.
    let zero_more : b * size + 0 ≡ b * size = omega arith in
    whole-even size part m b is eight some (record { alike = λ j inside. none-at words (b * size + j) ∙ sym (none-at words (b * size)) }))

-- a list without a permission has one run at most
none-runs : (xs : List Perm) → ((i : ℕ) → perm_at xs i ≡ P.None) → runs xs ≤ 1
none-runs xs none = by (length xs) refl
  where
    by : (n : ℕ) → n ≡ length xs → runs xs ≤ 1
    by zero e = omega (arith, runs-count xs, ap (λ k. count_below k (is_start xs)) (sym e), count_below-zero (is_start xs))
    by (suc n) e =
        let long : length xs ≡ n + 1 = omega (arith, e) in
        let rest : count_below n (λ i. is_start xs (i + 1)) ≡ 0 =
        count_below_none n (λ i. is_start xs (i + 1))
        (λ i below. is_start-behind xs i ∙ ap not (same_from (perm_at xs i) (perm_at xs (i + 1)) (none i ∙ sym (none (i + 1))))) in
        omega (
          arith,
          runs-count xs,
          ap (λ k. count_below k (is_start xs)) long,
          count_below_first n (is_start xs),
          rest,
          bit-le
              (is_start xs 0),
        )

-- nor does such a line with the words outside RAM
replicate-none : (n j : ℕ) → perm_at (replicate n P.None) j ≡ P.None
replicate-none zero j = get_or_past [] j P.None (omega arith)
replicate-none (suc n) zero = refl
replicate-none (suc n) (suc j) = replicate-none n j

append-none : (ps : List Perm) (n j : ℕ) → ((i : ℕ) → perm_at ps i ≡ P.None) → perm_at (ps ++ replicate n P.None) j ≡ P.None
append-none [] n j none = replicate-none n j
append-none (p ∷ ps) n zero none = none 0
append-none (p ∷ ps) n (suc j) none = append-none ps n j (λ i. none (suc i))

none-block : (words b i : ℕ) → perm_at (block_of line_words (map [] words) b) i ≡ P.None
none-block words b i = by (cases_lt i line_words)
  where
    by : (i < line_words) ⊎ (line_words ≤ i) → perm_at (block_of line_words (map [] words) b) i ≡ P.None
    by (inl h) = block_of-at line_words (map [] words) b i h ∙ none-at words (b * line_words + i)
    by (inr h) = get_or_past (block_of line_words (map [] words) b) i P.None
        (omega (arith, length-take line_words (drop (b * line_words) (map [] words))))

none-crowded : (k words : ℕ) → words ≤ k * line_words → crowded_lines (map [] words) ≡ 0
none-crowded k words within =
    let m : List Perm = map [] words in
    crowded_lines-count m k (omega (arith, length-map_of [] words))
    ∙ count_below_none k (λ b. is_crowded (block_of line_words m b))
    (λ b below.
    let block : List Perm = block_of line_words m b in
    let one : runs (whole_line block) ≤ 1 = none-runs (whole_line block) (λ j. append-none block _ j (none-block words b)) in
    le-ltb 4 (runs (whole_line block)) (omega arith))

-- whether a grant lies in a RAM of so many words
abbrev pub lies_in : ℕ → Grant → Bool
lies_in words g = nat_le (g.first + g.count) words

abbrev pub single : Grant → List Grant
single g = g ∷ []

-- the map of one grant
module _ (words : ℕ) (g : Grant) (few : words ≤ 16777216) (inside : g.first + g.count ≤ words) where
  in_map : g.first + g.count ≤ length (map [] words)
  in_map = omega (arith, length-map_of [] words)

  one-broken : (size part k : ℕ) → size / 8 ≡ part → size ≡ 8 * part → 0 < part → words ≤ k * size
      → broken_blocks size (map (single g) words) ≤ 2
  one-broken size part k is eight some within =
      let laid_is : broken_blocks size (map (single g) words) ≡ broken_blocks size (laid g (map [] words)) =
      ap (broken_blocks size) (map-append [] g words) in
      let more = broken_blocks-after (map [] words) g.first g.count g.value in_map size part k is eight some
      (omega (arith, length-map_of [] words)) in
      omega (arith, laid_is, more, none-broken size part k words is eight some within)

  pub one-upper : upper_frames (map (single g) words) ≤ 3
  one-upper = omega (arith, one-broken region_words 131072 16 refl refl (omega arith) (omega arith))

  pub one-leaf : broken_blocks page_words (map (single g) words) ≤ 2
  one-leaf = one-broken page_words 128 16384 refl refl (omega arith) (omega arith)

  pub one-spill : crowded_lines (map (single g) words) ≤ 2
  one-spill =
      let laid_is : crowded_lines (map (single g) words) ≡ crowded_lines (laid g (map [] words)) =
      ap crowded_lines (map-append [] g words) in
      let more = crowded_lines-after (map [] words) g.first g.count g.value in_map 1048576 (omega (arith, length-map_of [] words)) in
      omega (arith, laid_is, more, none-crowded 1048576 words (omega arith))

-- maps of one grant each
abbrev pub maps_of : ℕ → List Grant → List (List Perm)
maps_of words gs = list_map (λ grants. map grants words) (list_map single gs)

sum-few : (words n : ℕ) (f : List Perm → ℕ) → ((g : Grant) → g.first + g.count ≤ words → f (map (single g) words) ≤ n) → (gs : List Grant)
    → list_all (lies_in words) gs ≡ true
    → sum_by f (maps_of words gs) ≤ n * length gs
sum-few words n f each [] all = omega arith
sum-few words n f each (g ∷ gs) all =
    let parts = and_parts (lies_in words g) (list_all (lies_in words) gs) all in
    let here : f (map (single g) words) ≤ n = each g (leb-true (g.first + g.count) words parts.0) in
    let rest : sum_by f (maps_of words gs) ≤ n * length gs = sum-few words n f each gs parts.1 in
    omega (arith, here, rest, sum_by-cons f (map (single g) words) (maps_of words gs))

-- what they need
pub few-within : (words : ℕ) (gs : List Grant) (limit : Need) → words ≤ 16777216 → list_all (lies_in words) gs ≡ true
    → 3 * length gs ≤ limit.upper → 2 * length gs ≤ limit.leaf → 2 * length gs ≤ limit.spill
    → within (need K.Packed (maps_of words gs)) limit ≡ true
few-within words gs limit few all upper leaf spill =
    let maps : List (List Perm) = maps_of words gs in
    let u : sum_by upper_frames maps ≤ 3 * length gs = sum-few words 3 upper_frames (λ g inside. one-upper words g few inside) gs all in
    let l : sum_by (broken_blocks page_words) maps ≤ 2 * length gs =
    sum-few words 2 (broken_blocks page_words) (λ g inside. one-leaf words g few inside) gs all in
    let s : sum_by crowded_lines maps ≤ 2 * length gs = sum-few words 2 crowded_lines (λ g inside. one-spill words g few inside) gs all in
    rw (
      le-leb (sum_by upper_frames maps) limit.upper (omega arith),
      le-leb (sum_by (broken_blocks page_words) maps) limit.leaf
          (omega arith),
      le-leb (sum_by crowded_lines maps) limit.spill (omega arith),
    ) refl

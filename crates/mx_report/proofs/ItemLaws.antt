-- The stored items of a map: each word lies in the item that decides it, which decides each of its words.
use Rattle.std.proofs.Common.{◌≡◌, ℕ, suc, ◌+◌, ◌-◌, ◌*◌, ◌/◌, ◌<◌, ◌≤◌, ◌⊎◌, inl, inr, ◌==◌, Bool, true, false, cond, if◌then◌else◌, List}
use Rattle.std.proofs.Common.{[], ◌++◌, length, get_or, take, drop, reverse, slice_range, min, flat_map, refl, sym, ap, ◌∙◌, subst, arith}
use Rattle.std.specs.List.{prefix_len, suffix_len, range_with_len}
use Rattle.std.proofs.lemmas.Bool.{cases_lt}
use Rattle.std.proofs.lemmas.List.{get_or-reverse, length-reverse}
use Rattle.std.proofs.lemmas.List.Sums.{prefix_len_stops, suffix_len-le-length}
use Rattle.mx_words.specs.declared.perm.Perm.{Perm}
use Rattle.mx_words.specs.declared.perm.Perm.TheVariants as P
use Rattle.mx_words.specs.declared.tables.Kind.{Kind}
use Rattle.mx_words.specs.declared.tables.Kind.TheVariants as K
use Rattle.mx_words.specs.declared.tables.Level.TheVariants as L
use Rattle.mx_words.specs.declared.tables.Shown.{Shown}
use Rattle.mx_words.specs.Rights.{same, perm_at}
use Rattle.mx_words.specs.Runs.{is_eighth_uniform, block_at, is_crowded, line_words, page_words, region_words}
use Rattle.mx_words.specs.Reach.{span_within, line_level, stored, stored_at, shown_run, vector, line_entry, packed, line_at}
use Rattle.mx_model.specs.Reads.{map_in}
use Rattle.mx_model.specs.State.{Flat}
use Rattle.mx_report.specs.Lines.{shown_line}
use Rattle.mx_report.specs.Texts.{has_rights, item_text, shown_text}
use Rattle.mx_report.proofs.RangeTexts.{range_blank}
use Rattle.mx_words.proofs.RunLaws.{IsRound, slice-at, length-slice, span_within_is}
use Rattle.mx_words.proofs.ReachLaws.{IsUniformRound, within_round}

-- an item with word i in it, in the list, that decides each of its words
pub record IsItemRound (kind : Kind) (m : List Perm) (i : ℕ) (s : Shown) : Type 0 where
  pub left : s.first ≤ i
  pub right : i < s.first + s.count
  pub inside : s.first + s.count ≤ length m
  pub alike : (j : ℕ) → s.first ≤ j → j < s.first + s.count → stored kind m j ≡ s

-- the run round a word: the words at its edges have other permissions
module _ (m : List Perm) (i : ℕ) (lt : i < length m) where
  abbrev first : ℕ
  first = (span_within m 0 (length m) i).first

  abbrev behind : ℕ
  behind = (span_within m 0 (length m) i).first + (span_within m 0 (length m) i).count

  left_edge : 0 < first → same (perm_at m i) (perm_at m (first - 1)) ≡ false
  left_edge some =
      let left = suffix_len (same (perm_at m i)) (slice_range m 0 i) in
      let most = suffix_len-le-length (same (perm_at m i)) (slice_range m 0 i) in
      let long = length-slice m 0 i (omega arith) in
      let turned = length-reverse (slice_range m 0 i) in
      let stop : same (perm_at m i) (get_or (reverse (slice_range m 0 i)) left P.None) ≡ false =
      prefix_len_stops (same (perm_at m i)) (reverse (slice_range m 0 i)) P.None (omega (arith, most, long, turned)) in
      let back : get_or (reverse (slice_range m 0 i)) left P.None
      ≡ get_or (slice_range m 0 i) (length (slice_range m 0 i) - 1 - left) P.None =
      get_or-reverse (slice_range m 0 i) left P.None (omega (arith, most, long)) in
      let place : 0 + (length (slice_range m 0 i) - 1 - left) ≡ first - 1 = omega (arith, most, long) in
      let at = slice-at m 0 i (length (slice_range m 0 i) - 1 - left) (omega (arith, most, long)) in
      ap (same (perm_at m i)) (sym (back ∙ at ∙ ap (perm_at m) place)) ∙ stop

  right_edge : behind < length m → same (perm_at m i) (perm_at m behind) ≡ false
  right_edge more =
      let left = suffix_len (same (perm_at m i)) (slice_range m 0 i) in
      let right = prefix_len (same (perm_at m i)) (slice_range m i (length m)) in
      let most = suffix_len-le-length (same (perm_at m i)) (slice_range m 0 i) in
      let low = length-slice m 0 i (omega arith) in
      let long = length-slice m i (length m) (omega arith) in
      let stop : same (perm_at m i) (get_or (slice_range m i (length m)) right P.None) ≡ false =
      prefix_len_stops (same (perm_at m i)) (slice_range m i (length m)) P.None (omega (arith, most, low, long)) in
      let place : i + right ≡ behind = omega (arith, most, low) in
      let at = slice-at m i (length m) right (omega (arith, most, low, long)) in
      ap (same (perm_at m i)) (sym (at ∙ ap (perm_at m) place)) ∙ stop

  round : IsUniformRound m i (span_within m 0 (length m) i)
  round = within_round m 0 (length m) i (omega arith) lt lt

  perm_is : (j : ℕ) → first ≤ j → j < behind → perm_at m j ≡ perm_at m i
  perm_is j lo hi = round.alike j lo hi

  -- the run round any of its words
  round_at : (j : ℕ) → first ≤ j → j < behind → IsRound m 0 (length m) first behind j
  round_at j lo hi =
      record {
        from = omega arith;
        left = lo;
        right = hi;
        to = round.inside;
        inside = λ k l h. perm_is j lo hi ∙ sym (perm_is k l h);
        before = λ some. ap (λ p. same p (perm_at m (first - 1))) (perm_is j lo hi) ∙ left_edge some;
        after = λ more. ap (λ p. same p (perm_at m behind)) (perm_is j lo hi) ∙ right_edge more;
      }

  run_alike : (j : ℕ) → first ≤ j → j < behind → span_within m 0 (length m) j ≡ span_within m 0 (length m) i
  run_alike j lo hi =
      let left = round.left in
      let right = round.right in
      span_within_is m 0 (length m) first behind j (omega arith) (round_at j lo hi)
      ∙ ap (λ p. record { first = first; count = behind - first; perm = p }) (perm_is j lo hi)
      ∙ sym (span_within_is m 0 (length m) first behind i (omega arith) (round_at i left right))

  segment_round : IsItemRound K.Segments m i (shown_run (span_within m 0 (length m) i))
  segment_round = record {
    left = round.left;
    right = round.right;
    inside = round.inside;
    alike = λ j lo hi.
        ap shown_run (run_alike j lo hi);
  }

-- the blocks that hold a word, and those that hold another word of the same line, page or region
module _ (m : List Perm) (i j : ℕ) where
  same_region : j / region_words ≡ i / region_words → is_eighth_uniform region_words (block_at region_words m j)
      ≡ is_eighth_uniform region_words (block_at region_words m i)
  same_region e = ap (λ (q : ℕ). is_eighth_uniform region_words (take region_words (drop (q * region_words) m))) e

  same_page : j / page_words ≡ i / page_words → is_eighth_uniform page_words (block_at page_words m j)
      ≡ is_eighth_uniform page_words (block_at page_words m i)
  same_page e = ap (λ (q : ℕ). is_eighth_uniform page_words (take page_words (drop (q * page_words) m))) e

  same_line : j / line_words ≡ i / line_words → is_crowded (block_at line_words m j) ≡ is_crowded (block_at line_words m i)
  same_line e = ap (λ (q : ℕ). is_crowded (take line_words (drop (q * line_words) m))) e

  -- the items of a block of `size` words
  same_root : (kind : Kind) → j / region_words ≡ i / region_words → stored_at kind L.Root m j ≡ stored_at kind L.Root m i
  same_root kind e = ap (λ (q : ℕ). record {
    level = L.Root;
    first = q * region_words;
    count =
        min region_words (length m - q * region_words);
    stored = vector region_words m (q * region_words);
  }) e

  same_mid : (kind : Kind) → j / page_words ≡ i / page_words → stored_at kind L.Mid m j ≡ stored_at kind L.Mid m i
  same_mid kind e = ap (λ (q : ℕ). record {
    level = L.Mid;
    first = q * page_words;
    count = min page_words (length m - q * page_words);
    stored = vector page_words m (q * page_words);
  }) e

  same_leaf : (kind : Kind) → j / line_words ≡ i / line_words → stored_at kind L.Leaf m j ≡ stored_at kind L.Leaf m i
  same_leaf kind e = ap (λ (q : ℕ). record {
    level = L.Leaf;
    first = q * line_words;
    count = min line_words (length m - q * line_words);
    stored = line_entry kind m (q * line_words);
  }) e

  same_spill : (kind : Kind) → j / line_words ≡ i / line_words → stored_at kind L.Spill m j ≡ stored_at kind L.Spill m i
  same_spill kind e = ap (λ (q : ℕ). record {
    level = L.Spill;
    first = q * line_words;
    count = min line_words (length m - q * line_words);
    stored = packed (line_at m (q * line_words));
  }) e

-- a trie's item for word i, by the tests of its region, its page and its line
abbrev trie_item : Kind → Bool → Bool → Bool → List Perm → ℕ → Shown
trie_item kind a b c m i = stored_at kind (cond a L.Root (cond b L.Mid (line_level kind c))) m i

abbrev region_test : List Perm → ℕ → Bool
region_test m i = is_eighth_uniform region_words (block_at region_words m i)

abbrev page_test : List Perm → ℕ → Bool
page_test m i = is_eighth_uniform page_words (block_at page_words m i)

abbrev line_test : List Perm → ℕ → Bool
line_test m i = is_crowded (block_at line_words m i)

module _ (kind : Kind) (m : List Perm) (i : ℕ) (lt : i < length m) where
  root_alike : region_test m i ≡ true → (j : ℕ) → i / region_words * region_words ≤ j → j < i / region_words * region_words + region_words
      → trie_item kind (region_test m j) (page_test m j) (line_test m j) m j ≡ stored_at kind L.Root m i
  root_alike e j lo hi =
      let q : j / region_words ≡ i / region_words = omega arith in
      ap (λ a. trie_item kind a (page_test m j) (line_test m j) m j) (same_region m i j q ∙ e) ∙ same_root m i j kind q

  mid_alike : region_test m i ≡ false → page_test m i ≡ true → (j : ℕ) → i / page_words * page_words ≤ j
      → j < i / page_words * page_words + page_words → trie_item kind (region_test m j) (page_test m j) (line_test m j) m j
      ≡ stored_at kind L.Mid m i
  mid_alike e f j lo hi =
      let p : j / page_words ≡ i / page_words = omega arith in
      let q : j / region_words ≡ i / region_words = omega arith in
      ap (λ a. trie_item kind a (page_test m j) (line_test m j) m j) (same_region m i j q ∙ e)
      ∙ ap (λ b. trie_item kind false b (line_test m j) m j) (same_page m i j p ∙ f) ∙ same_mid m i j kind p

  line_alike : region_test m i ≡ false → page_test m i ≡ false → (j : ℕ) → i / line_words * line_words ≤ j
      → j < i / line_words * line_words + line_words → trie_item kind (region_test m j) (page_test m j) (line_test m j) m j
      ≡ trie_item kind false false (line_test m i) m j
  line_alike e f j lo hi =
      let l : j / line_words ≡ i / line_words = omega arith in
      let p : j / page_words ≡ i / page_words = omega arith in
      let q : j / region_words ≡ i / region_words = omega arith in
      ap (λ a. trie_item kind a (page_test m j) (line_test m j) m j) (same_region m i j q ∙ e)
      ∙ ap (λ b. trie_item kind false b (line_test m j) m j) (same_page m i j p ∙ f)
      ∙ ap (λ c. trie_item kind false false c m j) (same_line m i j l)

-- a trie's item, by the level at which it stands
root_round : (kind : Kind) (m : List Perm) (i : ℕ) → i < length m
    → ((j : ℕ) → stored kind m j ≡ trie_item kind (region_test m j) (page_test m j) (line_test m j) m j) → region_test m i ≡ true
    → IsItemRound kind m i (stored_at kind L.Root m i)
root_round kind m i lt is e = record {
  left = omega arith;
  right = omega arith;
  inside = omega arith;
  alike = λ j lo hi. is j ∙ root_alike kind m i lt e j lo (omega arith);
}

mid_round : (kind : Kind) (m : List Perm) (i : ℕ) → i < length m
    → ((j : ℕ) → stored kind m j ≡ trie_item kind (region_test m j) (page_test m j) (line_test m j) m j) → region_test m i ≡ false
    → page_test m i ≡ true → IsItemRound kind m i (stored_at kind L.Mid m i)
mid_round kind m i lt is e f = record {
  left = omega arith;
  right = omega arith;
  inside = omega arith;
  alike = λ j lo hi. is j ∙ mid_alike kind m i lt e f j lo (omega arith);
}

leaf_round : (kind : Kind) (m : List Perm) (i : ℕ) → i < length m
    → ((j : ℕ) → stored kind m j ≡ trie_item kind (region_test m j) (page_test m j) (line_test m j) m j) → region_test m i ≡ false
    → page_test m i ≡ false → line_level kind (line_test m i) ≡ L.Leaf → IsItemRound kind m i (stored_at kind L.Leaf m i)
leaf_round kind m i lt is e f g = record {
  left = omega arith;
  right = omega arith;
  inside = omega arith;
  alike = λ j lo hi. is j ∙ line_alike kind m i lt e f j lo (omega arith) ∙ ap (λ l. stored_at kind l m j) g
      ∙ same_leaf m i j kind (let l : j / line_words ≡ i / line_words = omega arith in l);
}

spill_round : (kind : Kind) (m : List Perm) (i : ℕ) → i < length m
    → ((j : ℕ) → stored kind m j ≡ trie_item kind (region_test m j) (page_test m j) (line_test m j) m j) → region_test m i ≡ false
    → page_test m i ≡ false → line_level kind (line_test m i) ≡ L.Spill → IsItemRound kind m i (stored_at kind L.Spill m i)
spill_round kind m i lt is e f g = record {
  left = omega arith;
  right = omega arith;
  inside = omega arith;
  alike = λ j lo hi. is j ∙ line_alike kind m i lt e f j lo (omega arith) ∙ ap (λ l. stored_at kind l m j) g
      ∙ same_spill m i j kind (let l : j / line_words ≡ i / line_words = omega arith in l);
}

multilevel_round : (m : List Perm) (i : ℕ) → i < length m → (a b c : Bool) → region_test m i ≡ a → page_test m i ≡ b → line_test m i ≡ c
    → IsItemRound K.Multilevel m i (trie_item K.Multilevel a b c m i)
multilevel_round m i lt true b c ea eb ec = root_round K.Multilevel m i lt (λ j. refl) ea
multilevel_round m i lt false true c ea eb ec = mid_round K.Multilevel m i lt (λ j. refl) ea eb
multilevel_round m i lt false false c ea eb ec = leaf_round K.Multilevel m i lt (λ j. refl) ea eb refl

packed_round : (m : List Perm) (i : ℕ) → i < length m → (a b c : Bool) → region_test m i ≡ a → page_test m i ≡ b → line_test m i ≡ c
    → IsItemRound K.Packed m i (trie_item K.Packed a b c m i)
packed_round m i lt true b c ea eb ec = root_round K.Packed m i lt (λ j. refl) ea
packed_round m i lt false true c ea eb ec = mid_round K.Packed m i lt (λ j. refl) ea eb
packed_round m i lt false false true ea eb ec = spill_round K.Packed m i lt (λ j. refl) ea eb (ap (line_level K.Packed) ec)
packed_round m i lt false false false ea eb ec = leaf_round K.Packed m i lt (λ j. refl) ea eb (ap (line_level K.Packed) ec)

-- the stored item of a word of RAM
pub stored_round : (kind : Kind) (m : List Perm) (i : ℕ) → i < length m → IsItemRound kind m i (stored kind m i)
stored_round K.Segments m i lt = segment_round m i lt
stored_round K.Multilevel m i lt = multilevel_round m i lt (region_test m i) (page_test m i) (line_test m i) refl refl refl
stored_round K.Packed m i lt = packed_round m i lt (region_test m i) (page_test m i) (line_test m i) refl refl refl

-- the lines of the items from the first word of one on: its own, and those of the items after it
module _ (domain : ℕ) (kind : Kind) (m : List Perm) (w : ℕ) (lt : w < length m) (at : (stored kind m w).first ≡ w) where
  abbrev item : Shown
  item = stored kind m w

  abbrev next : ℕ
  next = item.first + item.count

  abbrev texts : ℕ → ℕ → List ℕ
  texts a n = flat_map (item_text domain kind m) (range_with_len a n)

  own : item_text domain kind m w ≡ shown_text domain m item
  own = let e : (item.first == w) ≡ true = grind (arith, at) in ap (λ b. if b then shown_text domain m item else []) e

  blank : (j : ℕ) → w + 1 ≤ j → j < next → item_text domain kind m j ≡ []
  blank j lo hi =
      let same_item : stored kind m j ≡ item = (stored_round kind m w lt).alike j (omega (arith, at)) hi in
      let apart : (item.first == j) ≡ false = not_at j lo in
      ap (λ (x : Shown). if x.first == j then shown_text domain m x else []) same_item
      ∙ ap (λ b. if b then shown_text domain m item else []) apart
    where
      not_at : (j : ℕ) → w + 1 ≤ j → (item.first == j) ≡ false
      not_at j lo = grind (arith, at)

  pub items_from : flat_map (item_text domain kind m) (range_with_len w (length m - w)) ≡ shown_text domain m item
      ++ flat_map (item_text domain kind m) (range_with_len next (length m - next))
  items_from =
      let r = stored_round kind m w lt in
      let right = r.right in
      let inside = r.inside in
      let k : ℕ = next - w - 1 in
      let long : length m - w ≡ suc (k + (length m - next)) = omega arith in
      let behind : w + 1 + k ≡ next = omega arith in
      ap (texts w) long ∙ ap (λ xs. xs ++ texts (w + 1) (k + (length m - next))) own
      ∙ ap (λ xs. shown_text domain m item ++ xs)
      (range_blank (item_text domain kind m) (w + 1) k (length m - next) (λ j lo hi. blank j lo (omega arith))
      ∙ ap (λ a. texts a (length m - next)) behind)

  -- an item begins after an item
  pub next_begins : next < length m → (stored kind m next).first ≡ next
  next_begins more = by (cases_lt (stored kind m next).first next)
    where
      by : ((stored kind m next).first < next) ⊎ (next ≤ (stored kind m next).first) → (stored kind m next).first ≡ next
      by (inl before) =
          let r = stored_round kind m w lt in
          let q = stored_round kind m next more in
          let right = r.right in
          let end = q.right in
          let mine : stored kind m (next - 1) ≡ item = r.alike (next - 1) (omega arith) (omega arith) in
          let its : stored kind m (next - 1) ≡ stored kind m next = q.alike (next - 1) (omega arith) (omega arith) in
          let alike : next ≡ (stored kind m next).first + (stored kind m next).count =
          ap (λ (x : Shown). x.first + x.count) (sym mine ∙ its) in
          absurd (omega arith)
      by (inr le) = let left = (stored_round kind m next more).left in omega arith

-- an item without a permission has no line
pub shown_none : (domain : ℕ) (m : List Perm) (item : Shown) → has_rights m item.first item.count ≡ false → [] ≡ shown_text domain m item
shown_none domain m item e = sym (ap (λ b. if b then shown_line domain item else []) e)

-- what is shown in a flat state
pub shown_round : (f : Flat) (d i : ℕ) (s : Shown) → s ≡ stored f.core.kind (map_in f.core.size f.maps d) i
    → length (map_in f.core.size f.maps d) ≡ f.core.size → i < f.core.size → IsItemRound f.core.kind (map_in f.core.size f.maps d) i s
shown_round f d i s e whole lt =
    subst (λ (x : Shown). IsItemRound f.core.kind (map_in f.core.size f.maps d) i x) (sym e)
    (stored_round f.core.kind (map_in f.core.size f.maps d) i (omega arith))

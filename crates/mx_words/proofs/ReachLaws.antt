-- Laws of what a walk answers: the span has its word in it, lies in RAM, and all its words have the permission that it names.
use Rattle.std.proofs.Common.{◌≡◌, ℕ, ◌+◌, ◌-◌, ◌*◌, ◌/◌, ◌<◌, ◌≤◌, ◌⊎◌, inl, inr, ◌==◌, Bool, true, false, cond, List, length, get_or}
use Rattle.std.proofs.Common.{take, drop, slice_range, reverse, refl, sym, ap, ◌∙◌, arith, length-take, length-drop, get_or-take}
use Rattle.std.proofs.Common.{get_or-drop}
use Rattle.std.specs.List.{list_all, prefix_len, suffix_len}
use Rattle.std.proofs.lemmas.Bool.{eqb-true, cases_lt}
use Rattle.std.proofs.lemmas.List.{get_or-reverse}
use Rattle.std.proofs.lemmas.List.Sums.{prefix_len_passes, prefix_len_stops, prefix_len-le-length, suffix_len-le-length}
use Rattle.mx_words.specs.declared.perm.Perm.{Perm}
use Rattle.mx_words.specs.declared.perm.Perm.TheVariants as P
use Rattle.mx_words.specs.declared.perm.Span.{Span}
use Rattle.mx_words.specs.declared.tables.Kind.{Kind}
use Rattle.mx_words.specs.declared.tables.Kind.TheVariants as K
use Rattle.mx_words.specs.declared.tables.Level.TheVariants as L
use Rattle.mx_words.specs.Rights.{same, perm_at}
use Rattle.mx_words.specs.Runs.{is_uniform, is_eighth_uniform, pieces, block_at, is_crowded, line_words, page_words, region_words}
use Rattle.mx_words.specs.Reach.{span_within, first_in, block_span, line_span, left_reach, right_reach, reached, span_at, span, line_level}
use Rattle.mx_words.proofs.PieceLaws.{piece, all_pieces-at}
use Rattle.mx_words.proofs.BlockLaws.{uniform_from}
use Rattle.mx_words.proofs.RunLaws.{same_refl, same_eq, slice-at, length-slice}

-- a span with word i in it, in the list, whose words all have the permission that it names
pub record IsUniformRound (m : List Perm) (i : ℕ) (s : Span) : Type 0 where
  pub left : s.first ≤ i
  pub right : i < s.first + s.count
  pub inside : s.first + s.count ≤ length m
  pub alike : (w : ℕ) → s.first ≤ w → w < s.first + s.count → perm_at m w ≡ s.perm

-- elements at a list's end that pass a test
suffix_len_passes : {X : Type 0} (p : X → Bool) (xs : List X) (k : ℕ) (d : X) → length xs ≤ k + suffix_len p xs → k < length xs
    → p (get_or xs k d) ≡ true
suffix_len_passes p xs k d far lt =
    let le = suffix_len-le-length p xs in
    let j : ℕ = length xs - 1 - k in
    let below : j < prefix_len p (reverse xs) = omega (arith, le) in
    let within : j < length xs = omega arith in
    let back : length xs - 1 - j ≡ k = omega arith in
    ap p (ap (λ n. get_or xs n d) (sym back) ∙ sym (get_or-reverse xs j d within)) ∙ prefix_len_passes p (reverse xs) j d below

-- the run round a word among the words from low up to high
module _ (m : List Perm) (low high i : ℕ) (from : low ≤ i) (to : i < high) (inside : i < length m) where
  left_most : suffix_len (same (perm_at m i)) (slice_range m low i) ≤ i - low
  left_most =
      omega (arith, suffix_len-le-length (same (perm_at m i)) (slice_range m low i), length-slice m low i (omega arith))

  right_long : length (slice_range m i high) ≤ high - i
  right_long = omega (arith, length-take (high - i) (drop i m))

  right_short : length (slice_range m i high) ≤ length m - i
  right_short = omega (arith, length-take (high - i) (drop i m), length-drop i m)

  some_there : 0 < length (slice_range m i high)
  some_there = omega (arith, length-take (high - i) (drop i m), length-drop i m)

  right_most : prefix_len (same (perm_at m i)) (slice_range m i high) ≤ length (slice_range m i high)
  right_most = prefix_len-le-length (same (perm_at m i)) (slice_range m i high)

  -- the word itself is in its run
  right_some : (0 < prefix_len (same (perm_at m i)) (slice_range m i high)) ⊎ (prefix_len (same (perm_at m i)) (slice_range m i high) ≤ 0) →
      0 < prefix_len (same (perm_at m i)) (slice_range m i high)
  right_some (inl lt) = lt
  right_some (inr le) =
      let none : prefix_len (same (perm_at m i)) (slice_range m i high) ≡ 0 = omega arith in
      let stop : same (perm_at m i) (get_or (slice_range m i high) (prefix_len (same (perm_at m i)) (slice_range m i high)) P.None)
      ≡ false =
      prefix_len_stops (same (perm_at m i)) (slice_range m i high) P.None (omega (arith, some_there)) in
      let here : get_or (slice_range m i high) 0 P.None ≡ perm_at m i =
      slice-at m i high 0 (omega arith) ∙ ap (perm_at m) (let e : i + 0 ≡ i = omega arith in e) in
      let at : same (perm_at m i) (perm_at m i) ≡ false =
      sym (ap (same (perm_at m i)) (ap (λ n. get_or (slice_range m i high) n P.None) none ∙ here)) ∙ stop in
      let clash : true ≡ false = sym (same_refl (perm_at m i)) ∙ at in
      absurd (cc)

  alike_left : (w : ℕ) → i ≤ w + suffix_len (same (perm_at m i)) (slice_range m low i) → w < i → perm_at m w ≡ perm_at m i
  alike_left w far lt =
      let most = left_most in
      let k : ℕ = w - low in
      let long = length-slice m low i (omega arith) in
      let sum : low + k ≡ w = omega (arith, most) in
      let pass : same (perm_at m i) (get_or (slice_range m low i) k P.None) ≡ true =
      suffix_len_passes (same (perm_at m i)) (slice_range m low i) k P.None (omega (arith, most, long)) (omega (arith, most, long)) in
      sym (same_eq (perm_at m i) (get_or (slice_range m low i) k P.None) pass ∙ slice-at m low i k (omega (arith, most))
      ∙ ap (perm_at m) sum)

  alike_right : (w : ℕ) → i ≤ w → w < i + prefix_len (same (perm_at m i)) (slice_range m i high) → perm_at m w ≡ perm_at m i
  alike_right w le lt =
      let most = right_most in
      let long = right_long in
      let k : ℕ = w - i in
      let sum : i + k ≡ w = omega arith in
      let pass : same (perm_at m i) (get_or (slice_range m i high) k P.None) ≡ true =
      prefix_len_passes (same (perm_at m i)) (slice_range m i high) k P.None (omega arith) in
      sym (same_eq (perm_at m i) (get_or (slice_range m i high) k P.None) pass ∙ slice-at m i high k (omega (arith, most, long))
      ∙ ap (perm_at m) sum)

  pub within_low : low ≤ (span_within m low high i).first
  within_low = omega (arith, left_most)

  pub within_high : (span_within m low high i).first + (span_within m low high i).count ≤ high
  within_high = omega (arith, left_most, right_most, right_long)

  alike_within : (w : ℕ) → i ≤ w + suffix_len (same (perm_at m i)) (slice_range m low i)
      → w < i + prefix_len (same (perm_at m i)) (slice_range m i high) →
      (w < i) ⊎ (i ≤ w) → perm_at m w ≡ perm_at m i
  alike_within w far lt (inl before) = alike_left w far before
  alike_within w far lt (inr behind) = alike_right w behind lt

  pub within_round : IsUniformRound m i (span_within m low high i)
  within_round =
      let most = left_most in
      let some = right_some (cases_lt 0 (prefix_len (same (perm_at m i)) (slice_range m i high))) in
      record {
        left = omega arith;
        right = omega (arith, most, some);
        inside = omega (arith, most, right_most, right_short);
        alike = λ w lo hi. alike_within w (omega (arith, most)) (omega (arith, most)) (cases_lt w i);
      }

-- a word of a part of the block that begins at a word
part-at : (size part start : ℕ) (m : List Perm) (e k : ℕ) → e * part + k < size → k < part →
    perm_at (piece part (take size (drop start m)) e) k ≡ perm_at m (start + e * part + k)
part-at size part start m e k below inside =
    let sum : start + (e * part + k) ≡ start + e * part + k = omega arith in
    get_or-take part (drop (e * part) (take size (drop start m))) k P.None inside
    ∙ get_or-drop (e * part) (take size (drop start m)) k P.None
    ∙ get_or-take size (drop start m) (e * part + k) P.None below
    ∙ get_or-drop start m (e * part + k) P.None
    ∙ ap (perm_at m) sum

-- two words of one part of an eighth-uniform block
module _ (size part start : ℕ) (m : List Perm) (is : size / 8 ≡ part) (some : 0 < part)
    (even : is_eighth_uniform size (take size (drop start m)) ≡ true) where
  part_uniform : (e : ℕ) → is_uniform part (piece part (take size (drop start m)) e) ≡ true
  part_uniform e =
      all_pieces-at part (is_uniform part) some refl e (take size (drop start m))
      (ap (λ n. list_all (is_uniform n) (pieces n (take size (drop start m)))) (sym is) ∙ even)

  part_first : (e k : ℕ) → e * part + k < size → e * part + 0 < size → k < part
      → perm_at m (start + e * part + k) ≡ perm_at m (start + e * part + 0)
  part_first e k below first inside =
      sym (part-at size part start m e k below inside)
      ∙ uniform_from part (piece part (take size (drop start m)) e) (part_uniform e) k inside
      ∙ part-at size part start m e 0 first some

  pub part_alike : (e j k : ℕ) → e * part + j < size → e * part + k < size → e * part + 0 < size → j < part → k < part
      → perm_at m (start + e * part + j) ≡ perm_at m (start + e * part + k)
  part_alike e j k bj bk b0 ij ik = part_first e j bj b0 ij ∙ sym (part_first e k bk b0 ik)

-- the eighth of a region, and of a page, round a word
region_alike : (m : List Perm) (i w : ℕ) → is_eighth_uniform region_words (block_at region_words m i) ≡ true → i / 131072 * 131072 ≤ w
    → w < i / 131072 * 131072 + 131072 → perm_at m w ≡ perm_at m i
region_alike m i w even lo hi =
    let start : ℕ = i / 1048576 * 1048576 in
    let e : ℕ = (i - start) / 131072 in
    let k : ℕ = i - start - e * 131072 in
    let j : ℕ = w - start - e * 131072 in
    let at_i : start + e * 131072 + k ≡ i = omega arith in
    let at_w : start + e * 131072 + j ≡ w = omega arith in
    sym (ap (perm_at m) at_w)
    ∙ part_alike 1048576 131072 start m refl (omega arith) even e j k (omega arith) (omega arith) (omega arith) (omega arith) (omega arith)
    ∙ ap (perm_at m) at_i

page_alike : (m : List Perm) (i w : ℕ) → is_eighth_uniform page_words (block_at page_words m i) ≡ true → i / 128 * 128 ≤ w
    → w < i / 128 * 128 + 128 → perm_at m w ≡ perm_at m i
page_alike m i w even lo hi =
    let start : ℕ = i / 1024 * 1024 in
    let e : ℕ = (i - start) / 128 in
    let k : ℕ = i - start - e * 128 in
    let j : ℕ = w - start - e * 128 in
    let at_i : start + e * 128 + k ≡ i = omega arith in
    let at_w : start + e * 128 + j ≡ w = omega arith in
    sym (ap (perm_at m) at_w)
    ∙ part_alike 1024 128 start m refl (omega arith) even e j k (omega arith) (omega arith) (omega arith) (omega arith) (omega arith)
    ∙ ap (perm_at m) at_i

root_round : (m : List Perm) (i : ℕ) → i < length m → is_eighth_uniform region_words (block_at region_words m i) ≡ true
    → IsUniformRound m i (block_span 131072 m i)
root_round m i lt even = record {
  left = omega arith;
  right = omega arith;
  inside = omega arith;
  alike = λ w lo hi. region_alike m i w even lo (omega arith);
}

mid_round : (m : List Perm) (i : ℕ) → i < length m → is_eighth_uniform page_words (block_at page_words m i) ≡ true
    → IsUniformRound m i (block_span 128 m i)
mid_round m i lt even = record {
  left = omega arith;
  right = omega arith;
  inside = omega arith;
  alike = λ w lo hi. page_alike m i w even lo (omega arith);
}

line_round : (m : List Perm) (i : ℕ) → i < length m → IsUniformRound m i (line_span m i)
line_round m i lt = within_round m (i / 16 * 16) (i / 16 * 16 + 16) i (omega arith) (omega arith) lt

-- words beyond a line's edge that the reaches take in
left_reach-alike : (m : List Perm) (line w : ℕ) → line ≤ length m → line ≤ w + left_reach m line → w < line → perm_at m w ≡ perm_at m line
left_reach-alike m line w fits far lt =
    let long : length (take line m) ≡ line = omega (arith, length-take line m) in
    let pass : same (perm_at m line) (get_or (take line m) w P.None) ≡ true =
    suffix_len_passes (same (perm_at m line)) (take line m) w P.None (omega (arith, long)) (omega (arith, long)) in
    sym (same_eq (perm_at m line) (get_or (take line m) w P.None) pass ∙ get_or-take line m w P.None lt)

pub left_reach-most : (m : List Perm) (line : ℕ) → left_reach m line ≤ line
left_reach-most m line = omega (arith, suffix_len-le-length (same (perm_at m line)) (take line m), length-take line m)

right_reach-alike : (m : List Perm) (line w : ℕ) → line + 16 ≤ w → w < line + 16 + right_reach m line
    → perm_at m w ≡ perm_at m (line + 16 - 1)
right_reach-alike m line w le lt =
    let k : ℕ = w - (line + 16) in
    let sum : line + 16 + k ≡ w = omega arith in
    let pass : same (perm_at m (line + 16 - 1)) (get_or (drop (line + 16) m) k P.None) ≡ true =
    prefix_len_passes (same (perm_at m (line + 16 - 1))) (drop (line + 16) m) k P.None (omega arith) in
    sym (same_eq (perm_at m (line + 16 - 1)) (get_or (drop (line + 16) m) k P.None) pass ∙ get_or-drop (line + 16) m k P.None
    ∙ ap (perm_at m) sum)

pub right_reach-most : (m : List Perm) (line : ℕ) → right_reach m line ≤ length m - (line + 16)
right_reach-most m line = omega (
  arith,
  prefix_len-le-length (same (perm_at m (line + 16 - 1))) (drop (line + 16) m),
  length-drop
      (line + 16) m,
)

-- a run inside a line, lengthened by the reaches
module _ (m : List Perm) (line i : ℕ) (s : Span) (round : IsUniformRound m i s) (from : line ≤ s.first) (to : s.first + s.count ≤ line + 16)
  where
    left_alike : (l w : ℕ) → (l ≡ 0) ⊎ ((s.first ≡ line) × (l ≡ left_reach m line)) → s.first ≤ w + l → w < s.first → perm_at m w ≡ s.perm
    left_alike l w (inl e) far lt = absurd (omega arith)
    left_alike l w (inr e) far lt =
        let at = e.0 in
        let is = e.1 in
        let left = round.left in
        let right = round.right in
        let fits = round.inside in
        left_reach-alike m line w (omega arith) (omega arith) (omega arith) ∙ round.alike line (omega arith) (omega arith)

    right_alike : (r w : ℕ) → (r ≡ 0) ⊎ ((s.first + s.count ≡ line + 16) × (r ≡ right_reach m line)) → s.first + s.count ≤ w
        → w < s.first + s.count + r → perm_at m w ≡ s.perm
    right_alike r w (inl e) le lt = absurd (omega arith)
    right_alike r w (inr e) le lt =
        let at = e.0 in
        let is = e.1 in
        let left = round.left in
        let right = round.right in
        right_reach-alike m line w (omega arith) (omega arith) ∙ round.alike (line + 16 - 1) (omega arith) (omega arith)

    left_fits : (l : ℕ) → (l ≡ 0) ⊎ ((s.first ≡ line) × (l ≡ left_reach m line)) → l ≤ s.first
    left_fits l (inl e) = omega arith
    left_fits l (inr e) = let at = e.0 in let is = e.1 in omega (arith, left_reach-most m line)

    right_fits : (r : ℕ) → (r ≡ 0) ⊎ ((s.first + s.count ≡ line + 16) × (r ≡ right_reach m line)) → s.first + s.count + r ≤ length m
    right_fits r (inl e) = let fits = round.inside in omega arith
    right_fits r (inr e) = let at = e.0 in let is = e.1 in let fits = round.inside in omega (arith, right_reach-most m line)

    alike_longer : (l r w : ℕ) → (l ≡ 0) ⊎ ((s.first ≡ line) × (l ≡ left_reach m line))
        → (r ≡ 0) ⊎ ((s.first + s.count ≡ line + 16) × (r ≡ right_reach m line)) →
        s.first ≤ w + l → w < s.first + s.count + r → (w < s.first) ⊎ (s.first ≤ w) → (w < s.first + s.count) ⊎ (s.first + s.count ≤ w)
        → perm_at m w ≡ s.perm
    alike_longer l r w a b far near (inl before) x = left_alike l w a far before
    alike_longer l r w a b far near (inr le) (inl lt) = round.alike w le lt
    alike_longer l r w a b far near (inr le) (inr past) = right_alike r w b past near

    longer_round : (l r : ℕ) → (l ≡ 0) ⊎ ((s.first ≡ line) × (l ≡ left_reach m line))
        → (r ≡ 0) ⊎ ((s.first + s.count ≡ line + 16) × (r ≡ right_reach m line)) →
        IsUniformRound m i (record { first = s.first - l; count = l + s.count + r; perm = s.perm })
    longer_round l r a b =
        let lf = left_fits l a in
        let rf = right_fits r b in
        let left = round.left in
        let right = round.right in
        record {
          left = omega arith;
          right = omega arith;
          inside = omega arith;
          alike = λ w lo hi. alike_longer l r w a b (omega arith) (omega arith) (cases_lt w s.first) (cases_lt w (s.first + s.count));
        }

    left_case : (b : Bool) → (s.first == line) ≡ b → (cond b (left_reach m line) 0 ≡ 0)
        ⊎ ((s.first ≡ line) × (cond b (left_reach m line) 0 ≡ left_reach m line))
    left_case true e = inr (eqb-true s.first line e, refl)
    left_case false e = inl refl

    right_case : (b : Bool) → (s.first + s.count == line + 16) ≡ b
        → (cond b (right_reach m line) 0 ≡ 0) ⊎ ((s.first + s.count ≡ line + 16) × (cond b (right_reach m line) 0 ≡ right_reach m line))
    right_case true e = inr (eqb-true (s.first + s.count) (line + 16) e, refl)
    right_case false e = inl refl

    pub reached_round : IsUniformRound m i (reached m line s)
    reached_round =
        longer_round (cond (s.first == line) (left_reach m line) 0) (cond (s.first + s.count == line + 16) (right_reach m line) 0)
        (left_case (s.first == line) refl) (right_case (s.first + s.count == line + 16) refl)

mini_round : (m : List Perm) (i : ℕ) → i < length m → IsUniformRound m i (reached m (first_in line_words i) (line_span m i))
mini_round m i lt =
    reached_round m (i / 16 * 16) i (line_span m i) (line_round m i lt)
    (within_low m (i / 16 * 16) (i / 16 * 16 + 16) i (omega arith) (omega arith) lt)
    (within_high m (i / 16 * 16) (i / 16 * 16 + 16) i (omega arith) (omega arith) lt)

-- the levels of a trie
multilevel_round : (m : List Perm) (i : ℕ) → i < length m → (a b c : Bool) → is_eighth_uniform region_words (block_at region_words m i) ≡ a
    → is_eighth_uniform page_words (block_at page_words m i) ≡ b →
    IsUniformRound m i (span_at K.Multilevel (cond a L.Root (cond b L.Mid (line_level K.Multilevel c))) m i)
multilevel_round m i lt true b c ea eb = root_round m i lt ea
multilevel_round m i lt false true c ea eb = mid_round m i lt eb
multilevel_round m i lt false false c ea eb = line_round m i lt

packed_round : (m : List Perm) (i : ℕ) → i < length m → (a b c : Bool) → is_eighth_uniform region_words (block_at region_words m i) ≡ a
    → is_eighth_uniform page_words (block_at page_words m i) ≡ b →
    IsUniformRound m i (span_at K.Packed (cond a L.Root (cond b L.Mid (line_level K.Packed c))) m i)
packed_round m i lt true b c ea eb = root_round m i lt ea
packed_round m i lt false true c ea eb = mid_round m i lt eb
packed_round m i lt false false true ea eb = line_round m i lt
packed_round m i lt false false false ea eb = mini_round m i lt

-- what a walk answers for a word of RAM
pub span_round : (kind : Kind) (m : List Perm) (i : ℕ) → i < length m → IsUniformRound m i (span kind m i)
span_round K.Segments m i lt = within_round m 0 (length m) i (omega arith) lt lt
span_round K.Multilevel m i lt =
    multilevel_round m i lt (is_eighth_uniform region_words (block_at region_words m i))
    (is_eighth_uniform page_words (block_at page_words m i)) (is_crowded (block_at line_words m i)) refl refl
span_round K.Packed m i lt =
    packed_round m i lt (is_eighth_uniform region_words (block_at region_words m i))
    (is_eighth_uniform page_words (block_at page_words m i)) (is_crowded (block_at line_words m i)) refl refl

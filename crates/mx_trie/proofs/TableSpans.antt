-- The spans that a walk of a domain's tables gives are spans of its map.
use Rattle.std.proofs.Common.{◌≡◌, ℕ, ◌+◌, ◌*◌, ◌/◌, ◌%◌, ◌<◌, ◌≤◌, ◌⊎◌, inl, inr, true, false, List, length, refl, sym, ap, ◌∙◌, arith}
use Rattle.mx_words.specs.declared.perm.Perm.{Perm}
use Rattle.mx_words.specs.declared.perm.Span.{Span}
use Rattle.mx_words.specs.declared.tables.Kind.{Kind}
use Rattle.mx_words.specs.Rights.{number, perm_at}
use Rattle.mx_words.proofs.NumberLaws.{number-one_to_one}
use Rattle.mx_table.specs.Tables.{most_words}
use Rattle.mx_pool.specs.Frames.{word_at}
use Rattle.mx_trie.specs.Digits.{digit}
use Rattle.mx_trie.specs.Leaf.{IsTrieKind}
use Rattle.mx_trie.specs.Read.{leaf_perm}
use Rattle.mx_trie.specs.Walk.{Frames, is_pointer, target}
use Rattle.mx_trie.specs.Shown.{IsPage, IsRegion}
use Rattle.mx_trie.specs.Views.{IsRound, IsWide}
use Rattle.mx_trie.proofs.VectorWords.{page-word, region-word}
use Rattle.mx_trie.proofs.WalkWords.{walk-page, walk-line}
use Rattle.mx_trie.proofs.MapsRead.{line-read}

-- the words that a vector's digits tell alike: a part, or a block of which all parts are alike
abbrev pub IsLike : ℕ → ℕ → ℕ → Type 0
IsLike entry part count =
    (count ≡ part) ⊎ ((count ≡ 8 * part) × ((e : ℕ) → e < 8 → digit (entry / 4) e ≡ entry / 4 % 4))

-- a span round word i, told word by word
module _ (m : List Perm) (i first count : ℕ) (s : Span) (first_is : s.first ≡ first) (count_is : s.count ≡ count)
    (from : first ≤ i) (to : i < first + count) (whole : first + count ≤ most_words) where
  told-round : ((j : ℕ) → first ≤ j → j < first + count → perm_at m j ≡ s.perm) → IsRound m i s
  told-round alike = search (arith, alike)

  digit-round : (n : ℕ) → number s.perm ≡ n → ((j : ℕ) → first ≤ j → j < first + count → n ≡ number (perm_at m j)) →
      IsRound m i s
  digit-round n perm alike = search (arith, number-one_to_one, alike)

module _ (kind : Kind) (k : IsTrieKind kind) (upper leaf spill : Frames) (m : List Perm) (few : length m ≤ most_words)
    (i : ℕ) (below : i < most_words) where
  -- a region and a page that have a vector
  pub region-round : (a count : ℕ) (s : Span) → IsRegion kind upper leaf spill m (i / 1048576) a →
      is_pointer a ≡ false → IsLike a 131072 count →
      s.first ≡ i / count * count → s.count ≡ count → number s.perm ≡ digit (a / 4) (i / count % 8) → IsRound m i s
  region-round a count s region closed (inl h) first long p =
      search (arith, digit-round m i _ _ s (rw h at first) (rw h at long), rw h at p, region-word kind upper leaf spill m _ a closed region)
  region-round a count s region closed (inr h) first count_is perm =
      digit-round m i _ _ s (rw h.0 at first) (rw h.0 at count_is) (omega arith) (omega arith) (omega arith) _ (rw h.0 at perm)
      (λ j lo hi. cc (
        h.1 (i / 1048576 % 8) (omega arith),
        h.1 (j / 131072 % 8) (omega arith),
        region-word kind upper leaf spill m
            (i / 1048576) a closed region j (omega arith),
      ))

  pub page-round : (b count : ℕ) (s : Span) → IsPage kind leaf spill m (i / 1024) b → is_pointer b ≡ false →
      IsLike b 128 count →
      s.first ≡ i / count * count → s.count ≡ count → number s.perm ≡ digit (b / 4) (i / count % 8) → IsRound m i s
  page-round b count s page closed (inl h) first long perm =
      search (arith, digit-round m i _ _ s (rw h at first) (rw h at long), rw h at perm, page-word kind upper leaf spill m _ b closed page)
  page-round b count s page closed (inr h) first count_is perm =
      digit-round m i _ _ s (rw h.0 at first) (rw h.0 at count_is) (omega arith) (omega arith) (omega arith) _ (rw h.0 at perm)
      (λ j lo hi. cc (
        h.1 (i / 1024 % 8) (omega arith),
        h.1 (j / 128 % 8) (omega arith),
        page-word kind upper leaf spill m (i / 1024) b
            closed page j (omega arith),
      ))

  -- an eighth of a region of which all pages have one vector, and an eighth of a page of which all lines have one entry
  module _ (near far : Span) (round : IsRound m i near) where
    pub wide-pages : (a b : ℕ) → IsRegion kind upper leaf spill m (i / 1048576) a → is_pointer a ≡ true →
        b ≡ word_at upper (target a) (i / 1024 % 1024) → is_pointer b ≡ false →
        IsWide upper (target a) 128 1024 i near far → IsRound m i far
    wide-pages a b region opened e closed w = told-round m i (i / 131072 * 131072) 131072 far w.first w.count (omega arith) (omega arith)
        (omega arith) (λ j lo hi.
        let here : ℕ = i / 1024 * 1024 + j % 1024 in
        number-one_to_one _ _ (sym (word j lo hi) ∙ ap (digit (b / 4)) (omega arith) ∙ word here (omega arith) (omega arith))
        ∙ round.alike here (omega arith) (omega arith) ∙ sym w.perm)
      where
        word : (j : ℕ) → i / 131072 * 131072 ≤ j → j < i / 131072 * 131072 + 131072 → digit (b / 4) (j / 128 % 8) ≡ number (perm_at m j)
        word j lo hi = let at : j / 1048576 ≡ i / 1048576 = omega arith in
            let p : i / 1024 % 1024 ≡ i / 131072 % 8 * 128 + i / 1024 % 128 = omega arith in
            let q : j / 1024 % 1024 ≡ i / 131072 % 8 * 128 + j / 1024 % 128 = omega arith in
            page-word kind upper leaf spill m (j / 1024) b closed
            (walk-page kind upper leaf spill m j (omega arith) a b (rw at region) opened
            (cc (e, p, q, w.alike (i / 1024 % 128) (omega arith), w.alike (j / 1024 % 128) (omega arith)))) j refl

    pub wide-lines : (b : ℕ) → IsPage kind leaf spill m (i / 1024) b → is_pointer b ≡ true →
        IsWide leaf (target b) 8 16 i near far → IsRound m i far
    wide-lines b page opened w = told-round m i _ _ far w.first w.count (omega arith) (omega arith) (omega arith) (λ j lo hi.
        let place : j % 16 ≡ (i / 16 * 16 + j % 16) % 16 = omega arith in
        cc (
          word j lo hi,
          place,
          word (i / 16 * 16 + j % 16) (omega arith) (omega arith),
          round.alike (i / 16 * 16 + j % 16) (omega arith)
              (omega arith),
          w.perm,
        ))
      where
        word : (j : ℕ) → i / 128 * 128 ≤ j → j < i / 128 * 128 + 128
            → leaf_perm kind spill (word_at leaf (target b) (i / 128 % 8 * 8)) j ≡ perm_at m j
        word j lo hi = let at : j / 1024 ≡ i / 1024 = omega arith in let there : j / 16 % 64 ≡ i / 128 % 8 * 8 + j / 16 % 8 = omega arith in
            line-read kind k upper leaf spill m few j (omega arith) _
            (walk-line kind upper leaf spill m j (omega arith) b _ (rw at page) opened (cc (there, w.alike (j / 16 % 8) (omega arith))))

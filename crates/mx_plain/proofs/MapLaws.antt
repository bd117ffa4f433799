-- Maps word by word.
use Rattle.std.proofs.Common.{◌≡◌, ℕ, ◌+◌, ◌-◌, ◌<◌, ◌≤◌, ◌⊎◌, inl, inr, List, ◌++◌, length, get_or, take, drop, replicate, map, refl, sym}
use Rattle.std.proofs.Common.{◌∙◌, ap, arith, length-append, length-take, length-drop, get_or-take, get_or-drop, Option, Some, None}
use Rattle.std.proofs.lemmas.Bool.{cases_lt}
use Rattle.std.proofs.lemmas.List.{get_or_past, map_more, get_or_append_left, get_or-append_right, length-replicate, get_or-replicate}
use Rattle.mx_words.specs.declared.perm.Perm.{Perm}
use Rattle.mx_words.specs.declared.perm.Perm.TheVariants as P
use Rattle.mx_words.specs.declared.perm.Span.{Span}
use Rattle.mx_words.specs.Rights.{perm_at}
use Rattle.mx_words.specs.Newest.{Grant, laid, laid_at, at}
use Rattle.mx_words.specs.Changes.{grant_of, changed_map}
use Rattle.mx_words.proofs.OverlayLaws.{laid-at, laid_at_in, laid_at_below, laid_at_behind, length-laid, laid_is, length-map_of, map-at}
use Rattle.mx_words.proofs.OverlayLaws.{newest-append}
use Rattle.mx_table.specs.Tables.{granted, row_map}

-- a map with a permission laid over some words
pub laid_word : (m : List Perm) (g : Grant) (word : ℕ) → word < length m → perm_at (laid g m) word ≡ laid_at word (perm_at m word) g
laid_word m g word lt = laid-at g m word P.None lt

pub laid_past : (m : List Perm) (g : Grant) (word : ℕ) → length m ≤ word → perm_at (laid g m) word ≡ perm_at m word
laid_past m g word le = get_or_past (laid g m) word P.None (omega (arith, length-laid g m)) ∙ sym (get_or_past m word P.None le)

-- the map of a row of spans
pub row_word : (words : ℕ) (row : List Span) (word : ℕ) → word < words → perm_at (row_map words row) word ≡ at (map granted row) word
row_word words row word lt = map-at (map granted row) words word P.None lt

pub row_past : (words : ℕ) (row : List Span) (word : ℕ) → words ≤ word → perm_at (row_map words row) word ≡ P.None
row_past words row word le = get_or_past (row_map words row) word P.None (omega (arith, length-map_of (map granted row) words))

pub length-row : (words : ℕ) (row : List Span) → length (row_map words row) ≡ words
length-row words row = length-map_of (map granted row) words

-- the permission that the first spans give a word, and one span more
abbrev pub newest_of : List Span → ℕ → Perm
newest_of row word = at (map granted row) word

pub newest_more : (row : List Span) (i word : ℕ) (d : Span) → i < length row
    → laid_at word (newest_of (take i row) word) (granted (get_or row i d)) ≡ newest_of (take (i + 1) row) word
newest_more row i word d lt =
    sym (ap (λ gs. at gs word) (map_more granted row i d lt) ∙ newest-append P.None (map granted (take i row)) (granted (get_or row i d))
    word)

-- a map with a permission put on some of its words
module _ (first count : ℕ) (p : Perm) (m : List Perm) (fits : first + count ≤ length m) where
  abbrev put : List Perm
  put = take first m ++ replicate count p ++ drop (first + count) m

  low : length (take first m) ≡ first
  low = omega (arith, length-take first m)

  middle : length (take first m ++ replicate count p) ≡ first + count
  middle = omega (arith, low, length-append (take first m) (replicate count p), length-replicate count p)

  long : length put ≡ length m
  long = omega (arith, middle, length-append (take first m ++ replicate count p) (drop (first + count) m), length-drop (first + count) m)

  put-at : (i : ℕ) (d : Perm) → i < length m → (i < first) ⊎ (first ≤ i) → (i < first + count) ⊎ (first + count ≤ i)
      → get_or put i d ≡ laid_at i (get_or m i d) (grant_of first count p)
  put-at i d lt (inl a) b =
      get_or_append_left (take first m ++ replicate count p) (drop (first + count) m) d i (omega (arith, middle))
      ∙ get_or_append_left (take first m) (replicate count p) d i (omega (arith, low))
      ∙ get_or-take first m i d a ∙ sym (laid_at_below i (get_or m i d) (grant_of first count p) a)
  put-at i d lt (inr a) (inl b) =
      get_or_append_left (take first m ++ replicate count p) (drop (first + count) m) d i (omega (arith, middle))
      ∙ get_or-append_right (take first m) (replicate count p) first i d low a
      ∙ get_or-replicate count (i - first) p d (omega arith) ∙ sym (laid_at_in i (get_or m i d) (grant_of first count p) a b)
  put-at i d lt (inr a) (inr b) =
      let at : first + count + (i - (first + count)) ≡ i = omega arith in
      get_or-append_right (take first m ++ replicate count p) (drop (first + count) m) (first + count) i d middle b
      ∙ get_or-drop (first + count) m (i - (first + count)) d ∙ ap (λ k. get_or m k d) at
      ∙ sym (laid_at_behind i (get_or m i d) (grant_of first count p) b)

  pub put_is : take first m ++ replicate count p ++ drop (first + count) m ≡ laid (grant_of first count p) m
  put_is = laid_is (grant_of first count p) m put long (λ i d lt. put-at i d lt (cases_lt i first) (cases_lt i (first + count)))

pub changed_past : (first count : ℕ) (given : Option Perm) (m : List Perm) (word : ℕ) → length m ≤ word
    → perm_at m word ≡ perm_at (changed_map first count given m) word
changed_past first count None m word le = refl
changed_past first count (Some p) m word le = sym (laid_past m (grant_of first count p) word le)

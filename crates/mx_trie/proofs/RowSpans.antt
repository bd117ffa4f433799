-- The map of a row of sorted spans, span by span and between the spans.
use Rattle.std.proofs.Common.{◌≡◌, ℕ, zero, suc, ◌+◌, ◌-◌, ◌<◌, ◌≤◌, ◌⊎◌, inl, List, [], ◌∷◌, length, fold, map, refl, ◌∙◌, arith}
use Rattle.std.proofs.lemmas.Bool.{cases_lt}
use Rattle.std.proofs.lemmas.List.{get_or_past}
use Rattle.mx_words.specs.declared.perm.Perm.{Perm}
use Rattle.mx_words.specs.declared.perm.Perm.TheVariants as P
use Rattle.mx_words.specs.declared.perm.Span.{Span}
use Rattle.mx_words.specs.Rights.{perm_at}
use Rattle.mx_words.specs.Newest.{laid_at}
use Rattle.mx_words.proofs.OverlayLaws.{laid_at_in, laid_at_below, laid_at_behind, length-map_of, map-at}
use Rattle.mx_table.specs.Tables.{most_words, granted, row_map, IsRow}
use Rattle.mx_table.specs.Rows.{span_at}
use Rattle.mx_table.proofs.RowLaws.{ends_before, ends_up}
use Rattle.mx_trie.specs.Views.{IsRound, IsBegun, IsBegin}

-- whether a word lies before a span or after it
abbrev IsOut : ℕ → Span → Type 0
IsOut i s = (i < s.first) ⊎ (s.first + s.count ≤ i)

fold-none : (i : ℕ) (older : Perm) (row : List Span) → ((k : ℕ) → k < length row → IsOut i (span_at row k)) →
    fold (laid_at i) older (map granted row) ≡ older
fold-none i older [] out = refl
fold-none i older (s ∷ row) out =
    fold-none i (laid_at i older (granted s)) row (λ k lt. out (suc k) (omega arith))
    ∙ (let first = out 0 (omega arith) in grind (arith, laid_at_below, laid_at_behind))

fold-in : (i : ℕ) (older : Perm) (row : List Span) (j : ℕ) → j < length row → (span_at row j).first ≤ i →
    i < (span_at row j).first + (span_at row j).count →
    ((k : ℕ) → j < k → k < length row → i < (span_at row k).first) →
    fold (laid_at i) older (map granted row) ≡ (span_at row j).perm
fold-in i older [] j lt from to later = absurd (omega arith)
fold-in i older (s ∷ row) zero lt from to later =
    fold-none i (laid_at i older (granted s)) row (λ k below. inl (later (suc k) (omega arith) (omega arith)))
    ∙ laid_at_in i older (granted s) from to
fold-in i older (s ∷ row) (suc j) lt from to later =
    fold-in i (laid_at i older (granted s)) row j (omega arith) from to (λ k above below. later (suc k) (omega arith) (omega arith))

-- a word in no span has no permission
row-none : (words : ℕ) (row : List Span) (i : ℕ) → ((k : ℕ) → k < length row → IsOut i (span_at row k)) →
    perm_at (row_map words row) i ≡ P.None
row-none words row i out = search (arith, cases_lt, map-at, fold-none, get_or_past, length-map_of)

module _ (words : ℕ) (row : List Span) (sorted : IsRow words row) where
  -- each span ends before those after it begin
  row-order : (j k : ℕ) → j < k → k < length row → (span_at row j).first + (span_at row j).count ≤ (span_at row k).first
  row-order j k above below = omega (arith, ends_up words row sorted (suc j) k, ends_before words row sorted k below)

  -- the firsts of spans never fall
  pub row-firsts : (j k : ℕ) → j ≤ k → k < length row → (span_at row j).first ≤ (span_at row k).first
  row-firsts j k le below = search (arith, cases_lt, row-order)

  -- the words round a word
  module _ (word next : ℕ) (few : words ≤ most_words) (below : word < most_words) (b : IsBegun row word next) where
    pub first-round : (end : ℕ) → next ≡ 0 → IsBegin row next end →
        IsRound (row_map words row) word (record { first = 0; count = end; perm = P.None })
    first-round end none e =
        search (arith, cases_lt next (length row), row-none, e.inside, e.behind, row-firsts, b.later, sorted.inside)

    pub span-round : (s : Span) → 0 < next → s ≡ span_at row (next - 1) → word < s.first + s.count →
        IsRound (row_map words row) word s
    span-round s some is to = search (arith, b.begun, sorted.inside, map-at, fold-in, row-order)

    pub gap-round : (s : Span) (end : ℕ) → 0 < next → s ≡ span_at row (next - 1) → s.first + s.count ≤ word →
        IsBegin row next end →
        IsRound (row_map words row) word (record { first = s.first + s.count; count = end - (s.first + s.count); perm = P.None })
    gap-round s end some is behind e =
        let ends : (k : ℕ) → k < length row → k < next → (span_at row k).first + (span_at row k).count ≤ s.first + s.count =
        search (arith, cases_lt, row-order) in
        search (arith, cases_lt, row-none, e.inside, e.behind, row-firsts, ends)

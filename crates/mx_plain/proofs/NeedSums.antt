-- The need of some maps, one map after the other.
use Rattle.std.proofs.Common.{◌≡◌, ℕ, ◌+◌, ◌<◌, List, [], ◌∷◌, length, get_or, take, map, sum_by, sym, ◌∙◌, ap, arith}
use Rattle.std.proofs.lemmas.List.{get_or-map, length-map}
use Rattle.std.proofs.lemmas.List.Sums.{sum_by_more}
use Rattle.mx_words.specs.declared.perm.Perm.{Perm}
use Rattle.mx_words.specs.declared.perm.Span.{Span}
use Rattle.mx_words.specs.declared.tables.Kind.{Kind}
use Rattle.mx_words.specs.declared.tables.Kind.TheVariants as K
use Rattle.mx_words.specs.declared.tables.Need.{Need}
use Rattle.mx_words.specs.Runs.{page_words, broken_blocks, crowded_lines}
use Rattle.mx_words.specs.Need.{need, segment_frames, upper_frames}
use Rattle.mx_table.specs.Tables.{row_map}
use Rattle.mx_plain.specs.Sums.{IsFew, sum_of}

abbrev three : ℕ → ℕ → ℕ → Need
three upper leaf spill = record { upper = upper; leaf = leaf; spill = spill }

one : (f : List Perm → ℕ) (ms : List (List Perm)) (i : ℕ) (m : List Perm) → i < length ms → get_or ms i [] ≡ m →
    sum_by f (take (i + 1) ms) ≡ sum_by f (take i ms) + sum_by f (m ∷ [])
one f ms i m lt at =
    let alone : f m ≡ sum_by f (m ∷ []) = omega arith in
    sum_by_more f ms i [] lt ∙ ap (λ x. sum_by f (take i ms) + f x) at ∙ ap (λ n. sum_by f (take i ms) + n) alone

-- one more map
pub need_more : (kind : Kind) (ms : List (List Perm)) (i : ℕ) (m : List Perm) → i < length ms → get_or ms i [] ≡ m →
    sum_of (need kind (take i ms)) (need kind (m ∷ [])) ≡ need kind (take (i + 1) ms)
need_more K.Segments ms i m lt at =
    ap (λ n. three 0 n 0) (sym (one segment_frames ms i m lt at))
need_more K.Multilevel ms i m lt at =
    ap (λ n. three n (sum_by (broken_blocks page_words) (take i ms) + sum_by (broken_blocks page_words) (m ∷ [])) 0)
    (sym (one upper_frames ms i m lt at))
    ∙ ap (λ n. three (sum_by upper_frames (take (i + 1) ms)) n 0) (sym (one (broken_blocks page_words) ms i m lt at))
need_more K.Packed ms i m lt at =
    ap (λ n. three n (sum_by (broken_blocks page_words) (take i ms) + sum_by (broken_blocks page_words) (m ∷ []))
    (sum_by crowded_lines (take i ms) + sum_by crowded_lines (m ∷ []))) (sym (one upper_frames ms i m lt at))
    ∙ ap (λ n. three (sum_by upper_frames (take (i + 1) ms)) n (sum_by crowded_lines (take i ms) + sum_by crowded_lines (m ∷ [])))
    (sym (one (broken_blocks page_words) ms i m lt at))
    ∙ ap (λ n. three (sum_by upper_frames (take (i + 1) ms)) (sum_by (broken_blocks page_words) (take (i + 1) ms)) n)
    (sym (one crowded_lines ms i m lt at))

pub few_more : (i : ℕ) (a b : Need) → IsFew i a → IsFew 1 b → IsFew (i + 1) (sum_of a b)
few_more i a b few one = record {
  upper = (let x = few.upper in let y = one.upper in omega arith);
  leaf = (let x = few.leaf in let y = one.leaf in omega arith);
  spill = (let x = few.spill in let y = one.spill in omega arith);
}

pub row_map-at : (words : ℕ) (rows : List (List Span)) (i : ℕ) → i < length rows
    → get_or (map (row_map words) rows) i [] ≡ row_map words (get_or rows i [])
row_map-at words rows i lt = get_or-map (row_map words) rows i [] [] lt

pub length-row_maps : (words : ℕ) (rows : List (List Span)) → length (map (row_map words) rows) ≡ length rows
length-row_maps words rows = length-map rows (row_map words)

-- one more map in a sum so far
pub need_step : (kind : Kind) (ms : List (List Perm)) (i : ℕ) (m : List Perm) (so_far here sum : Need) → i < length ms
    → get_or ms i [] ≡ m →
    so_far ≡ need kind (take i ms) → IsFew i so_far → here ≡ need kind (m ∷ []) → IsFew 1 here → sum ≡ sum_of so_far here →
    (sum ≡ need kind (take (i + 1) ms)) × IsFew (i + 1) sum
need_step kind ms i m so_far here sum lt at before few is one e = (
  e ∙ ap (λ n. sum_of n here) before ∙ ap (sum_of (need kind (take i ms))) is ∙ need_more kind ms i m lt at,
  rw e (few_more i so_far here few one),
)

-- The maps of plain tables keep their shape.
use Rattle.std.proofs.Common.{◌≡◌, ℕ, ◌+◌, ◌-◌, ◌<◌, ◌≤◌, ◌⊎◌, inl, inr, true, List, [], length, get_or, map, sym, ◌∙◌, ap, arith}
use Rattle.std.proofs.lemmas.Bool.{cases_lt}
use Rattle.std.proofs.lemmas.List.{get_or_past, ext_get_or}
use Rattle.mx_words.specs.declared.perm.Perm.{Perm}
use Rattle.mx_words.specs.declared.perm.Span.{Span}
use Rattle.mx_words.specs.declared.tables.Kind.{Kind}
use Rattle.mx_words.specs.declared.tables.Need.{Need}
use Rattle.mx_words.specs.Need.{fits}
use Rattle.mx_words.specs.Changes.{changed_map}
use Rattle.mx_table.specs.declared.change.Change.{Change}
use Rattle.mx_table.specs.Change.{given, changed}
use Rattle.mx_table.specs.Tables.{most_words, most_modules, row_map, IsLimit, IsShaped}
use Rattle.mx_words.proofs.MapLaws.{length-changed_map}
use Rattle.mx_plain.proofs.MapLaws.{length-row}
use Rattle.mx_table.proofs.ChangedMaps.{changed-at, length-changed}
use Rattle.mx_plain.proofs.NeedSums.{row_map-at, length-row_maps}

-- the map at a row
pub row_long : (kind : Kind) (words : ℕ) (limit : Need) (maps : List (List Perm)) → IsShaped kind words limit maps → (k : ℕ)
    → k < length maps → length (get_or maps k []) ≡ words
row_long kind words limit maps shape k lt =
    let back : k + 1 - 1 ≡ k = omega arith in
    ap (λ i. length (get_or maps i [])) (sym back) ∙ shape.each (k + 1) (record { first = omega arith; last = omega arith })

pub row_small : (kind : Kind) (words : ℕ) (limit : Need) (maps : List (List Perm)) → IsShaped kind words limit maps → (k : ℕ)
    → length (get_or maps k []) ≤ most_words
row_small kind words limit maps shape k = by (cases_lt k (length maps))
  where
    by : (k < length maps) ⊎ (length maps ≤ k) → length (get_or maps k []) ≤ most_words
    by (inl h) = let few = shape.few_words in omega (arith, row_long kind words limit maps shape k h)
    by (inr h) = let none : length (get_or maps k []) ≡ 0 = ap (λ (m : List Perm). length m) (get_or_past maps k [] h) in omega arith

-- maps that have their changes, row by row, are the changed ones
pub changed_are : (change : Change) (maps after : List (List Perm)) → length after ≡ length maps →
    ((k : ℕ) → k < length maps → get_or after k [] ≡ changed_map change.first change.count (given change (k + 1)) (get_or maps k []))
    → after ≡ changed change maps
changed_are change maps after long each =
    ext_get_or [] after (changed change maps) (long ∙ sym (length-changed change maps))
    (λ i lt. let below : i < length maps = omega (arith, long) in each i below ∙ sym (changed-at change maps i below))

-- the maps after a change that fits, and the maps of rows that fit
pub changed_shape : (kind : Kind) (words : ℕ) (limit : Need) (maps : List (List Perm)) (change : Change) → IsShaped kind words limit maps →
    fits kind limit (changed change maps) ≡ true → IsShaped kind words limit (changed change maps)
changed_shape kind words limit maps change shape fit = record {
  some_words = shape.some_words;
  few_words = shape.few_words;
  some_maps = (let some = shape.some_maps in omega (arith, length-changed change maps));
  few_maps = (let few = shape.few_maps in omega (arith, length-changed change maps));
  each = λ d domain.
      (let first = domain.first in
      let last = domain.last in
      let row : d - 1 < length maps = omega (arith, length-changed change maps) in
      ap (λ (m : List Perm). length m) (changed-at change maps (d - 1) row)
      ∙ length-changed_map change.first change.count (given change (d - 1 + 1)) (get_or maps (d - 1) [])
      ∙ row_long kind words limit maps shape (d - 1) row);
  limited = shape.limited;
  fit = fit;
}

pub rows_shape : (kind : Kind) (words : ℕ) (limit : Need) (rows : List (List Span)) → 1 ≤ words → words ≤ most_words → 1 ≤ length rows
    → length rows ≤ most_modules → IsLimit limit →
    fits kind limit (map (row_map words) rows) ≡ true → IsShaped kind words limit (map (row_map words) rows)
rows_shape kind words limit rows some few some_rows few_rows limited fit = record {
  some_words = some;
  few_words = few;
  some_maps = omega (arith, length-row_maps words rows);
  few_maps = omega (arith, length-row_maps words rows);
  each = λ d domain.
      (let first = domain.first in
      let last = domain.last in
      let row : d - 1 < length rows = omega (arith, length-row_maps words rows) in
      ap (λ (m : List Perm). length m) (row_map-at words rows (d - 1) row) ∙ length-row words (get_or rows (d - 1) []));
  limited = limited;
  fit = fit;
}

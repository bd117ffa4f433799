-- What one entry of the ring does to an answer and to a filter.
use Rattle.std.proofs.Common.{◌≡◌, ℕ, ◌+◌, ◌%◌, ◌<◌, ◌≤◌, Bool, true, false, List, ◌++◌, length, get_or, set, find, Option, Some, None}
use Rattle.std.proofs.Common.{refl, sym, ap, subst, ◌∙◌, arith}
use Rattle.std.specs.Option.{option_map_or, option_or}
use Rattle.std.proofs.lemmas.List.{get_or_default}
use Rattle.std.proofs.lemmas.List.Folds.{find-append}
use Rattle.std.proofs.lemmas.List.Filters.{FiltersInPlace, FiltersInPlace-more_set, FiltersInPlace-more_no}
use Rattle.mx_words.specs.Caches.{Entry, is_for, found_kept}
use Rattle.mx_caches.specs.Window.{window}
use Rattle.mx_caches.proofs.Ring.{length-window, get_or-window, set-window}

module _ (domain word : ℕ) where
  -- what two lists answer, one behind the other
  behind : (o p : Option Entry) → option_map_or (λ (e : Entry). Some e.1) (option_or o p) None
      ≡ option_or (option_map_or (λ (e : Entry). Some e.1) o None) (option_map_or (λ (e : Entry). Some e.1) p None)
  behind None p = refl
  behind (Some e) p = refl

  pub found-append : (xs ys : List Entry) → found_kept (xs ++ ys) domain word
      ≡ option_or (found_kept xs domain word) (found_kept ys domain word)
  found-append xs ys =
      ap (λ (o : Option Entry). option_map_or (λ (e : Entry). Some e.1) o None) (find-append (is_for domain word) xs ys)
      ∙ behind (find (is_for domain word) xs) (find (is_for domain word) ys)

module _ (p : Entry → Bool) (es : List Entry) (k n : ℕ) (slots : List Entry) (start : k < 64) (fits : n ≤ 64) (long : length slots ≡ 64)
    (kept i : ℕ) (d x : Entry) (so_far : FiltersInPlace p es (window k n slots) kept i) (in_use : i < n)
    (read : x ≡ get_or slots ((k + i) % 64) d) where
  within : i < length (window k n slots)
  within = omega (arith, length-window k n slots start fits long)

  read_there : x ≡ get_or (window k n slots) i x
  read_there = read ∙ sym (get_or-window k n slots start fits long i d in_use) ∙ get_or_default (window k n slots) i d x within

  -- an entry that passes moves to the next place
  pub moves : p x ≡ true → FiltersInPlace p es (window k n (set slots ((k + kept) % 64) x)) (kept + 1) (i + 1)
  moves passes =
      subst (λ ys. FiltersInPlace p es ys (kept + 1) (i + 1))
      (sym (set-window k n slots start fits long kept x (omega (arith, so_far.behind))))
      (FiltersInPlace-more_set so_far within passes read_there)

  -- an entry that doesn't is left out
  pub left_out : p x ≡ false → FiltersInPlace p es (window k n slots) kept (i + 1)
  left_out fails = FiltersInPlace-more_no so_far within fails read_there

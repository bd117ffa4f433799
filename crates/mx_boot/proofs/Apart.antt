-- Areas of a plan without a fault: they lie in RAM and share no word.
use Rattle.std.proofs.Common.{◌≡◌, ◌⊎◌, inl, inr, ℕ, zero, suc, ◌+◌, ◌/◌, ◌≤◌, true, false, not, List, [], ◌∷◌, ◌++◌, length, find}
use Rattle.std.proofs.Common.{slice_get, Option, Some, None, refl, ◌∙◌, sym, arith}
use Rattle.std.specs.List.{AllByRecursion}
use Rattle.std.specs.Option.{is_some}
use Rattle.std.proofs.lemmas.Bool.Decides.{nat_tests}
use Rattle.std.proofs.lemmas.Option.{same_Some}
use Rattle.std.proofs.lemmas.Bool.{not-false}
use Rattle.mx_words.specs.FirstRow.{first_row}
use Rattle.mx_words.specs.Ranges.{covers}
use Rattle.mx_words.proofs.FirstRowLaws.{first_row-append}
use Rattle.mx_words.proofs.OptionLaws.{neither, row_none}
use Rattle.mx_boot.specs.declared.area.Area.{Area}
use Rattle.mx_boot.specs.Entries.{word_at}
use Rattle.mx_boot.specs.Faults.{is_in_ram, shares_word, area_rows, areas_rows}
use Rattle.mx_model.proofs.EachLaws.{all_at, find_none}
use Rattle.mx_model.proofs.JoinLaws.{all-weaker}

none_from : {A : Type 0} (o : Option A) → is_some o ≡ false → o ≡ None
none_from None h = refl
none_from (Some x) h = absurd cc

-- an area after earlier ones
pub record IsClear (words : ℕ) (earlier : List Area) (a : Area) : Type 0 where
  pub inside : is_in_ram words a ≡ true
  pub apart : AllByRecursion (λ b. shares_word a b ≡ false) earlier

area_clear : (words : ℕ) (earlier : List Area) (a : Area) → first_row (area_rows words earlier a) ≡ None → IsClear words earlier a
area_clear words earlier a h =
    let first = row_none (not (is_in_ram words a)) _ _ h in
    let second = row_none (is_some (find (shares_word a) earlier)) _ _ first.1 in
    record {
      inside = not-false (is_in_ram words a) first.0;
      apart = find_none (shares_word a) earlier (none_from (find (shares_word a) earlier) second.0);
    }

-- each area lies in RAM and shares no word with an earlier one
abbrev pub AreClear : ℕ → List Area → List Area → Type 0
AreClear words earlier [] = Unit {0}
AreClear words earlier (a ∷ rest) = IsClear words earlier a × AreClear words (earlier ++ a ∷ []) rest

pub areas_clear : (words : ℕ) (earlier all : List Area) → first_row (areas_rows words earlier all) ≡ None → AreClear words earlier all
areas_clear words earlier [] h = tt
areas_clear words earlier (a ∷ rest) h =
    let both = neither (first_row (area_rows words earlier a)) (first_row (areas_rows words (earlier ++ a ∷ []) rest))
    (sym (first_row-append (area_rows words earlier a) (areas_rows words (earlier ++ a ∷ []) rest)) ∙ h) in
    (area_clear words earlier a both.0, areas_clear words (earlier ++ a ∷ []) rest both.1)

pub all_inside : (words : ℕ) (earlier all : List Area) → AreClear words earlier all → AllByRecursion (λ a. is_in_ram words a ≡ true) all
all_inside words earlier [] h = tt
all_inside words earlier (a ∷ rest) h = (h.0.inside, all_inside words (earlier ++ a ∷ []) rest h.1)

-- the areas share no word with those before them
apart_from : (words : ℕ) (earlier all : List Area) → AreClear words earlier all → (b : Area) (i : ℕ) → slice_get earlier i ≡ Some b
    → AllByRecursion (λ a. shares_word a b ≡ false) all
apart_from words earlier [] h b i at = tt
apart_from words earlier (a ∷ rest) h b i at = (
  all_at (λ c. shares_word a c ≡ false) earlier i b h.0.apart at,
  apart_from words (earlier ++ a ∷ []) rest h.1 b i (get_left earlier (a ∷ []) i b at),
)
  where
    get_left : (xs ys : List Area) (i : ℕ) (x : Area) → slice_get xs i ≡ Some x → slice_get (xs ++ ys) i ≡ Some x
    get_left [] ys i x e = absurd cc
    get_left (y ∷ xs) ys zero x e = e
    get_left (y ∷ xs) ys (suc i) x e = get_left xs ys i x e

get_last : (xs : List Area) (x : Area) → slice_get (xs ++ x ∷ []) (length xs) ≡ Some x
get_last [] x = refl
get_last (y ∷ xs) x = get_last xs x

-- overlaps is symmetric
pub shares_both : (a b : Area) → shares_word a b ≡ shares_word b a
shares_both a b = search (arith, a.address, a.count, b.address, b.count, nat_tests)

-- an area of the list shares no word with any other
pub apart_at : (words : ℕ) (earlier all : List Area) → AreClear words earlier all → (i : ℕ) (b : Area) → slice_get all i ≡ Some b
    → AllByRecursion (λ a. (shares_word a b ≡ false) ⊎ (a ≡ b)) all
apart_at words earlier [] h i b at = tt
apart_at words earlier (a ∷ rest) h zero b at =
    let same = same_Some _ _ at in
    let later = apart_from words (earlier ++ a ∷ []) rest h.1 b (length earlier) (get_last earlier a ∙ at) in
    (inr same, all-weaker (λ c. shares_word c b ≡ false) (λ c. (shares_word c b ≡ false) ⊎ (c ≡ b)) rest (λ c e. inl e) later)
apart_at words earlier (a ∷ rest) h (suc i) b at =
    let before : shares_word b a ≡ false = all_at (λ c. shares_word c a ≡ false) rest i b
    (apart_from words (earlier ++ a ∷ []) rest h.1 a (length earlier) (get_last earlier a)) at in
    (inl (shares_both a b ∙ before), apart_at words (earlier ++ a ∷ []) rest h.1 i b at)

-- what an area in RAM covers there
pub record IsInRam (words : ℕ) (a : Area) : Type 0 where
  pub from : 2147483648 ≤ a.address
  pub to : a.address / 4 + a.count ≤ 536870912 + words

pub in_ram : (words : ℕ) (a : Area) → is_in_ram words a ≡ true → IsInRam words a
in_ram words a h = search (arith, a.address, nat_tests)

-- counted from RAM's first word
pub word_is : (address : ℕ) → 2147483648 ≤ address → address / 4 ≡ 536870912 + word_at address
word_is address from = omega arith

pub end_is : (words : ℕ) (a : Area) → IsInRam words a → word_at a.address + a.count ≤ words
end_is words a h = omega (arith, word_is a.address h.from)

-- two areas in RAM that cover one word share it
pub both_cover : (words : ℕ) (a b : Area) (word : ℕ) → IsInRam words a → IsInRam words b → covers (word_at a.address) a.count word ≡ true
    → covers (word_at b.address) b.count word ≡ true → shares_word a b ≡ true
both_cover words a b word ha hb ca cb = search (arith, a.address, a.count, b.address, b.count, word_is, nat_tests)

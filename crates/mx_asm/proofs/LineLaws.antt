-- Laws of the lines of a text.
use Rattle.std.proofs.Common.{◌≡◌, ◌==◌, ℕ, suc, ◌+◌, ◌-◌, ◌*◌, ◌^◌, ◌<◌, ◌≤◌, Bool, true, false, cond, List, [], ◌∷◌, length, get_or, take}
use Rattle.std.proofs.Common.{drop, refl, ap, sym, ◌∙◌, arith, zero, slice_index}
use Rattle.std.proofs.lemmas.List.{at_drop_more, length-take}
use Rattle.std.specs.List.{slice_split, onto_first, AllByRecursion}
use Rattle.mx_asm.specs.declared.places.Place.{Place}
use Rattle.std.specs.Str.Lines.{lines, lines_of_parts, strip_carriage_return}

-- whether a character ends a line
abbrev ends_line : ℕ → Bool
ends_line b = b == 10

-- there is a part
pub split-cons : (bs : List ℕ) → (x : List ℕ) × (more : List (List ℕ)) × (slice_split ends_line bs ≡ x ∷ more)
split-cons [] = ([], [], refl)
split-cons (b ∷ bs) =
    let r = split-cons bs in
    elim (ends_line b) as (λ e. (x : List ℕ) × (more : List (List ℕ))
    × (cond e ([] ∷ slice_split ends_line bs) (onto_first b (slice_split ends_line bs)) ≡ x ∷ more))
    [ true ↦ ([], slice_split ends_line bs, refl) | false ↦ (b ∷ r.0, r.1, ap (onto_first b) r.2) ]

-- one more character in the first part
more_first : (b : ℕ) (x : List ℕ) (more : List (List ℕ)) (n : ℕ) → length (lines_of_parts (x ∷ more)) ≤ n
    → length (lines_of_parts ((b ∷ x) ∷ more)) ≤ suc n
more_first b x [] n h =
    elim (length (b ∷ x) == 0) as (λ e. length (cond e [] ((b ∷ x) ∷ [])) ≤ suc n) [ true ↦ omega arith | false ↦ omega arith ]
more_first b x (y ∷ more) n h = omega (arith, h)

-- one more line end
more_line : (x : List ℕ) (more : List (List ℕ)) (n : ℕ) → length (lines_of_parts (x ∷ more)) ≤ n
    → length (lines_of_parts ([] ∷ x ∷ more)) ≤ suc n
more_line x more n h = omega (arith, h)

-- each line takes a character of the text
pub length-lines : (bs : List ℕ) → length (lines bs) ≤ length bs
length-lines [] = omega arith
length-lines (b ∷ bs) =
    let r = split-cons bs in
    let e : slice_split ends_line bs ≡ r.0 ∷ r.1 = r.2 in
    let h : length (lines_of_parts (r.0 ∷ r.1)) ≤ length bs = rw r.2 at (length-lines bs) in
    elim (ends_line b) as (λ t. length (lines_of_parts (cond t ([] ∷ slice_split ends_line bs) (onto_first b (slice_split ends_line bs))))
    ≤ length (b ∷ bs))
    [ true ↦ rw e (more_line r.0 r.1 (length bs) h) | false ↦ rw e (more_first b r.0 r.1 (length bs) h) ]

-- a list of lists of which none is longer
abbrev AreShort : ℕ → List (List ℕ) → Type 0
AreShort most xs = AllByRecursion (λ x. length x ≤ most) xs

longer_too : (xs : List (List ℕ)) (n : ℕ) → AreShort n xs → AreShort (suc n) xs
longer_too [] n h = tt
longer_too (x ∷ xs) n h = (omega (arith, h.0), longer_too xs n h.1)

short_onto : (b : ℕ) (xs : List (List ℕ)) (n : ℕ) → AreShort n xs → AreShort (suc n) (onto_first b xs)
short_onto b [] n h = (omega arith, tt)
short_onto b (x ∷ xs) n h = (omega (arith, h.0), longer_too xs n h.1)

short_parts : (bs : List ℕ) → AreShort (length bs) (slice_split ends_line bs)
short_parts [] = (omega arith, tt)
short_parts (b ∷ bs) =
    elim (ends_line b) as (λ t. AreShort (length (b ∷ bs)) (cond t ([] ∷ slice_split ends_line bs)
    (onto_first b (slice_split ends_line bs)))) [
      | true ↦ (omega arith, longer_too (slice_split ends_line bs) (length bs) (short_parts bs))
      | false ↦
          short_onto b (slice_split ends_line bs) (length bs) (short_parts bs)
    ]

short_strip : (x : List ℕ) (n : ℕ) → length x ≤ n → length (strip_carriage_return x) ≤ n
short_strip x n h =
    elim (slice_index x (length x - 1) == 13) as (λ t. length (cond t (take (length x - 1) x) x) ≤ n)
    [ true ↦ omega (arith, length-take (length x - 1) x) | false ↦ h ]

short_of_parts : (xs : List (List ℕ)) (n : ℕ) → AreShort n xs → AreShort n (lines_of_parts xs)
short_of_parts [] n h = tt
short_of_parts (x ∷ []) n h = elim (length x == 0) as (λ t. AreShort n (cond t [] (x ∷ []))) [ true ↦ tt | false ↦ (h.0, tt) ]
short_of_parts (x ∷ y ∷ more) n h = (short_strip x n h.0, short_of_parts (y ∷ more) n h.1)

short_at : (xs : List (List ℕ)) (n k : ℕ) (d : List ℕ) → k < length xs → AreShort n xs → length (get_or xs k d) ≤ n
short_at [] n k d lt h = absurd (omega arith)
short_at (x ∷ xs) n zero d lt h = h.0
short_at (x ∷ xs) n (suc k) d lt h = short_at xs n k d (omega arith) h.1

-- what is known of the line at a place
pub record IsLineAt (source : List ℕ) (k : ℕ) (text : List ℕ) : Type 0 where
  pub next : drop k (lines source) ≡ text ∷ drop (k + 1) (lines source)
  pub short : length text ≤ length source
  pub few : k < length source

pub line_at : (source : List ℕ) (k : ℕ) (text : List ℕ) → (k < length (lines source)) × (text ≡ get_or (lines source) k text)
    → IsLineAt source k text
line_at source k text h =
    record {
      next = at_drop_more (λ l. l) (lines source) k text h.0 ∙ ap (λ x. x ∷ drop (k + 1) (lines source)) (sym h.1);
      short = rw h.1 (short_at (lines source) (length source) k text h.0
          (short_of_parts (slice_split ends_line source) (length source) (short_parts source)));
      few = omega (arith, h.0, length-lines source);
    }

-- after so many lines a place is bounded
pub record IsPlaceBound (lines : ℕ) (place : Place) : Type 0 where
  pub segments : place.segments ≤ lines
  pub here : place.here ≤ 2 ^ 34 * lines
  pub total : place.total ≤ 2 ^ 34 * lines

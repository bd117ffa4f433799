-- Loading segments one by one.
use Rattle.std.proofs.Common.{◌≡◌, ℕ, ◌+◌, ◌-◌, ◌*◌, ◌<◌, true, false, List, [], ◌∷◌, ◌++◌, length, refl, sym, ap, ◌∙◌, append_assoc}
use Rattle.std.specs.Prelude.{Some, None}
use Rattle.std.specs.Option.{option_or}
use Rattle.std.proofs.lemmas.List.{length-append}
use Rattle.mx_elf.specs.declared.segment.Seg.{Seg}
use Rattle.mx_elf.specs.Field.{places}
use Rattle.mx_elf.specs.Image.{first_fault, segment_rows, is_loaded, segment_at, segments_at, rows_from}
use Rattle.mx_words.proofs.FirstRowLaws.{first_row-append}
use Rattle.mx_elf.proofs.Places.{places-next}

-- what is loaded before the k-th header, and what its faults have to do with those of all
pub record IsSoFar (bytes : List ℕ) (first count k : ℕ) (items : List Seg) : Type 0 where
  pub segments : items ++ segments_at bytes (places (first + 32 * k) 32 (count - k)) ≡ segments_at bytes (places first 32 count)
  pub faults : first_fault (rows_from (length bytes) (length items) (segments_at bytes (places (first + 32 * k) 32 (count - k))))
      ≡ first_fault (rows_from (length bytes) 0 (segments_at bytes (places first 32 count)))

pub passes : (bytes : List ℕ) (first count k : ℕ) (items : List Seg) → k < count → is_loaded bytes (first + 32 * k) ≡ false
    → IsSoFar bytes first count k items → IsSoFar bytes first count (k + 1) items
passes bytes first count k items lt fails h =
    let e : segments_at bytes (places (first + 32 * k) 32 (count - k))
    ≡ segments_at bytes (places (first + 32 * (k + 1)) 32 (count - (k + 1))) = rw (places-next first 32 count k lt, fails) refl in
    record { segments = rw (← e) h.segments; faults = rw (← e) h.faults }

-- at a loaded header what is left is its segment and the rest
here : (bytes : List ℕ) (first count k : ℕ) → k < count → is_loaded bytes (first + 32 * k) ≡ true
    → segments_at bytes (places (first + 32 * k) 32 (count - k))
    ≡ segment_at bytes (first + 32 * k) ∷ segments_at bytes (places (first + 32 * (k + 1)) 32 (count - (k + 1)))
here bytes first count k lt holds = rw (places-next first 32 count k lt, holds) refl

-- and its faults come first
pub faults-here : (size n : ℕ) (s : Seg) (rest : List Seg)
    → first_fault (rows_from size n (s ∷ rest)) ≡ option_or (first_fault (segment_rows size (n, s)))
    (first_fault (rows_from size (n + 1) rest))
faults-here size n s rest = first_row-append (segment_rows size (n, s)) (rows_from size (n + 1) rest)

pub adds : (bytes : List ℕ) (first count k : ℕ) (items : List Seg) → k < count → is_loaded bytes (first + 32 * k) ≡ true
    → first_fault (segment_rows (length bytes) (length items, segment_at bytes (first + 32 * k))) ≡ None
    → IsSoFar bytes first count k items → IsSoFar bytes first count (k + 1) (items ++ segment_at bytes (first + 32 * k) ∷ [])
adds bytes first count k items lt holds none h =
    let s = segment_at bytes (first + 32 * k) in
    let rest = segments_at bytes (places (first + 32 * (k + 1)) 32 (count - (k + 1))) in
    let e = here bytes first count k lt holds in
    let one : first_fault (rows_from (length bytes) (length items) (s ∷ rest))
    ≡ first_fault (rows_from (length bytes) (length items + 1) rest) =
    faults-here (length bytes) (length items) s rest ∙ ap (λ o.
    option_or o (first_fault (rows_from (length bytes) (length items + 1) rest))) none in
    let len : length (items ++ s ∷ []) ≡ length items + 1 = length-append items (s ∷ []) in
    record {
      segments = append_assoc items (s ∷ []) rest ∙ ap (λ xs. items ++ xs) (sym e) ∙ h.segments;
      faults = ap (λ n. first_fault (rows_from (length bytes) n rest)) len ∙ sym one
          ∙ ap (λ xs. first_fault (rows_from (length bytes) (length items) xs)) (sym e) ∙ h.faults;
    }

pub stops : (bytes : List ℕ) (first count k : ℕ) (items : List Seg) (number : ℕ) → k < count → is_loaded bytes (first + 32 * k) ≡ true
    → first_fault (segment_rows (length bytes) (length items, segment_at bytes (first + 32 * k))) ≡ Some number
    → IsSoFar bytes first count k items → first_fault (rows_from (length bytes) 0 (segments_at bytes (places first 32 count))) ≡ Some number
stops bytes first count k items number lt holds some h =
    let s = segment_at bytes (first + 32 * k) in
    let rest = segments_at bytes (places (first + 32 * (k + 1)) 32 (count - (k + 1))) in
    sym h.faults ∙ ap (λ xs. first_fault (rows_from (length bytes) (length items) xs)) (here bytes first count k lt holds)
    ∙ faults-here (length bytes) (length items) s rest ∙ ap (λ o.
    option_or o (first_fault (rows_from (length bytes) (length items + 1) rest))) some

-- Parts of a file, put one after another at the place of the next.
use Rattle.std.proofs.Common.{◌≡◌, ℕ, ◌+◌, ◌-◌, ◌<◌, ◌≤◌, List, [], ◌∷◌, ◌++◌, length, take, drop, Option, Some, None, option_map, IfOk}
use Rattle.std.proofs.Common.{Result, Ok, Err, refl, sym, ap, subst, ◌∙◌, inl, inr, append_assoc, length-take, length-drop, arith}
use Rattle.std.specs.Result.{result_ok}
use Rattle.std.proofs.lemmas.List.{length-take-le, append-nil, take-append-le}
use Rattle.std.proofs.lemmas.Slice.{take-put_mid_below}
use Rattle.std.proofs.Math.Seq.{take-add, take-append_seam, drop-append_seam}
use borrow.Rule.Slice.PartMut.{put_mid, post_of}
use Rattle.mx_io.specs.Answer.{Answer, Gave, Talks}
use Rattle.mx_io.proofs.Talks.{talks_more}
use Rattle.mx_commands.specs.Finding.{Finding, Short, Broken, Whole, Completes}
use Rattle.mx_commands.specs.Reading.{TakesPart}

-- whatever rest leads on from the bytes so far leads, after these answers, on from none
abbrev pub LeadsFrom : List ℕ → ℕ → List Answer → List ℕ → Type 0
LeadsFrom name told answers got = (rest : List Answer) (found : Finding) → Completes name told got rest found
    → Completes name told [] (answers ++ rest) found

module _ {S : Type 0} (gives : S → Answer → S → Type 0) (name : List ℕ) (told : ℕ) where
  -- so much came of the file by the answers so far
  abbrev pub Came : S → S → List ℕ → Type 0
  Came s m got = (answers : List Answer) × Talks gives s answers m × LeadsFrom name told answers got

  -- the answers come to this
  abbrev pub ComesTo : S → S → Finding → Type 0
  ComesTo s t found = (answers : List Answer) × Talks gives s answers t × Completes name told [] answers found

  pub came_none : (s : S) → Came s s []
  came_none s = ([], refl, λ rest found c. c)

  -- one more answer, after which these lead on
  more_answers : (s m t : S) (got : List ℕ) (a : Answer) (found : Finding) → gives m a t → Completes name told got (a ∷ []) found
      → Came s m got → ComesTo s t found
  more_answers s m t got a found step last c = (c.0 ++ a ∷ [], talks_more gives s m t c.0 a c.1 step, c.2 (a ∷ []) found last)

  -- one more part with bytes
  came_step : (s m t : S) (got part : List ℕ) → length got < told → 0 < length part
      → gives m (Gave name (length got) (told - length got) (Some part)) t → Came s m got → Came s t (got ++ part)
  came_step s m t got part short more step c =
      let a = Gave name (length got) (told - length got) (Some part) in (
        c.0 ++ a ∷ [],
        talks_more gives s m t c.0 a c.1 step,
        λ rest found next. subst (λ (list : List Answer). Completes name told [] list found) (sym (append_assoc c.0 (a ∷ []) rest))
            (c.2 (a ∷ rest) found (short, Some part, refl, inl (part, refl, more, next))),
      )

  -- the answer of a part, with the room that was missing
  answer_of : (m t : S) (at : ℕ) (old : List ℕ) (part : Option (List ℕ)) → length old ≡ told → at ≤ told
      → gives m (Gave name at (length old - at) part) t
      → gives m (Gave name (length (take at old)) (told - length (take at old)) part) t
  answer_of m t at old part size within step =
      let n : length (take at old) ≡ at = length-take-le at old (omega (arith, size, within)) in
      rw (n, ← size) step

  pub came_part : {E : Type 0} (s m t : S) (at k : ℕ) (old now : List ℕ) → length old ≡ told → length now ≡ told → at < told → 0 < k
      → TakesPart {E = E} gives name at m t old now (Ok k) → Came s m (take at old) → Came s t (take (at + k) now)
  came_part s m t at k old now size same short more part c =
      let n : length (take at old) ≡ at = length-take-le at old (omega (arith, size, short)) in
      let count = length-take k (drop at now) in
      let behind = length-drop at now in
      let bound = part.bound in
      let all : take (at + k) now ≡ take at old ++ take k (drop at now) = take-add at k now
      ∙ ap (λ bs. bs ++ take k (drop at now)) part.front in
      subst (λ (bs : List ℕ). Came s t bs) (sym all)
      (came_step s m t (take at old) (take k (drop at now)) (omega (arith, n, short))
      (omega (arith, count, behind, bound, size, same, more))
      (answer_of m t at old (Some (take k (drop at now))) size (omega (arith, short)) part.step) c)

  -- a part of no bytes
  pub came_end : {E : Type 0} (s m t : S) (at : ℕ) (old now : List ℕ) → length old ≡ told → at < told
      → TakesPart {E = E} gives name at m t old now (Ok 0) → Came s m (take at old) → ComesTo s t (Short told at)
  came_end s m t at old now size short part c =
      let n : length (take at old) ≡ at = length-take-le at old (omega (arith, size, short)) in
      let step = answer_of m t at old (Some []) size (omega (arith, short)) part.step in
      more_answers s m t (take at old) (Gave name (length (take at old)) (told - length (take at old)) (Some [])) (Short told at) step
      (omega (arith, n, short), Some [], refl, inr (ap (Short told) (sym n), refl)) c

  -- a part whose reading failed
  pub came_failed : {E : Type 0} {e : E} (s m t : S) (at : ℕ) (old now : List ℕ) → length old ≡ told → at < told
      → TakesPart gives name at m t old now (Err e) → Came s m (take at old) → ComesTo s t Broken
  came_failed s m t at old now size short part c =
      let n : length (take at old) ≡ at = length-take-le at old (omega (arith, size, short)) in
      let step = answer_of m t at old None size (omega (arith, short)) part.step in
      more_answers s m t (take at old) (Gave name (length (take at old)) (told - length (take at old)) None) Broken step
      (omega (arith, n, short), None, refl, inr (refl, refl)) c

  -- all of it came
  pub came_all : (s t : S) (bytes : List ℕ) → length bytes ≡ told → Came s t bytes → ComesTo s t (Whole bytes)
  came_all s t bytes size c = (
    c.0,
    c.1,
    subst (λ (list : List Answer). Completes name told [] list (Whole bytes)) (append-nil c.0)
        (c.2 [] (Whole bytes) (size, refl)),
  )

-- what was put back in place of all of a list
pub written_back : (n : ℕ) (now rest : List ℕ) → n ≡ length now → take n (now ++ rest) ≡ now
written_back n now rest is = rw is (take-append_seam now rest)

-- what stands after a place after a slice from there on was put back
behind : (at k n : ℕ) (bytes into : List ℕ) → at ≤ length bytes → k ≤ length into → take k (drop at (put_mid at n bytes into)) ≡ take k into
behind at k n bytes into within fits =
    let here : length (take at bytes) ≡ at = length-take-le at bytes within in
    let seam = drop-append_seam (take at bytes) (into ++ post_of at n bytes) in
    let whole = subst (λ (m : ℕ). drop m (take at bytes ++ (into ++ post_of at n bytes)) ≡ (into ++ post_of at n bytes)) here seam in
    ap (take k) whole ∙ take-append-le k into (post_of at n bytes) fits

-- a call for a part into the slice from a place on
pub takes_part : {S E : Type 0} (gives : S → Answer → S → Type 0) (name : List ℕ) (s t : S) (at : ℕ) (bytes into : List ℕ)
    (result : Result ℕ E) → at ≤ length bytes → length into ≡ length bytes - at
    → gives s (Gave name at (length into) (option_map (λ k. take k into) (result_ok result))) t → IfOk result (λ k. k ≤ length into)
    → TakesPart gives name at s t bytes (put_mid at (length bytes - at) bytes into) result
takes_part gives name s t at bytes into (Ok k) within size step bound =
    record {
      step = rw (behind at k (length bytes - at) bytes into within bound, ← size) step;
      bound = omega (arith, bound, size, within);
      front = take-put_mid_below at (length bytes - at) bytes into at (omega arith) within;
    }
takes_part gives name s t at bytes into (Err e) within size step bound =
    record { step = rw (← size) step; bound = tt; front = take-put_mid_below at (length bytes - at) bytes into at (omega arith) within }

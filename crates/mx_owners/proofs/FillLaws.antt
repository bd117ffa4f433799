-- Laws of runs that fill a range of words: cut in two, joined, and the owners that they tell.
use Rattle.std.proofs.Common.{ℕ, zero, suc, ◌≡◌, ◌≢◌, ◌+◌, ◌<◌, ◌≤◌, ⊎_elim, List, [], ◌∷◌, ◌++◌, length, take, drop, refl, sym, ◌∙◌, ap}
use Rattle.std.proofs.Common.{subst, arith}
use Rattle.std.proofs.lemmas.Bool.{cases_lt, lt-ltb, le-ltb}
use Rattle.std.proofs.lemmas.List.{take-append-drop, drop_more, length-take-le}
use Rattle.mx_owners.specs.declared.runs.Run.{Run}
use Rattle.mx_owners.specs.OwnerRuns.{Fill, owner_in, run_at, no_run}

-- the word after the last run, and the last owner
abbrev pub end_of : ℕ → List Run → ℕ
end_of low [] = low
end_of low (r ∷ rs) = end_of r.end rs

abbrev pub last_owner : ℕ → List Run → ℕ
last_owner before [] = before
last_owner before (r ∷ rs) = last_owner r.owner rs

pub Fill-append : (low high before : ℕ) (xs ys : List Run) → Fill low (end_of low xs) before xs
    → Fill (end_of low xs) high (last_owner before xs) ys →
    Fill low high before (xs ++ ys)
Fill-append low high before [] ys a b = b
Fill-append low high before (r ∷ xs) ys a b = (a.0, a.1, Fill-append r.end high r.owner xs ys a.2 b)

pub Fill-left : (low high before : ℕ) (xs ys : List Run) → Fill low high before (xs ++ ys) → Fill low (end_of low xs) before xs
Fill-left low high before [] ys h = refl
Fill-left low high before (r ∷ xs) ys h = (h.0, h.1, Fill-left r.end high r.owner xs ys h.2)

pub Fill-right : (low high before : ℕ) (xs ys : List Run) → Fill low high before (xs ++ ys)
    → Fill (end_of low xs) high (last_owner before xs) ys
Fill-right low high before [] ys h = h
Fill-right low high before (r ∷ xs) ys h = Fill-right r.end high r.owner xs ys h.2

pub Fill-le : (low high before : ℕ) (rs : List Run) → Fill low high before rs → low ≤ high
Fill-le low high before [] h = omega (arith, h)
Fill-le low high before (r ∷ rs) h = omega (arith, h.0, Fill-le r.end high r.owner rs h.2)

pub Fill-end : (low high before : ℕ) (rs : List Run) → Fill low high before rs → end_of low rs ≡ high
Fill-end low high before [] h = h
Fill-end low high before (r ∷ rs) h = Fill-end r.end high r.owner rs h.2

-- the ends of runs lie in the range and rise
pub end_bounds : (low high before : ℕ) (rs : List Run) (i : ℕ) → Fill low high before rs → i < length rs
    → (low < (run_at rs i).end) × ((run_at rs i).end ≤ high)
end_bounds low high before [] i h lt = absurd (omega arith)
end_bounds low high before (r ∷ rs) zero h lt = (h.0, Fill-le r.end high r.owner rs h.2)
end_bounds low high before (r ∷ rs) (suc i) h lt =
    let rest : (r.end < (run_at rs i).end) × ((run_at rs i).end ≤ high) = end_bounds r.end high r.owner rs i h.2 (omega arith) in
    (omega (arith, h.0, rest.0), rest.1)

pub rising : (low high before : ℕ) (rs : List Run) (i j : ℕ) → Fill low high before rs → i ≤ j → j < length rs
    → (run_at rs i).end ≤ (run_at rs j).end
rising low high before [] i j h le lt = absurd (omega arith)
rising low high before (r ∷ rs) zero zero h le lt = omega arith
rising low high before (r ∷ rs) zero (suc j) h le lt =
    let rest : (r.end < (run_at rs j).end) × ((run_at rs j).end ≤ high) = end_bounds r.end high r.owner rs j h.2 (omega arith) in
    omega (arith, rest.0)
rising low high before (r ∷ rs) (suc i) zero h le lt = absurd (omega arith)
rising low high before (r ∷ rs) (suc i) (suc j) h le lt = rising r.end high r.owner rs i j h.2 (omega arith) (omega arith)

-- a word below the end of some runs has its owner among them, and one after them among those that follow
pub owner_in-left : (low before : ℕ) (xs ys : List Run) (w : ℕ) → Fill low (end_of low xs) before xs → w < end_of low xs → low ≤ w
    → owner_in (xs ++ ys) w ≡ owner_in xs w
owner_in-left low before [] ys w h lt le = absurd (omega arith)
owner_in-left low before (r ∷ xs) ys w h lt le = ⊎_elim
    (λ (below : w < r.end). rw (lt-ltb w r.end below) refl)
    (λ (behind : r.end ≤ w). rw (le-ltb w r.end behind) (owner_in-left r.end r.owner xs ys w h.2 lt behind))
    (cases_lt w r.end)

pub owner_in-right : (low before : ℕ) (xs ys : List Run) (w : ℕ) → Fill low (end_of low xs) before xs → end_of low xs ≤ w
    → owner_in (xs ++ ys) w ≡ owner_in ys w
owner_in-right low before [] ys w h le = refl
owner_in-right low before (r ∷ xs) ys w h le =
    let reach : r.end ≤ end_of r.end xs = Fill-le r.end (end_of r.end xs) r.owner xs h.2 in
    let behind : r.end ≤ w = omega arith in
    rw (le-ltb w r.end behind) (owner_in-right r.end r.owner xs ys w h.2 le)

-- what runs that fill a range are around one of them
pub record Around (low high before : ℕ) (rs : List Run) (i : ℕ) : Type 0 where
  pub cut : rs ≡ take i rs ++ run_at rs i ∷ drop (i + 1) rs
  pub len : length (take i rs) ≡ i
  pub left : Fill low (end_of low (take i rs)) before (take i rs)
  pub rises : end_of low (take i rs) < (run_at rs i).end
  pub differs : 0 < end_of low (take i rs) → (run_at rs i).owner ≢ last_owner before (take i rs)
  pub right : Fill (run_at rs i).end high (run_at rs i).owner (drop (i + 1) rs)

pub around : (low high before : ℕ) (rs : List Run) (i : ℕ) → Fill low high before rs → i < length rs → Around low high before rs i
around low high before rs i fill lt =
    let cut : rs ≡ take i rs ++ run_at rs i ∷ drop (i + 1) rs = sym (take-append-drop i rs)
    ∙ ap (λ (qs : List Run). take i rs ++ qs) (drop_more rs i no_run lt) in
    let here : Fill low high before (take i rs ++ run_at rs i ∷ drop (i + 1) rs) =
    subst (λ (qs : List Run). Fill low high before qs) cut fill in
    let right : Fill (end_of low (take i rs)) high (last_owner before (take i rs)) (run_at rs i ∷ drop (i + 1) rs) =
    Fill-right low high before (take i rs) (run_at rs i ∷ drop (i + 1) rs) here in
    record {
      cut = cut;
      len = length-take-le i rs (omega arith);
      left = Fill-left low high before (take i rs) (run_at rs i ∷ drop (i + 1) rs) here;
      rises = right.0;
      differs = right.1;
      right = right.2;
    }

module _ (low high before : ℕ) (rs : List Run) (i : ℕ) (a : Around low high before rs i) where
  -- the owners before a run, in it, and after it
  pub owner_before : (w : ℕ) → low ≤ w → w < end_of low (take i rs) → owner_in rs w ≡ owner_in (take i rs) w
  owner_before w le lt = ap (λ (qs : List Run). owner_in qs w) a.cut
      ∙ owner_in-left low before (take i rs) (run_at rs i ∷ drop (i + 1) rs) w a.left lt le

  pub owner_from : (w : ℕ) → end_of low (take i rs) ≤ w → owner_in rs w ≡ owner_in (run_at rs i ∷ drop (i + 1) rs) w
  owner_from w le = ap (λ (qs : List Run). owner_in qs w) a.cut
      ∙ owner_in-right low before (take i rs) (run_at rs i ∷ drop (i + 1) rs) w a.left le

  pub owner_within : (w : ℕ) → end_of low (take i rs) ≤ w → w < (run_at rs i).end → owner_in rs w ≡ (run_at rs i).owner
  owner_within w le lt = owner_from w le ∙ (rw (lt-ltb w (run_at rs i).end lt) refl)

  pub owner_behind : (w : ℕ) → (run_at rs i).end ≤ w → owner_in rs w ≡ owner_in (drop (i + 1) rs) w
  owner_behind w le = owner_from w (omega (arith, a.rises)) ∙ (rw (le-ltb w (run_at rs i).end le) refl)

  -- the word after a run has another owner
  pub next_differs : (run_at rs i).end < high → owner_in rs (run_at rs i).end ≢ (run_at rs i).owner
  next_differs lt e = first_differs (run_at rs i).end (run_at rs i).owner (drop (i + 1) rs) a.right (omega (arith, a.rises)) lt
      (sym (owner_behind (run_at rs i).end (omega arith)) ∙ e)
    where
      first_differs : (from owner : ℕ) (ys : List Run) → Fill from high owner ys → 0 < from → from < high → owner_in ys from ≡ owner → ⊥
      first_differs from owner [] h some lt e = absurd (omega (arith, h))
      first_differs from owner (s ∷ ys) h some lt e = h.1 some (let here : owner_in (s ∷ ys) from ≡ s.owner =
          rw (lt-ltb from s.end h.0) refl in sym here ∙ e)

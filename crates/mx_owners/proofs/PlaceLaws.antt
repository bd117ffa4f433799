-- The place of a word's run.
use Rattle.std.proofs.Common.{ℕ, suc, ◌≡◌, ◌≢◌, ◌<◌, ◌≤◌, ⊎_elim, not, List, [], ◌∷◌, length, get_or, take, sym, ◌∙◌, arith, get_or-take}
use Rattle.std.specs.Prelude.{nat_lt}
use Rattle.std.proofs.lemmas.Bool.{cases_lt, ltb-true, ltb-false}
use Rattle.std.proofs.lemmas.List.Sums.{fails_before_first, passes_at_first, prefix_len-le-length}
use Rattle.mx_owners.specs.declared.runs.Run.{Run}
use Rattle.mx_owners.specs.OwnerRuns.{Fill, owner_in, owners_in, run_at, no_run, place_of}
use Rattle.mx_words.proofs.CountingLaws.{length-list_below, list_below-at}
use Rattle.mx_owners.proofs.FillLaws.{end_of, Fill-end, end_bounds, Around, around, owner_within, next_differs}

pub place-le : (rs : List Run) (w : ℕ) → place_of rs w ≤ length rs
place-le rs w = prefix_len-le-length (λ (r : Run). not (nat_lt w r.end)) rs

-- each run before the place ends at the word or before, and the one there ends after it
pub ends_before : (rs : List Run) (w k : ℕ) → k < place_of rs w → (run_at rs k).end ≤ w
ends_before rs w k lt = ltb-false w (run_at rs k).end (fails_before_first (λ (r : Run). nat_lt w r.end) rs k no_run lt)

pub ends_behind : (rs : List Run) (w : ℕ) → place_of rs w < length rs → w < (run_at rs (place_of rs w)).end
ends_behind rs w lt = ltb-true w (run_at rs (place_of rs w)).end (passes_at_first (λ (r : Run). nat_lt w r.end) rs no_run lt)

-- where all ends are at most a word, so is the last
end_most : (low w : ℕ) (rs : List Run) → low ≤ w → ((k : ℕ) → k < length rs → (run_at rs k).end ≤ w) → end_of low rs ≤ w
end_most low w [] le h = le
end_most low w (r ∷ rs) le h = end_most r.end w rs (h 0 (omega arith)) (λ k lt. h (suc k) (omega arith))

-- a word of the range has its run
pub place_within : (low high before : ℕ) (rs : List Run) (w : ℕ) → Fill low high before rs → low ≤ w → w < high → place_of rs w < length rs
place_within low high before rs w fill le lt = ⊎_elim
    (λ (some : place_of rs w < length rs). some)
    (λ (none : length rs ≤ place_of rs w).
    let most : end_of low rs ≤ w = end_most low w rs le (λ k lk. ends_before rs w k (omega arith)) in
    let end : end_of low rs ≡ high = Fill-end low high before rs fill in absurd (omega arith))
    (cases_lt (place_of rs w) (length rs))

-- the run at the place begins at the word or before
pub begins_before : (low high before : ℕ) (rs : List Run) (w : ℕ) → Fill low high before rs → low ≤ w → place_of rs w < length rs
    → end_of low (take (place_of rs w) rs) ≤ w
begins_before low high before rs w fill le lt =
    let a : Around low high before rs (place_of rs w) = around low high before rs (place_of rs w) fill lt in
    end_most low w (take (place_of rs w) rs) le (λ k lk.
    let below : k < place_of rs w = omega (arith, a.len) in
    let same : run_at (take (place_of rs w) rs) k ≡ run_at rs k = get_or-take (place_of rs w) rs k no_run below in
    rw same (ends_before rs w k below))

-- places don't fall
pub place-mono : (low high before : ℕ) (rs : List Run) (v w : ℕ) → v ≤ w → place_of rs v ≤ place_of rs w
place-mono low high before rs v w le = ⊎_elim
    (λ (lt : place_of rs w < place_of rs v).
    let early : (run_at rs (place_of rs w)).end ≤ v = ends_before rs v (place_of rs w) lt in
    let late : w < (run_at rs (place_of rs w)).end = ends_behind rs w (omega (arith, place-le rs v)) in absurd (omega arith))
    (λ (ge : place_of rs v ≤ place_of rs w). ge)
    (cases_lt (place_of rs w) (place_of rs v))

-- what the run at a word's place tells of the owners
pub record IsRound (words : ℕ) (rs : List Run) (w i : ℕ) : Type 0 where
  pub within : i < length rs
  pub behind : w < (run_at rs i).end
  pub in_range : (run_at rs i).end ≤ words
  pub owner : get_or (owners_in words rs) w 0 ≡ (run_at rs i).owner
  pub same : (v : ℕ) → w ≤ v → v < (run_at rs i).end → get_or (owners_in words rs) v 0 ≡ (run_at rs i).owner
  pub ends : (run_at rs i).end < words → get_or (owners_in words rs) (run_at rs i).end 0 ≢ (run_at rs i).owner

pub is_round : (words : ℕ) (rs : List Run) (w : ℕ) → Fill 0 words 0 rs → w < words → IsRound words rs w (place_of rs w)
is_round words rs w fill lt =
    let i : ℕ = place_of rs w in
    let within : i < length rs = place_within 0 words 0 rs w fill (omega arith) lt in
    let a : Around 0 words 0 rs i = around 0 words 0 rs i fill within in
    let start : end_of 0 (take i rs) ≤ w = begins_before 0 words 0 rs w fill (omega arith) within in
    let end : w < (run_at rs i).end = ends_behind rs w within in
    let reach : (run_at rs i).end ≤ words = (end_bounds 0 words 0 rs i fill within).1 in
    let told : (v : ℕ) → w ≤ v → v < (run_at rs i).end → get_or (owners_in words rs) v 0 ≡ (run_at rs i).owner =
    λ v le lv. list_below-at words v (owner_in rs) 0 (omega arith) ∙ owner_within 0 words 0 rs i a v (omega arith) lv in
    record {
      within = within;
      behind = end;
      in_range = reach;
      owner = told w (omega arith) end;
      same = told;
      ends = λ lw e. next_differs 0 words 0 rs i a lw (sym (list_below-at words (run_at rs i).end (owner_in rs) 0 lw) ∙ e);
    }

pub length-owners_in : (words : ℕ) (rs : List Run) → length (owners_in words rs) ≡ words
length-owners_in words rs = length-list_below words (owner_in rs)

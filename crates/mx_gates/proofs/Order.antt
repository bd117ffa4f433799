-- The order of sorted gates, and what stands where in them.
use Rattle.std.proofs.Common.{◌≡◌, ℕ, ◌+◌, ◌-◌, ◌/◌, ◌<◌, ◌≤◌, Bool, true, false, not, List, length, get_or, None, refl, sym, ap, arith}
use Rattle.std.proofs.Common.{⊎_elim}
use Rattle.std.specs.List.{position_or_len}
use Rattle.std.proofs.lemmas.Bool.{cases_lt, not-false, not-true}
use Rattle.std.proofs.lemmas.List.Sums.{position_or_len_is, fails_before_first, passes_at_first}
use Rattle.mx_model.specs.declared.values.Gate.{Gate}
use Rattle.mx_model.specs.Gates.{gate_at, is_at}
use Rattle.mx_gates.proofs.Lists.{find_none-from}
use Rattle.mx_gates.specs.Index.{is_before, AreRising, no_gate, place_of}

module _ (domain word : ℕ) (g h : Gate) where
  -- what comes before one that comes before comes before
  pub before-trans : is_before h.domain h.word g ≡ true → is_before domain word h ≡ true → is_before domain word g ≡ true
  unfolding is_before
  before-trans p q = grind arith

  -- what comes after one that doesn't come before doesn't come before
  pub before-behind : is_before h.domain h.word g ≡ true → is_before domain word g ≡ false → is_before domain word h ≡ false
  unfolding is_before
  before-behind p q = grind arith

  -- nor does it stand there
  pub at-behind : is_before h.domain h.word g ≡ true → is_before domain word g ≡ false → is_at domain word h ≡ false
  unfolding is_before
  at-behind p q = grind arith

-- what comes before doesn't stand there
pub at-before : (domain word : ℕ) (g : Gate) → is_before domain word g ≡ true → is_at domain word g ≡ false
unfolding is_before
at-before domain word g p = grind arith

-- what stands elsewhere and doesn't come before comes after
pub before-total : (g h : Gate) → is_before g.domain g.word h ≡ false → is_at g.domain g.word h ≡ false → is_before h.domain h.word g ≡ true
unfolding is_before
before-total g h p q = grind arith

-- what comes before stands elsewhere
pub before-apart : (g h : Gate) → is_before h.domain h.word g ≡ true → is_at g.domain g.word h ≡ false
unfolding is_before
before-apart g h p = grind arith

-- what comes before a word doesn't stand at it or behind it, and what doesn't stands at no word before it
pub at-above : (domain first w : ℕ) (g : Gate) → is_before domain first g ≡ true → first ≤ w → is_at domain w g ≡ false
unfolding is_before
at-above domain first w g p le = grind arith

pub at-below : (domain end w : ℕ) (g : Gate) → is_before domain end g ≡ false → w < end → is_at domain w g ≡ false
unfolding is_before
at-below domain end w g p lt = grind arith

-- a search by halves: all gates below come before, and none of those after does
pub record Halves (domain word : ℕ) (sorted : List Gate) (low width : ℕ) : Type 0 where
  pub within : low + width ≤ length sorted
  pub before : (k : ℕ) → k < low → is_before domain word (get_or sorted k no_gate) ≡ true
  pub behind : (k : ℕ) → low + width ≤ k → k < length sorted → is_before domain word (get_or sorted k no_gate) ≡ false

module _ (domain word : ℕ) (sorted : List Gate) (up : AreRising sorted) where
  -- what stands up to a gate that comes before comes before
  before_to : (m k : ℕ) → m < length sorted → k ≤ m → is_before domain word (get_or sorted m no_gate) ≡ true
      → is_before domain word (get_or sorted k no_gate) ≡ true
  before_to m k within le is = ⊎_elim
      (λ (lt : k < m). before-trans domain word (get_or sorted k no_gate) (get_or sorted m no_gate) (up k m no_gate lt within) is)
      (λ (ge : m ≤ k). let e : k ≡ m = omega arith in rw e is)
      (cases_lt k m)

  -- what stands from a gate on that doesn't come before doesn't either
  behind_from : (m k : ℕ) → m ≤ k → k < length sorted → is_before domain word (get_or sorted m no_gate) ≡ false
      → is_before domain word (get_or sorted k no_gate) ≡ false
  behind_from m k le within is = ⊎_elim
      (λ (lt : m < k). before-behind domain word (get_or sorted m no_gate) (get_or sorted k no_gate) (up m k no_gate lt within) is)
      (λ (ge : k ≤ m). let e : k ≡ m = omega arith in rw e is)
      (cases_lt m k)

  module _ (low width : ℕ) (some : 0 < width) (h : Halves domain word sorted low width) where
    pub Halves-upper : is_before domain word (get_or sorted (low + (width - width / 2) - 1) no_gate) ≡ true
        → Halves domain word sorted (low + (width - width / 2)) (width / 2)
    Halves-upper is = record {
      within = omega (arith, h.within);
      before = λ k lt. before_to (low + (width - width / 2) - 1) k (omega (arith, h.within)) (omega arith) is;
      behind = λ k ge lt. h.behind k (omega arith) lt;
    }

    pub Halves-lower : is_before domain word (get_or sorted (low + (width - width / 2) - 1) no_gate) ≡ false
        → Halves domain word sorted (low + 0) (width / 2)
    Halves-lower is = record {
      within = omega (arith, h.within);
      before = λ k lt. h.before k (omega arith);
      behind = λ k ge lt. behind_from (low + (width - width / 2) - 1) k (omega arith) lt is;
    }

  pub Halves-place : (low : ℕ) → Halves domain word sorted low 0 → low ≡ place_of domain word sorted
  Halves-place low h = sym (position_or_len_is (λ g. not (is_before domain word g)) sorted low no_gate (omega (arith, h.within))
      (λ k lt. ap not (h.before k lt))
      (λ lt. ap not (h.behind low (omega arith) lt)))

  -- the gate at the place is the one that stands there, if one does
  module _ (d : Gate) where
    -- all before the place come before, and none from it on does
    pub before_place : (k : ℕ) → k < place_of domain word sorted → is_before domain word (get_or sorted k d) ≡ true
    before_place k lt = not-false _ (fails_before_first (λ g. not (is_before domain word g)) sorted k d lt)

    at_place : place_of domain word sorted < length sorted → is_before domain word (get_or sorted (place_of domain word sorted) d) ≡ false
    at_place within = not-true _ (passes_at_first (λ g. not (is_before domain word g)) sorted d within)

    pub behind_place : (k : ℕ) → place_of domain word sorted ≤ k → k < length sorted → is_before domain word (get_or sorted k d) ≡ false
    behind_place k le within =
        let first = at_place (omega arith) in
        ⊎_elim
        (λ (more : place_of domain word sorted < k). before-behind domain word (get_or sorted (place_of domain word sorted) d)
        (get_or sorted k d) (up (place_of domain word sorted) k d more within) first)
        (λ (same : k ≤ place_of domain word sorted). let e : k ≡ place_of domain word sorted = omega arith in rw e first)
        (cases_lt (place_of domain word sorted) k)

    pub place-there : place_of domain word sorted < length sorted → is_at domain word (get_or sorted (place_of domain word sorted) d) ≡ true
        → place_of domain word sorted ≡ position_or_len (is_at domain word) sorted
    place-there lt is = sym (position_or_len_is (is_at domain word) sorted (place_of domain word sorted) d (omega arith) (λ k l.
        at-before domain word (get_or sorted k d) (before_place k l)) (λ _. is))

    pub place-absent : (place_of domain word sorted < length sorted
        → is_at domain word (get_or sorted (place_of domain word sorted) d) ≡ false)
        → length sorted ≡ position_or_len (is_at domain word) sorted
    place-absent is = sym (position_or_len_is (is_at domain word) sorted (length sorted) d (omega arith)
        (λ k lt. ⊎_elim
        (λ (low : k < place_of domain word sorted). at-before domain word (get_or sorted k d) (before_place k low))
        (λ (high : place_of domain word sorted ≤ k).
        let within : place_of domain word sorted < length sorted = omega arith in
        ⊎_elim
        (λ (more : place_of domain word sorted < k). at-behind domain word (get_or sorted (place_of domain word sorted) d)
        (get_or sorted k d) (up (place_of domain word sorted) k d more lt) (at_place within))
        (λ (same : k ≤ place_of domain word sorted). let e : k ≡ place_of domain word sorted = omega arith in rw e (is within))
        (cases_lt (place_of domain word sorted) k))
        (cases_lt k (place_of domain word sorted)))
        (λ lt. absurd (omega arith)))

-- between two words before which as many gates come none stands
pub clear-between : (domain first end w : ℕ) (sorted : List Gate) → AreRising sorted
    → place_of domain first sorted ≡ place_of domain end sorted → first ≤ w → w < end →
    gate_at sorted domain w ≡ None
clear-between domain first end w sorted up same low high = find_none-from (is_at domain w) sorted (λ k d within. ⊎_elim
    (λ (lt : k < place_of domain first sorted). at-above domain first w (get_or sorted k d) (before_place domain first sorted up d k lt)
    low)
    (λ (ge : place_of domain first sorted ≤ k). at-below domain end w (get_or sorted k d)
    (behind_place domain end sorted up d k (omega (arith, same, ge)) within) high)
    (cases_lt k (place_of domain first sorted)))

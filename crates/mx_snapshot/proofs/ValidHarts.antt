-- The harts of a valid snapshot's state are valid.
use Rattle.std.proofs.Common.{◌≡◌, ◌≢◌, ℕ, ◌+◌, ◌/◌, ◌%◌, ◌^◌, ◌<◌, ◌≤◌, ◌==◌, true, false, not, nat_lt, List, [], length, get_or, refl}
use Rattle.std.proofs.Common.{sym, ap, ◌∙◌, subst, arith, ⊎_elim}
use Rattle.std.proofs.Common.{map as list_map}
use Rattle.std.specs.List.{enumerate_from, range_with_len}
use Rattle.std.proofs.lemmas.Bool.{and_parts, cases_lt, eqb-true, ltb-true, not-true}
use Rattle.std.proofs.lemmas.List.{get_or-map, get_or_past}
use Rattle.std.proofs.lemmas.List.FromFn.{get_or-enumerate_from, get_or-map-range_with_len, length-enumerate_from}
use Rattle.std.proofs.lemmas.List.FromFn.{length-map-range_with_len}
use Rattle.std.proofs.lemmas.Nat.{div_below, pow_pos}
use Rattle.std.proofs.Math.Nat.{pow-le-pow_right}
use Rattle.mx_words.specs.Hearing.{is_in, most_harts}
use Rattle.mx_model.specs.declared.values.Frame.{Frame}
use Rattle.mx_model.specs.State.{Hart, no_hart}
use Rattle.mx_model.specs.Turn.{call_of}
use Rattle.mx_model.specs.Valid.{IsFrame, IsHart, IsStatus}
use Rattle.mx_model.proofs.JoinLaws.{all-weaker}
use Rattle.mx_model.proofs.ListLaws.{all-at}
use Rattle.mx_machine.specs.declared.views.HartStatus.{HartStatus}
use Rattle.mx_machine.specs.declared.views.HartStatus.TheVariants as V
use Rattle.mx_snapshot.proofs.ValidLists.{each_at}
use Rattle.mx_snapshot.specs.Fits.{EachFits, IsStoredFrame, IsStoredHart}
use Rattle.mx_snapshot.specs.Resumed.{hart_in_state, running, status_in}
use Rattle.mx_snapshot.specs.Rules.{has_bit, is_heard, is_register}
use Rattle.mx_snapshot.specs.Stored.{Head, StoredHart}

-- what is read after the last hart
abbrev pub no_stored : StoredHart
no_stored = record { status = V.Halted; domain = 0; pc = 0; regs = []; frames = []; heard = 0 }

-- hart h of the state is the stored one
pub hart-at : (xs : List StoredHart) (h : ℕ) → h < length xs → get_or (list_map hart_in_state (enumerate_from 0 xs)) h no_hart
    ≡ hart_in_state (h, get_or xs h no_stored)
hart-at xs h lt =
    let long = length-enumerate_from 0 xs in
    let from : 0 + h ≡ h = omega arith in
    get_or-map hart_in_state (enumerate_from 0 xs) h (0, no_stored) no_hart (omega (arith, long, lt))
    ∙ ap hart_in_state (get_or-enumerate_from 0 xs h (0, no_stored) lt ∙ ap (λ (k : ℕ). (k, get_or xs h no_stored)) from)

-- a number below a power of two has no bit from that on
no-bit : (n i most : ℕ) → n < 2 ^ most → most ≤ i → has_bit n i ≡ false
no-bit n i most lt le =
    let larger : 2 ^ most ≤ 2 ^ i = pow-le-pow_right {n = 2} (omega arith) le in
    let small : n / 2 ^ i < 1 = div_below n (2 ^ i) 1 (pow_pos i) (omega (arith, lt, larger)) in
    let none : n / 2 ^ i ≡ 0 = omega (arith, small) in
    ap (λ (k : ℕ). k % 2 == 1) none

-- who has heard a call is another hart that there is
heard-others : (harts h heard i : ℕ) → heard < 2 ^ harts → has_bit heard h ≡ false
    → is_in (list_map (has_bit heard) (range_with_len 0 most_harts)) i ≡ true → (i < harts) × (i ≢ h)
heard-others harts h heard i small own e = ⊎_elim
    (λ (lt : i < 4).
    let at : has_bit heard i ≡ true = sym (get_or-map-range_with_len (has_bit heard) 0 most_harts i i false lt (omega arith)) ∙ e in
    (search (arith, no-bit, cases_lt)))
    (λ (le : 4 ≤ i).
    let past = get_or_past (list_map (has_bit heard) (range_with_len 0 most_harts)) i false
    (omega (arith, length-map-range_with_len (has_bit heard) 0 most_harts, le)) in
    absurd (let q : ⊥ = cc in q))
    (cases_lt i 4)

pub heard-by : (harts h heard : ℕ) → is_heard harts h V.Waiting heard ≡ true → (i : ℕ)
    → is_in (list_map (has_bit heard) (range_with_len 0 most_harts)) i ≡ true → (i < harts) × (i ≢ h)
heard-by harts h heard e i within =
    let p = and_parts (nat_lt heard (2 ^ harts)) (not (has_bit heard h)) e in
    heard-others harts h heard i (ltb-true heard (2 ^ harts) p.0) (not-true (has_bit heard h) p.1) within

-- the status of a hart, whose call is that of its registers
status-fits : (harts h : ℕ) (x : StoredHart) (hart : Hart) (status : HartStatus) → call_of h (running x) ≡ call_of h hart
    → is_register status 17 (get_or x.regs 17 0) ≡ true
    → is_heard harts h status x.heard ≡ true → IsStatus harts h hart (status_in h x status)
status-fits harts h x hart V.Running own register heard = tt
status-fits harts h x hart V.Waiting own register heard = record {
  own = own;
  announced = register;
  places = refl;
  others =
      heard-by harts h x.heard heard;
}
status-fits harts h x hart V.Halted own register heard = tt

frame-fits : (h : Head) (f : Frame) → IsStoredFrame h f → IsFrame h.modules f
frame-fits h f is = search (arith, eqb-true, f.back, all-at, f.kept, is.kept)

-- a register by its rule
pub register-at : (status : HartStatus) (regs : List ℕ) (r : ℕ)
    → EachFits (λ others value. is_register status (length others) value ≡ true) [] regs → r < length regs
    → is_register status r (get_or regs r 0) ≡ true
register-at status regs r f lt =
    let found = each_at (λ others value. is_register status (length others) value ≡ true) regs [] f r 0 lt in
    let count = found.1 in
    subst (λ (k : ℕ). is_register status k (get_or regs r 0) ≡ true) (let e : length found.0 ≡ r = omega (arith, count) in e) found.2

pub hart-fits : (h : Head) (others : List StoredHart) (x : StoredHart) (n : ℕ) → length others ≡ n → IsStoredHart h others x
    → IsHart h.modules h.harts n (hart_in_state (n, x))
hart-fits h others x n count is = record {
  regs = record {
    count = is.count;
    small = λ r. all-at (λ (k : ℕ). k < 2 ^ 32) x.regs 0 is.words (omega arith) r;
    x0 = eqb-true (get_or x.regs 0 0) 0 (register-at x.status x.regs 0 is.regs (let many = is.count in omega (arith, many)));
  };
  pc = record { aligned = eqb-true (x.pc % 4) 0 is.pc; small = is.small };
  domain = record { first = is.domain.0; last = is.domain.1 };
  few_frames = is.few_frames;
  frames = all-weaker (IsStoredFrame h) (IsFrame h.modules) x.frames (λ f fits. frame-fits h f fits) is.frames;
  status = status-fits h.harts n x (hart_in_state (n, x)) x.status refl
      (register-at x.status x.regs 17 is.regs (let many = is.count in omega (arith, many)))
      (subst (λ (k : ℕ). is_heard h.harts k x.status x.heard ≡ true) count is.heard);
}

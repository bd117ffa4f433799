-- The ranges of the calls in flight of the other harts, and the harts after one of them has heard these calls.
use Rattle.std.proofs.Common.{◌≡◌, ◌≢◌, ℕ, zero, suc, ◌+◌, ◌<◌, ◌≤◌, ◌⊎◌, inl, inr, ◌==◌, Bool, true, false, cond, List, [], ◌∷◌, length}
use Rattle.std.proofs.Common.{get_or, refl, sym, ap, subst, ◌∙◌, arith, zero-add, Option, Some, None}
use Rattle.std.proofs.Common.{map as list_map}
use Rattle.std.specs.Prelude.{filter_map}
use Rattle.std.specs.List.{AllByRecursion, cons_option, enumerate_from, list_any}
use Rattle.std.proofs.Math.ListN.{get_or-eq_default}
use Rattle.std.proofs.lemmas.Bool.{cases_lt, eq-eqb, ne_eqb, or_parts}
use Rattle.std.proofs.lemmas.List.{length-map, get_or-map}
use Rattle.std.proofs.lemmas.List.FromFn.{length-enumerate_from, get_or-enumerate_from}
use Rattle.mx_model.specs.declared.values.Call.{Call}
use Rattle.mx_model.specs.Checks.{call_range, flight_range, heard_by, hears, is_halted, ranges}
use Rattle.mx_model.specs.State.{Core, Hart, Waiting, hart_at, no_hart}
use Rattle.mx_model.proofs.ValidParts.{hearing}
use Rattle.mx_laws.proofs.TurnParts.{there}

-- a fact of all that a function gives of the elements, at one of them
all_given : (Q : ℕ × ℕ → Type 0) (F : ℕ × Hart → Option (ℕ × ℕ)) (xs : List Hart) (n g : ℕ) (range : ℕ × ℕ) →
    AllByRecursion Q (filter_map F (enumerate_from n xs)) → g < length xs → F (n + g, get_or xs g no_hart) ≡ Some range → Q range
all_given Q F [] n g range all lt e = absurd (omega arith)
all_given Q F (x ∷ xs) n zero range all lt e =
    subst (λ (m : ℕ). F (m, x) ≡ Some range → Q range) (omega arith) (first (F (n, x)) all) e
  where
    first : (o : Option (ℕ × ℕ)) → AllByRecursion Q (cons_option o (filter_map F (enumerate_from (n + 1) xs))) → o ≡ Some range → Q range
    first None p f = cc
    first (Some y) p f = let same : y ≡ range = cc in subst Q same p.0
all_given Q F (x ∷ xs) n (suc g) range all lt e =
    all_given Q F xs (n + 1) g range (rest (F (n, x)) all) (omega arith)
    (subst (λ (m : ℕ). F (m, get_or xs g no_hart) ≡ Some range) (omega arith) e)
  where
    rest : (o : Option (ℕ × ℕ)) → AllByRecursion Q (cons_option o (filter_map F (enumerate_from (n + 1) xs))) →
        AllByRecursion Q (filter_map F (enumerate_from (n + 1) xs))
    rest None p = p
    rest (Some y) p = p.1

-- and of all from each
pub given_all : (Q : ℕ × ℕ → Type 0) (F : ℕ × Hart → Option (ℕ × ℕ)) (xs : List Hart) (n : ℕ) →
    ((g : ℕ) (range : ℕ × ℕ) → g < length xs → F (n + g, get_or xs g no_hart) ≡ Some range → Q range) →
    AllByRecursion Q (filter_map F (enumerate_from n xs))
given_all Q F [] n each = tt
given_all Q F (x ∷ xs) n each =
    first (F (n, x)) (λ range e. each 0 range (omega arith) (subst (λ (m : ℕ). F (m, x) ≡ Some range) (omega arith) e))
    (given_all Q F xs (n + 1) (λ g range lt e. each (suc g) range (omega arith)
    (subst (λ (m : ℕ). F (m, get_or xs g no_hart) ≡ Some range) (omega arith) e)))
  where
    first : (o : Option (ℕ × ℕ)) → ((range : ℕ × ℕ) → o ≡ Some range → Q range)
        → AllByRecursion Q (filter_map F (enumerate_from (n + 1) xs)) →
        AllByRecursion Q (cons_option o (filter_map F (enumerate_from (n + 1) xs)))
    first None here p = p
    first (Some y) here p = (here y refl, p)

-- a fact of all ranges, at the range of one call
module _ (Q : ℕ × ℕ → Type 0) (c : Core) (h g : ℕ) (choice : List Bool → ℕ × ℕ → Option (ℕ × ℕ)) (call : Call) (heard : List Bool) where
  pub range_of_call : AllByRecursion Q (ranges c h choice) → g ≢ h → (hart_at c g).status ≡ Waiting call heard →
      choice heard (call_range c call) ≡ Some (call_range c call) →
      Q (call_range c call)
  range_of_call all apart waits e =
      let here : g < length c.harts = there c g (ap is_halted waits) in
      let other : (g == h) ≡ false = ne_eqb g h apart in
      let chosen : cond (g == h) None (flight_range c choice (hart_at c g).status) ≡ Some (call_range c call) =
      ap (λ b. cond b None (flight_range c choice (hart_at c g).status)) other ∙ ap (flight_range c choice) waits ∙ e in
      all_given Q (λ (p : ℕ × Hart). cond (p.0 == h) None (flight_range c choice p.1.status)) c.harts 0 g (call_range c call) all here
      (subst (λ (m : ℕ). cond (m == h) None (flight_range c choice (hart_at c g).status) ≡ Some (call_range c call)) (sym (zero-add g))
      chosen)

-- no element passes a test
pub none_passes : (test : ℕ × ℕ → Bool) (xs : List (ℕ × ℕ)) → list_any test xs ≡ false → AllByRecursion (λ x. test x ≡ false) xs
none_passes test [] e = tt
none_passes test (x ∷ xs) e = let p = or_parts (test x) (list_any test xs) e in (p.0, none_passes test xs p.1)

-- another hart after hart h has heard its call
pub other_heard : (c : Core) (h g : ℕ) → g ≢ h → hart_at (hears h c) g ≡ record (hart_at c g) { status = heard_by h (hart_at c g).status }
other_heard c h g apart = by (cases_lt g (length c.harts))
  where
    by : (g < length c.harts) ⊎ (length c.harts ≤ g) → hart_at (hears h c) g
        ≡ record (hart_at c g) { status = heard_by h (hart_at c g).status }
    by (inl lt) =
        let e : get_or (enumerate_from 0 c.harts) g (0, no_hart) ≡ (g, hart_at c g) =
        get_or-enumerate_from 0 c.harts g (0, no_hart) lt ∙ ap (λ (n : ℕ). (n, get_or c.harts g no_hart)) (zero-add g) in
        get_or-map (hearing h) (enumerate_from 0 c.harts) g (0, no_hart) no_hart
        (subst (λ (n : ℕ). g < n) (sym (length-enumerate_from 0 c.harts)) lt)
        ∙ ap (hearing h) e
        ∙ ap (λ b. cond b (hart_at c g) (record (hart_at c g) { status = heard_by h (hart_at c g).status })) (ne_eqb g h apart)
    by (inr le) =
        let n : hart_at c g ≡ no_hart = get_or-eq_default c.harts no_hart le in
        let m : hart_at (hears h c) g ≡ no_hart =
        get_or-eq_default (list_map (hearing h) (enumerate_from 0 c.harts)) no_hart
        (omega (arith, length-map (enumerate_from 0 c.harts) (hearing h), length-enumerate_from 0 c.harts)) in
        m ∙ sym (ap (λ (x : Hart). record x { status = heard_by h x.status }) n)

-- and hart h itself
pub own_heard : (c : Core) (h : ℕ) → hart_at (hears h c) h ≡ hart_at c h
own_heard c h = by (cases_lt h (length c.harts))
  where
    same : (b : Bool) → cond b (hart_at c h) (record (hart_at c h) { status = heard_by h (hart_at c h).status }) ≡ hart_at c h
        → (h == h) ≡ b →
        hearing h (h, hart_at c h) ≡ hart_at c h
    same b p e = ap (λ b. cond b (hart_at c h) (record (hart_at c h) { status = heard_by h (hart_at c h).status })) e ∙ p

    by : (h < length c.harts) ⊎ (length c.harts ≤ h) → hart_at (hears h c) h ≡ hart_at c h
    by (inl lt) =
        let e : get_or (enumerate_from 0 c.harts) h (0, no_hart) ≡ (h, hart_at c h) =
        get_or-enumerate_from 0 c.harts h (0, no_hart) lt ∙ ap (λ (n : ℕ). (n, get_or c.harts h no_hart)) (zero-add h) in
        get_or-map (hearing h) (enumerate_from 0 c.harts) h (0, no_hart) no_hart
        (subst (λ (n : ℕ). h < n) (sym (length-enumerate_from 0 c.harts)) lt)
        ∙ ap (hearing h) e
        ∙ same true refl (eq-eqb h h refl)
    by (inr le) =
        get_or-eq_default (list_map (hearing h) (enumerate_from 0 c.harts)) no_hart
        (omega (arith, length-map (enumerate_from 0 c.harts) (hearing h), length-enumerate_from 0 c.harts))
        ∙ sym (get_or-eq_default c.harts no_hart le)

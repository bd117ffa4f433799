-- Gates of which no two stand for one domain at one word: what is found among them, and what is left without one of them.
use Rattle.std.proofs.Common.{◌≡◌, ℕ, suc, ◌+◌, ◌<◌, ◌≤◌, Bool, true, false, not, cond, ◌==◌, ◌&&◌, ◌||◌, List, [], ◌∷◌, ◌++◌, length}
use Rattle.std.proofs.Common.{get_or, take, drop, find, Option, None, Some, inl, inr, refl, sym, ap, ◌∙◌, arith, nat_le}
use Rattle.std.specs.Option.{option_or}
use Rattle.std.specs.List.{position_or_len, list_any, remove, insert}
use Rattle.std.proofs.lemmas.Bool.{cases_Bool, and_parts, and_cases, and_from, not-false, leb-false, eqb-true, eq-eqb, false≢true}
use Rattle.std.proofs.lemmas.List.{take-append-drop}
use Rattle.std.proofs.lemmas.List.Kept.{AllPairs-filter}
use Rattle.std.proofs.lemmas.List.Folds.{find-append}
use Rattle.std.proofs.lemmas.List.Filters.{length-filter_both}
use Rattle.mx_model.specs.declared.values.Gate.{Gate}
use Rattle.mx_model.specs.Gates.{is_at, gate_at, without_gate, has_gate, no_gate_fits}
use Rattle.mx_model.specs.Gates.{AreSingle}
use Rattle.mx_model.proofs.ApartLaws.{at-flipped, single-push}
use Rattle.mx_gates.proofs.Lists.{filter-find_none, find_none-any, find_none-from, length-filter_any, find-filter_not, find_none-at}

-- two gates that stand at one place
at_both : (domain word : ℕ) (g h : Gate) → is_at domain word g ≡ true → is_at domain word h ≡ true → is_at g.domain g.word h ≡ true
at_both domain word g h p q = grind arith

-- a gate at a place where none stands goes to the others
pub pushed-single : (gates : List Gate) (g : Gate) → gate_at gates g.domain g.word ≡ None → AreSingle gates → AreSingle (gates ++ g ∷ [])
pushed-single gates g none a =
    single-push g gates a (λ k d within. at-flipped g (get_or gates k d) (find_none-at _ gates k d none within))

AreSingle-tail : (g : Gate) (gates : List Gate) → AreSingle (g ∷ gates) → AreSingle gates
AreSingle-tail g gates a i j d lt within = a (suc i) (suc j) d (omega arith) (omega arith)

module _ (domain word : ℕ) where
  -- where none stands, none is removed
  pub without_none : (gates : List Gate) → has_gate gates domain word ≡ false → without_gate domain word gates ≡ gates
  without_none gates none = filter-find_none (is_at domain word) gates (find_none-any (is_at domain word) gates none)

  -- without the gate none stands there
  pub gate_at-without : (gates : List Gate) → gate_at (without_gate domain word gates) domain word ≡ None
  gate_at-without gates = find-filter_not (is_at domain word) gates

  -- the place of a gate that stands there is one of the list
  pub place_in : (gates : List Gate) → has_gate gates domain word ≡ true → position_or_len (is_at domain word) gates < length gates
  place_in [] has = absurd (false≢true has)
  place_in (g ∷ gates) has =
      let later = position_or_len (is_at domain word) gates in
      elim (cases_Bool (is_at domain word g)) [
        | inl here ↦ let e : position_or_len (is_at domain word) (g ∷ gates) ≡ 0 = ap (λ b. cond (not b) (1 + later) 0) here in
            omega (arith, e)
        | inr there ↦
            let e : position_or_len (is_at domain word) (g ∷ gates) ≡ 1 + later = ap (λ b. cond (not b) (1 + later) 0) there in
            let rest = place_in gates (sym (ap (λ b. b || list_any (is_at domain word) gates) there) ∙ has) in
            omega (arith, e, rest)
      ]

  -- without the gate, the list is the one without its place
  pub removed : (gates : List Gate) → AreSingle gates → has_gate gates domain word ≡ true
      → remove gates (position_or_len (is_at domain word) gates) ≡ without_gate domain word gates
  removed [] a has = absurd (false≢true has)
  removed (g ∷ gates) a has =
      let later = position_or_len (is_at domain word) gates in
      let rest = without_gate domain word gates in
      elim (cases_Bool (is_at domain word g)) [
        | inl here ↦
            let none : find (is_at domain word) gates ≡ None = find_none-from (is_at domain word) gates
            (λ k d within. elim (cases_Bool (is_at domain word (get_or gates k d))) [
              | inl too ↦ absurd (false≢true (sym (a 0 (suc k) d (omega arith) (omega arith))
                  ∙ at_both domain word g (get_or gates k d) here too))
              | inr other ↦ other
            ]) in
            ap (λ b. remove (g ∷ gates) (cond (not b) (1 + later) 0)) here
            ∙ sym (ap (λ b. cond (not b) (g ∷ rest) rest) here ∙ filter-find_none (is_at domain word) gates none)
        | inr there ↦
            ap (λ b. remove (g ∷ gates) (cond (not b) (1 + later) 0)) there
            ∙ ap (remove (g ∷ gates)) (let e : 1 + later ≡ suc later = omega arith in e)
            ∙ ap (λ xs. g ∷ xs) (removed gates (AreSingle-tail g gates a) (sym (ap (λ b. b || list_any (is_at domain word) gates) there)
            ∙ has))
            ∙ sym (ap (λ b. cond (not b) (g ∷ rest) rest) there)
      ]

  -- where a gate fits, there is room for it once the old one is removed
  pub without_room : (gates : List Gate) → length gates ≤ 256 → no_gate_fits gates domain word ≡ false
      → length (without_gate domain word gates) < 256
  without_room gates most fits =
      let fewer : length (without_gate domain word gates) ≤ length gates =
      omega (arith, length-filter_both (is_at domain word) (λ g. not (is_at domain word g)) (λ _. refl) gates) in
      elim (and_cases (nat_le 256 (length gates)) (not (has_gate gates domain word)) fits) [
        | inl below ↦ let room = leb-false 256 (length gates) below in omega arith
        | inr one ↦ let less = length-filter_any (is_at domain word) gates (not-false (has_gate gates domain word) one) in omega arith
      ]

  -- what is found without the gate: nothing there, and elsewhere what was found
  pub found-without : (gates : List Gate) (domain' word' : ℕ)
      → gate_at (without_gate domain word gates) domain' word'
      ≡ cond ((domain' == domain) && (word' == word)) None (gate_at gates domain' word')
  found-without [] domain' word' = cond-same ((domain' == domain) && (word' == word)) None
    where
      cond-same : (c : Bool) (o : Option Gate) → o ≡ cond c o o
      cond-same true o = refl
      cond-same false o = refl
  found-without (g ∷ gates) domain' word' =
      pushed (is_at domain word g)
      ∙ step (is_at domain word g) (is_at domain' word' g) ((domain' == domain) && (word' == word))
      (gate_at (without_gate domain word gates) domain' word') (gate_at gates domain' word')
      (λ p q. grind arith) (λ p q. grind arith) (found-without gates domain' word')
    where
      pushed : (b : Bool) → gate_at (cond (not b) (g ∷ without_gate domain word gates) (without_gate domain word gates)) domain' word'
          ≡ cond (not b) (cond (is_at domain' word' g) (Some g) (gate_at (without_gate domain word gates) domain' word'))
          (gate_at (without_gate domain word gates) domain' word')
      pushed true = refl
      pushed false = refl

      step : (b b' c : Bool) (f x : Option Gate) → (b ≡ true → b' ≡ true → c ≡ true) → (b ≡ false → b' ≡ true → c ≡ false)
          → f ≡ cond c None x
          → cond (not b) (cond b' (Some g) f) f ≡ cond c None (cond b' (Some g) x)
      step true b' true f x p q rest = rest
      step true true false f x p q rest = absurd (false≢true (p refl refl))
      step true false false f x p q rest = rest
      step false true true f x p q rest = absurd (false≢true (sym (q refl refl)))
      step false true false f x p q rest = refl
      step false false c f x p q rest = rest

-- what is found with one more gate, where none stood
pub found-insert : (gates : List Gate) (i : ℕ) (g : Gate) → gate_at gates g.domain g.word ≡ None → (domain word : ℕ)
    → gate_at (insert gates i g) domain word ≡ cond (is_at domain word g) (Some g) (gate_at gates domain word)
found-insert gates i g none domain word =
    find-append (is_at domain word) (take i gates) (g ∷ drop i gates)
    ∙ step (is_at domain word g) (gate_at (take i gates) domain word) (gate_at (drop i gates) domain word) (gate_at gates domain word)
    (ap (λ xs. gate_at xs domain word) (sym (take-append-drop i gates)) ∙ find-append (is_at domain word) (take i gates) (drop i gates))
    (λ here.
    let parts = and_parts _ _ here in
    let d : g.domain ≡ domain = eqb-true g.domain domain parts.0 in
    let w : g.word ≡ word = eqb-true g.word word parts.1 in
    sym (ap (λ x. gate_at gates x g.word) d ∙ ap (λ x. gate_at gates domain x) w) ∙ none)
  where
    step : (b : Bool) (f s x : Option Gate) → x ≡ option_or f s → (b ≡ true → x ≡ None)
        → option_or f (cond b (Some g) s) ≡ cond b (Some g) x
    step true None s x e n = refl
    step true (Some h) s x e n = absurd (let bad : Some h ≡ None = sym e ∙ n refl in cc)
    step false f s x e n = sym e

-- The slots of a ring of 64 that are in use, place by place and after a write.
use Rattle.std.proofs.Common.{◌≡◌, ℕ, zero, suc, ◌+◌, ◌-◌, ◌%◌, ◌<◌, ◌≤◌, min, List, ◌∷◌, ◌++◌, length, get_or, set, take, drop, inl, inr}
use Rattle.std.proofs.Common.{sym, ap, ◌∙◌, arith, length-append, length-drop, length-set, length-take-le, get_or-drop, get_or-take}
use Rattle.std.proofs.Common.{get_or-set_same, get_or-set_other}
use Rattle.std.proofs.lemmas.List.{same_lists, take_min, get_or_append_left, get_or-append_right}
use Rattle.std.proofs.lemmas.Bool.{cases_lt, cases_eq}
use Rattle.mx_caches.specs.Window.{window}

module _ {X : Type 0} (k n : ℕ) (xs : List X) (start : k < 64) (fits : n ≤ 64) (long : length xs ≡ 64) where
  -- n slots are in use
  pub length-window : length (window k n xs) ≡ n
  length-window =
      length-take-le n _ (omega (arith, length-append (drop k xs) (take k xs), length-drop k xs, length-take-le k xs (omega arith)))

  -- the i-th of them is slot (k + i) % 64
  pub get_or-window : (i : ℕ) (d : X) → i < n → get_or (window k n xs) i d ≡ get_or xs ((k + i) % 64) d
  get_or-window i d in_use =
      get_or-take n _ i d in_use ∙ elim (cases_lt (k + i) 64) [
        | inl before ↦ get_or_append_left _ _ d i (omega (arith, length-drop k xs)) ∙ get_or-drop k xs i d
            ∙ ap (λ j. get_or xs j d) (omega arith)
        | inr after ↦ get_or-append_right _ _ (64 - k) i d (omega (arith, length-drop k xs)) (omega arith)
            ∙ get_or-take k xs _ d (omega arith) ∙ ap (λ j. get_or xs j d) (omega arith)
      ]

module _ {X : Type 0} (k n : ℕ) (xs : List X) (start : k < 64) (fits : n ≤ 64) (long : length xs ≡ 64) where
  -- a write to the i-th slot in use
  pub set-window : (i : ℕ) (x : X) → i < n → window k n (set xs ((k + i) % 64) x) ≡ set (window k n xs) i x
  set-window i x in_use =
      let ys = set xs ((k + i) % 64) x in
      let long_new : length ys ≡ 64 = length-set xs _ x ∙ long in
      let same = length-window k n xs start fits long in
      same_lists _ _ (length-window k n ys start fits long_new ∙ sym (length-set (window k n xs) i x ∙ same)) (λ j d within.
      let low : j < n = omega (arith, length-window k n ys start fits long_new) in
      get_or-window k n ys start fits long_new j d low ∙ elim (cases_eq j i) [
        | inl here ↦ ap (λ z. get_or ys ((k + z) % 64) d) here ∙ get_or-set_same xs _ x d (omega arith)
            ∙ sym (ap (λ z. get_or (set (window k n xs) i x) z d) here ∙ get_or-set_same (window k n xs) i x d (omega arith))
        | inr elsewhere ↦ get_or-set_other xs _ _ x d (λ e. elsewhere (omega arith)) ∙ sym (get_or-window k n xs start fits long j d low)
            ∙ sym (get_or-set_other (window k n xs) i j x d elsewhere)
      ])

  -- a write to the slot before the first, which then is the first
  module _ (b : ℕ) (x : X) (before : b ≡ (k + 64 - 1) % 64) where
    first_or_later : (i : ℕ) (d : X) → i ≤ n → i < 64 → get_or (set xs b x) ((b + i) % 64) d ≡ get_or (x ∷ window k n xs) i d
    first_or_later zero d _ _ = ap (λ z. get_or (set xs b x) z d) (omega arith) ∙ get_or-set_same xs b x d (omega arith)
    first_or_later (suc i) d low below =
        get_or-set_other xs b ((b + suc i) % 64) x d (λ e. omega arith) ∙ ap (λ z. get_or xs z d) (omega arith)
        ∙ sym (get_or-window k n xs start fits long i d (omega arith))

    pub window_keep : (N m : ℕ) → n ≤ N → N ≤ 64 → m ≡ min (n + 1) N → window b m (set xs b x) ≡ take N (x ∷ window k n xs)
    window_keep N m most ring shown =
        let ys = set xs b x in
        let long_new : length ys ≡ 64 = length-set xs b x ∙ long in
        let same = length-window k n xs start fits long in
        let b_in : b < 64 = omega arith in
        let m_in : m ≤ 64 = omega arith in
        let w = x ∷ window k n xs in
        let long_w : length w ≡ n + 1 = omega arith in
        same_lists (window b m ys) (take m w) (length-window b m ys b_in m_in long_new ∙ sym (length-take-le m w (omega arith)))
        (λ i d within.
        let low : i < m = omega (arith, length-window b m ys b_in m_in long_new) in
        get_or-window b m ys b_in m_in long_new i d low ∙ first_or_later i d (omega arith) (omega arith) ∙ sym (get_or-take m w i d low))
        ∙ ap (λ z. take z w) (omega arith) ∙ take_min N w

-- the slots in use are those up to the ring's end, and then those from its start on
module _ {X : Type 0} (k n s : ℕ) (xs : List X) (start : k < 64) (fits : n ≤ 64) (long : length xs ≡ 64) (run : s ≡ min n (64 - k)) where
  pub window_runs : window k n xs ≡ take s (drop k xs) ++ take (n - s) xs
  window_runs =
      let a = take s (drop k xs) in
      let b = take (n - s) xs in
      let up : length a ≡ s = length-take-le s (drop k xs) (omega (arith, length-drop k xs)) in
      let on : length b ≡ n - s = length-take-le (n - s) xs (omega arith) in
      let all : n ≡ length (a ++ b) = omega (arith, length-append a b, up, on) in
      same_lists (window k n xs) (a ++ b) (length-window k n xs start fits long ∙ all) (λ i d within.
      let low : i < n = omega (arith, length-window k n xs start fits long) in
      get_or-window k n xs start fits long i d low ∙ elim (cases_lt i s) [
        | inl before ↦
            let e : (k + i) % 64 ≡ k + i = omega arith in
            ap (λ j. get_or xs j d) e ∙ sym (get_or_append_left a b d i (omega (arith, up)) ∙ get_or-take s (drop k xs) i d before
            ∙ get_or-drop k xs i d)
        | inr after ↦
            let e : (k + i) % 64 ≡ i - s = omega arith in
            ap (λ j. get_or xs j d) e ∙ sym (get_or-append_right a b s i d up after ∙ get_or-take (n - s) xs (i - s) d (omega arith))
      ])

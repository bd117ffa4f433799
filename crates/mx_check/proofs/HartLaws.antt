-- A list of harts in the first places of an array: what a read and a write of one of them say of the list.
use Rattle.std.proofs.Common.{◌≡◌, ℕ, zero, suc, ◌<◌, ◌≤◌, List, [], ◌∷◌, length, get_or, set, take, replicate, refl, sym, ap, ◌∙◌, arith}
use Rattle.std.proofs.Common.{length-take, get_or-take}
use Rattle.std.proofs.lemmas.List.{get_or_default}
use Rattle.std.proofs.SliceLists.{take-set}
use Rattle.mx_words.specs.Counting.{list_below}
use Rattle.mx_check.specs.Harts.{Kept, nothing_kept, kept_at, at_hart}

module _ (n : ℕ) (parts : List Kept) (harts : List Kept) (h : ℕ) (d : Kept) (view : take n parts ≡ harts) (there : h < length harts) where
  -- the part that is read is the hart's
  pub hart_read : get_or parts h d ≡ kept_at harts h
  hart_read =
      let long : h < length (take n parts) = omega (arith, ap length view) in
      let low : h < n = omega (arith, length-take n parts) in
      let inside : h < length parts = omega (arith, length-take n parts) in
      get_or_default parts h d nothing_kept inside ∙ sym (get_or-take n parts h nothing_kept low)
      ∙ ap (λ (hs : List Kept). get_or hs h nothing_kept) view

  -- a part that is written is the hart's step
  pub hart_written : (step : Kept → Kept) (k : Kept) → k ≡ step (get_or parts h d) → take n (set parts h k) ≡ at_hart h step harts
  hart_written step k e =
      take-set parts n h k
      ∙ ap (λ (hs : List Kept). set hs h k) view
      ∙ ap (λ (x : Kept). set harts h x) (e ∙ ap step hart_read)

-- the first of four harts
pub four_taken : (n : ℕ) (f : ℕ → Kept) → n ≤ 4 → take n (f 0 ∷ f 1 ∷ f 2 ∷ f 3 ∷ []) ≡ list_below n f
unfolding list_below
four_taken zero f le = refl
four_taken (suc zero) f le = refl
four_taken (suc (suc zero)) f le = refl
four_taken (suc (suc (suc zero))) f le = refl
four_taken (suc (suc (suc (suc zero)))) f le = refl
four_taken (suc (suc (suc (suc (suc n))))) f le = absurd (omega arith)

pub four_alike : (n : ℕ) (k : Kept) → n ≤ 4 → take n (k ∷ k ∷ k ∷ k ∷ []) ≡ replicate n k
four_alike zero k le = refl
four_alike (suc zero) k le = refl
four_alike (suc (suc zero)) k le = refl
four_alike (suc (suc (suc zero))) k le = refl
four_alike (suc (suc (suc (suc zero)))) k le = refl
four_alike (suc (suc (suc (suc (suc n))))) k le = absurd (omega arith)

module _ (n : ℕ) (f : ℕ → Kept) (a b c d : Kept) (le : n ≤ 4) (e0 : a ≡ f 0) (e1 : b ≡ f 1) (e2 : c ≡ f 2) (e3 : d ≡ f 3) where
  pub four_made : take n (a ∷ b ∷ c ∷ d ∷ []) ≡ list_below n f
  four_made = rw (e0, e1, e2, e3) (four_taken n f le)

module _ (n : ℕ) (k a b c d : Kept) (le : n ≤ 4) (e0 : a ≡ k) (e1 : b ≡ k) (e2 : c ≡ k) (e3 : d ≡ k) where
  pub four_new : take n (a ∷ b ∷ c ∷ d ∷ []) ≡ replicate n k
  four_new = rw (e0, e1, e2, e3) (four_alike n k le)

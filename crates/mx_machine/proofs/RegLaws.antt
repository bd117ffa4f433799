-- Registers that are written one after another.
use Rattle.std.proofs.Common.{◌≡◌, ℕ, zero, suc, ◌+◌, ◌<◌, ◌≤◌, ◌==◌, true, false, not, cond, List, [], ◌∷◌, length, get_or, set, take}
use Rattle.std.proofs.Common.{refl, sym, ap, ◌∙◌, arith}
use Rattle.std.specs.Prelude.{fold, min, zip}
use Rattle.std.specs.List.{list_all}
use Rattle.std.proofs.lemmas.Bool.{and_parts, not-true}
use Rattle.std.proofs.lemmas.List.{take_all}
use Rattle.std.proofs.lemmas.List.Sums.{fold_more}
use Rattle.std.proofs.lemmas.Slice.Zip.{length-zip, get_or-zip}
use Rattle.mx_model.specs.Effect.{written}
use Rattle.mx_model.specs.Turn.{restored, saved_registers}

-- one of these numbers is not zero where none is
not-zero : (xs : List ℕ) (i : ℕ) → i < length xs → list_all (λ x. not (x == 0)) xs ≡ true → (get_or xs i 0 == 0) ≡ false
not-zero [] i lt p = absurd (omega (arith, lt))
not-zero (x ∷ xs) zero lt p = not-true (x == 0) (and_parts (not (x == 0)) (list_all (λ x. not (x == 0)) xs) p).0
not-zero (x ∷ xs) (suc i) lt p = not-zero xs i (omega (arith, lt)) (and_parts (not (x == 0)) (list_all (λ x. not (x == 0)) xs) p).1

-- the registers after the first n of the fifteen are put back
abbrev pub back_first : ℕ → List ℕ → List ℕ → List ℕ
back_first n regs kept = fold (λ rs (p : ℕ × ℕ). set rs p.0 p.1) regs (take n (zip saved_registers kept))

long-pairs : (kept : List ℕ) → length kept ≡ 15 → length (zip saved_registers kept) ≡ 15
long-pairs kept n = length-zip saved_registers kept ∙ ap (λ k. min 15 k) n

pub back-more : (regs now kept : List ℕ) (i : ℕ) → length kept ≡ 15 → i < 15 → now ≡ back_first i regs kept →
    written now (get_or saved_registers i 0) (get_or kept i 0) ≡ back_first (i + 1) regs kept
back-more regs now kept i n lt e =
    let r = get_or saved_registers i 0 in
    let pairs = zip saved_registers kept in
    let long : i < length pairs = omega (arith, lt, long-pairs kept n) in
    ap (λ b. cond b now (set now r (get_or kept i 0))) (not-zero saved_registers i lt refl)
    ∙ ap (λ (rs : List ℕ). set rs r (get_or kept i 0)) e
    ∙ sym (ap (λ (p : ℕ × ℕ). set (back_first i regs kept) p.0 p.1) (get_or-zip saved_registers kept i (0, 0) lt (omega (arith, lt, n))))
    ∙ sym (fold_more (λ rs (p : ℕ × ℕ). set rs p.0 p.1) regs pairs i (0, 0) long)

pub back-all : (regs now kept : List ℕ) (i : ℕ) → length kept ≡ 15 → 15 ≤ i → now ≡ back_first i regs kept → now ≡ restored regs kept
back-all regs now kept i n le e =
    e ∙ ap (λ (ps : List (ℕ × ℕ)). fold (λ rs (p : ℕ × ℕ). set rs p.0 p.1) regs ps)
    (take_all i (zip saved_registers kept) (omega (arith, le, long-pairs kept n)))

-- two lists agree in the first n
pub record AgreeFirst (n : ℕ) (xs ys : List ℕ) : Type 0 where
  pub at : (j : ℕ) → j < n → get_or xs j 0 ≡ get_or ys j 0

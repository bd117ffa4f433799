-- The draws of the modules one after another.
use Rattle.std.proofs.Common.{◌≡◌, ℕ, suc, ◌+◌, ◌-◌, ◌*◌, refl, ap, ◌∙◌, arith}
use Rattle.mx_mill.specs.declared.draws.Draws.{Draws}
use Rattle.mx_mill.specs.Draws.{drawn, draws, next, number_after}
use Rattle.mx_mill.specs.Words.{module_count}

pub number_first : (k : ℕ) → number_after k (3 * 0) ≡ k
unfolding number_after
number_first k = refl

-- the number after the draws of one more module
pub number_next : (k i : ℕ) → next (next (next (number_after k (3 * i)))) ≡ number_after k (3 * (i + 1))
unfolding number_after
number_next k i = let e : suc (suc (suc (3 * i))) ≡ 3 * (i + 1) = omega arith in ap (number_after k) e

-- three draws by their answers
pub draws_are : (d e : Draws) → d.words ≡ e.words → d.domain ≡ e.domain → d.right ≡ e.right → d ≡ e
draws_are d e w o r =
    ap (λ n. record d { words = n }) w ∙ ap (λ n. record { words = e.words; domain = n; right = d.right }) o
    ∙ ap (λ n. record { words = e.words; domain = e.domain; right = n }) r

-- those of the next module
pub draws_next : (k i : ℕ) (d : Draws) → let x = number_after k (3 * i) in d.words ≡ 1 + drawn (next x) 16
    → d.domain ≡ 1 + drawn (next (next x)) module_count → d.right ≡ 1 + drawn (next (next (next x))) 3
    → d ≡ draws k (i + 1)
unfolding draws number_after
draws_next k i d w o r =
    let a : suc (3 * i) ≡ 3 * (i + 1) - 2 = omega arith in
    let b : suc (suc (3 * i)) ≡ 3 * (i + 1) - 1 = omega arith in
    let c : suc (suc (suc (3 * i))) ≡ 3 * (i + 1) = omega arith in
    draws_are d (draws k (i + 1)) (w ∙ ap (λ n. 1 + drawn (number_after k n) 16) a) (o
    ∙ ap (λ n. 1 + drawn (number_after k n) module_count) b) (r ∙ ap (λ n. 1 + drawn (number_after k n) 3) c)

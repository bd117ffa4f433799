-- Gates added one after another.
use Rattle.std.proofs.Common.{◌≡◌, ℕ, zero, suc, ◌+◌, ◌<◌, false, not, cond, List, [], ◌∷◌, ◌++◌, length, get_or, take, refl, ap, ◌∙◌, sym}
use Rattle.std.proofs.Common.{arith}
use Rattle.std.specs.List.{AllByRecursion}
use Rattle.std.proofs.lemmas.List.{take_more}
use Rattle.mx_model.specs.declared.values.Gate.{Gate}
use Rattle.mx_model.specs.Gates.{AreSingle, is_at, with_gate, without_gate}
use Rattle.mx_boot.proofs.Gated.{flipped}

all_taken : {X : Type 0} (P : X → Type 0) (xs : List X) (i : ℕ) (d : X) → ((j : ℕ) → j < i → j < length xs → P (get_or xs j d))
    → AllByRecursion P (take i xs)
all_taken P [] zero d f = tt
all_taken P [] (suc i) d f = tt
all_taken P (x ∷ xs) zero d f = tt
all_taken P (x ∷ xs) (suc i) d f = (
  f 0 (omega arith) (omega arith),
  all_taken P xs i d (λ j a b.
      f (suc j) (omega (arith, a)) (omega (arith, b))),
)

none_left_out : (domain word : ℕ) (gs : List Gate) → AllByRecursion (λ g. is_at domain word g ≡ false) gs → without_gate domain word gs ≡ gs
none_left_out domain word [] h = refl
none_left_out domain word (g ∷ gs) h = ap (λ b. cond (not b) (g ∷ without_gate domain word gs) (without_gate domain word gs)) h.0
    ∙ ap (λ xs. g ∷ xs) (none_left_out domain word gs h.1)

module _ (all : List Gate) (single : AreSingle all) (i : ℕ) (d : Gate) (lt : i < length all) where
  fresh : AllByRecursion (λ g. is_at (get_or all i d).domain (get_or all i d).word g ≡ false) (take i all)
  fresh = all_taken (λ g. is_at (get_or all i d).domain (get_or all i d).word g ≡ false) all i d
      (λ j before below. let a = get_or all j d in let b = get_or all i d in
      flipped a.domain a.word b.domain b.word (single j i d before lt))

  pub gate-next : with_gate (get_or all i d) (take i all) ≡ take (i + 1) all
  gate-next = ap (λ gs. gs ++ get_or all i d ∷ []) (none_left_out (get_or all i d).domain (get_or all i d).word (take i all) fresh)
      ∙ sym (take_more all i d lt)

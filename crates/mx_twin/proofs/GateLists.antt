-- Lists that are read from place to place until none is left.
use Rattle.std.proofs.Common.{◌≡◌, ℕ, zero, suc, ◌+◌, ◌<◌, ◌≤◌, Bool, true, false, ◌&&◌, cond, List, [], ◌∷◌, length, drop, slice_get, refl}
use Rattle.std.proofs.Common.{sym, ◌∙◌, ap, arith, add-one, Some, None}
use Rattle.std.specs.List.{list_all}
use Rattle.std.specs.Option.{option_map}
use Rattle.mx_model.specs.declared.values.Gate.{Gate}
use Rattle.mx_model.specs.Gates.{gate_at, is_at}

some-drop : (xs : List Gate) (i : ℕ) (x : Gate) → Some x ≡ slice_get xs i → drop i xs ≡ x ∷ drop (suc i) xs
some-drop [] i x e = absurd (let q : ⊥ = cc in q)
some-drop (y ∷ ys) zero x e = let q : y ≡ x = cc in ap (λ (z : Gate). z ∷ ys) q
some-drop (y ∷ ys) (suc i) x e = some-drop ys i x e

none-drop : (xs : List Gate) (i : ℕ) → None ≡ slice_get xs i → drop i xs ≡ []
none-drop [] zero e = refl
none-drop [] (suc i) e = refl
none-drop (y ∷ ys) zero e = absurd (let q : ⊥ = cc in q)
none-drop (y ∷ ys) (suc i) e = none-drop ys i e

pub some-below : (xs : List Gate) (i : ℕ) (x : Gate) → Some x ≡ slice_get xs i → i < length xs
some-below [] i x e = absurd (let q : ⊥ = cc in q)
some-below (y ∷ ys) zero x e = omega arith
some-below (y ∷ ys) (suc i) x e = let l = some-below ys i x e in omega (arith, l)

-- the gate for a domain at a word among those from place i on
pub record IsLeft (gates : List Gate) (d word i : ℕ) : Type 0 where
  pub found : gate_at (drop i gates) d word ≡ gate_at gates d word
  pub within : i ≤ length gates

module _ (gates : List Gate) (d word i : ℕ) (k : IsLeft gates d word i) where
  next-gate : (g : Gate) → Some g ≡ slice_get gates i → gate_at gates d word
      ≡ cond (is_at d word g) (Some g) (gate_at (drop (suc i) gates) d word)
  next-gate g e = sym k.found ∙ ap (λ (gs : List Gate). gate_at gs d word) (some-drop gates i g e)

  pub target-here : (g : Gate) → Some g ≡ slice_get gates i → is_at d word g ≡ true →
      Some g.target ≡ option_map (λ (x : Gate). x.target) (gate_at gates d word)
  target-here g e t =
      sym (ap (option_map (λ (x : Gate). x.target)) (next-gate g e
      ∙ ap (λ (b : Bool). cond b (Some g) (gate_at (drop (suc i) gates) d word)) t))

  pub left-more : (g : Gate) → Some g ≡ slice_get gates i → is_at d word g ≡ false → IsLeft gates d word (i + 1)
  left-more g e t =
      let l = some-below gates i g e in
      record {
        found = ap (λ (n : ℕ). gate_at (drop n gates) d word) (add-one i)
            ∙ sym (next-gate g e ∙ ap (λ (b : Bool). cond b (Some g) (gate_at (drop (suc i) gates) d word)) t);
        within = omega (arith, l);
      }

  pub target-none : None ≡ slice_get gates i → None ≡ option_map (λ (x : Gate). x.target) (gate_at gates d word)
  target-none e = sym (ap (option_map (λ (x : Gate). x.target)) (sym k.found
      ∙ ap (λ (gs : List Gate). gate_at gs d word) (none-drop gates i e)))

-- gates up to place i pass a test
pub record HavePassed (test : Gate → Bool) (gates : List Gate) (i : ℕ) : Type 0 where
  pub left : list_all test gates ≡ list_all test (drop i gates)
  pub within : i ≤ length gates

module _ (test : Gate → Bool) (gates : List Gate) (i : ℕ) (k : HavePassed test gates i) where
  next-test : (g : Gate) → Some g ≡ slice_get gates i → list_all test gates ≡ (test g && list_all test (drop (suc i) gates))
  next-test g e = k.left ∙ ap (λ (gs : List Gate). list_all test gs) (some-drop gates i g e)

  pub passed-more : (g : Gate) → Some g ≡ slice_get gates i → test g ≡ true → HavePassed test gates (i + 1)
  passed-more g e t =
      let l = some-below gates i g e in
      record {
        left = next-test g e ∙ ap (λ (b : Bool). b && list_all test (drop (suc i) gates)) t
            ∙ ap (λ (n : ℕ). list_all test (drop n gates)) (sym (add-one i));
        within = omega (arith, l);
      }

  pub passed-not : (g : Gate) → Some g ≡ slice_get gates i → test g ≡ false → false ≡ list_all test gates
  passed-not g e t = sym (next-test g e ∙ ap (λ (b : Bool). b && list_all test (drop (suc i) gates)) t)

  pub passed-all : None ≡ slice_get gates i → true ≡ list_all test gates
  passed-all e = sym (k.left ∙ ap (λ (gs : List Gate). list_all test gs) (none-drop gates i e))

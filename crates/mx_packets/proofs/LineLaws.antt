-- What was said on a line, text after text.
use Rattle.std.proofs.Common.{◌≡◌, ℕ, suc, ◌+◌, ◌≤◌, List, [], ◌∷◌, ◌++◌, length, take, Result, Ok, Err, refl, ap, sym, subst, ◌∙◌, arith}
use Rattle.std.proofs.Common.{append_assoc, length-append}
use Rattle.std.specs.List.{concat}
use Rattle.std.proofs.lemmas.List.{append-nil, take-append-le}
use Rattle.mx_packets.specs.Lines.{Chain, Fails, Speaks, SpeaksOrFails, Utters}

module _ {L : Type 0} (says : L → List ℕ → L → Type 0) (room : L → ℕ) where
  chain_more : (l k m : L) (a b : List (List ℕ)) → Chain says l a k → Chain says k b m → Chain says l (a ++ b) m
  chain_more l k m [] b one two = subst (λ (x : L). Chain says x b m) one two
  chain_more l k m (t ∷ a) b one two = (one.0, one.1, chain_more one.0 k m a b one.2 two)

  concat_more : (a b : List (List ℕ)) → concat (a ++ b) ≡ concat a ++ concat b
  concat_more [] b = refl
  concat_more (t ∷ a) b = ap (λ (x : List ℕ). t ++ x) (concat_more a b) ∙ sym (append_assoc t (concat a) (concat b))

  pub speaks_nothing : (l : L) → Speaks says room l [] l
  speaks_nothing l = record { texts = []; whole = refl; said = refl; left = λ few. omega arith }

  pub speaks_more : (l k m : L) (a b : List ℕ) → Speaks says room l a k → Speaks says room k b m → Speaks says room l (a ++ b) m
  speaks_more l k m a b one two =
      let long : length (a ++ b) ≡ length a + length b = length-append a b in
      record {
        texts = one.texts ++ two.texts;
        whole = concat_more one.texts two.texts ∙ ap (λ (x : List ℕ). x ++ concat two.texts) one.whole
            ∙ ap (λ (x : List ℕ). a ++ x) two.whole;
        said = chain_more l k m one.texts two.texts one.said two.said;
        left = λ few.
            let first : length a ≤ room l = omega (arith, few, long) in
            let after = one.left first in
            let second : length b ≤ room k = omega (arith, few, long, after) in
            let last = two.left second in
            omega (arith, long, after, last);
      }

  take_more : (a b : List ℕ) (n : ℕ) → take (length a + n) (a ++ b) ≡ a ++ take n b
  take_more [] b n = let e : 0 + n ≡ n = omega arith in ap (λ k. take k b) e
  take_more (x ∷ a) b n = let e : length (x ∷ a) + n ≡ suc (length a + n) = omega arith in
      rw e (ap (λ (y : List ℕ). x ∷ y) (take_more a b n))

  pub fails_behind : (l k m : L) (a b : List ℕ) → Speaks says room l a k → Fails says room k b m → Fails says room l (a ++ b) m
  fails_behind l k m a b one two =
      let long : length (a ++ b) ≡ length a + length b = length-append a b in
      let some = two.few in
      record {
        bytes = length a + two.bytes;
        few = omega (arith, long, some);
        texts = one.texts ++ two.texts;
        front = concat_more one.texts two.texts ∙ ap (λ (x : List ℕ). x ++ concat two.texts) one.whole
            ∙ ap (λ (x : List ℕ). a ++ x) two.front ∙ sym (take_more a b two.bytes);
        said = chain_more l k m one.texts two.texts one.said two.said;
        tight = λ few.
            let first : length a ≤ room l = omega (arith, few, long) in
            let after = one.left first in
            two.tight (omega (arith, few, long, after));
      }

  pub fails_before : (l m : L) (a b : List ℕ) → Fails says room l a m → Fails says room l (a ++ b) m
  fails_before l m a b one =
      let long : length (a ++ b) ≡ length a + length b = length-append a b in
      let some = one.few in
      let upto : one.bytes ≤ length a = omega (arith, some) in
      record {
        bytes = one.bytes;
        few = omega (arith, long, some);
        texts = one.texts;
        front = one.front ∙ sym (take-append-le one.bytes a b upto);
        said = one.said;
        tight = λ few. one.tight (omega (arith, few, long));
      }

  pub utters : {A E : Type 0} (l : L) (text : List ℕ) (m : L) (result : Result A E) → Utters says room l text m result
      → SpeaksOrFails says room l text m result
  utters l text m (Ok a) u = record {
    texts = text ∷ [];
    whole = append-nil text;
    said = (m, u.whole, refl);
    left = λ few. (u.sure few).1;
  }
  utters l text m (Err e) u = record {
    bytes = u.front.0;
    few = u.front.1;
    texts = take u.front.0 text ∷ [];
    front = append-nil (take u.front.0 text);
    said = (m, u.front.2, refl);
    tight = λ few. (let sure = (u.sure few).0 in cc (sure));
  }

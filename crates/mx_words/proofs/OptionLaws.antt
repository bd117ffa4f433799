-- What two options, and an option under a map, say of each other.
use Rattle.std.proofs.Common.{◌≡◌, ◌⊎◌, inl, inr, Bool, true, false, cond, Option, Some, None, IsSome, IfSome, refl, sym, subst}
use Rattle.std.specs.Option.{option_or, option_map, is_some}

-- where neither of two has a value
pub neither : {A : Type 0} (a b : Option A) → option_or a b ≡ None → (a ≡ None) × (b ≡ None)
neither None b e = (refl, e)
neither (Some x) b e = cc

-- a row that doesn't apply, and the rows after it
pub row_none : {A : Type 0} (test : Bool) (x : A) (rest : Option A) → cond test (Some x) rest ≡ None → (test ≡ false) × (rest ≡ None)
row_none true x rest e = cc
row_none false x rest e = (refl, e)

-- a value that is withheld where a test passes
pub withheld : {A : Type 0} (test : Bool) (x : A) → cond test None (Some x) ≡ None → test ≡ true
withheld true x e = refl
withheld false x e = cc

-- a map finds a value just where there is one
pub is_some-map : {A B : Type 0} (f : A → B) (o : Option A) → is_some (option_map f o) ≡ is_some o
is_some-map f None = refl
is_some-map f (Some x) = refl

pub unmapped : {A B : Type 0} (f : A → B) (o : Option A) → option_map f o ≡ None → o ≡ None
unmapped f None e = refl
unmapped f (Some x) e = cc

-- the value that is there
pub some_of : {A : Type 0} (o : Option A) → IsSome o → (x : A) × (o ≡ Some x)
some_of None there = cc
some_of (Some x) there = (x, refl)

-- what holds of a value, if there is one, after it stays or another of which it holds takes its place
pub if_some_after : {A : Type 0} (P : A → Type 0) (x : A) (before after : Option A) → (after ≡ before) ⊎ (after ≡ Some x) → P x
    → IfSome before P → IfSome after P
if_some_after P x before after (inl same) here holds = subst (λ (o : Option _). IfSome o P) (sym same) holds
if_some_after P x before after (inr named) here holds = subst (λ (o : Option _). IfSome o P) (sym named) here

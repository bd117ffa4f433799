-- What is read of a machine: lists place by place, and how a hart stands.
use Rattle.std.proofs.Common.{◌≡◌, ℕ, zero, suc, ◌+◌, ◌-◌, ◌<◌, ◌≤◌, true, false, List, [], ◌∷◌, length, get_or, sym, ap, ◌∙◌, arith}
use Rattle.std.proofs.Common.{Option, Some, None}
use Rattle.std.proofs.lemmas.Option.{get_or_from_slice_get, slice_get_within}
use Rattle.mx_model.specs.State.{Hart}
use Rattle.mx_machine.specs.declared.views.HartView.{HartView}
use Rattle.mx_machine.specs.Readings.{IsViewOf, status_told}
use Rattle.mx_snapshot.specs.Spelling.{state_bytes}
use Rattle.std.specs.Prelude.{is_some, option_map, slice_get}

-- the name at place i is that of domain i + 1
pub named_at : (names : List (List ℕ)) (i : ℕ) (name : List ℕ) → slice_get names i ≡ Some name → name ≡ get_or names (i + 1 - 1) []
named_at names i name at =
    let back : i ≡ i + 1 - 1 = omega arith in
    sym (get_or_from_slice_get names i name [] at) ∙ ap (λ j. get_or names j []) back

-- where nothing is told the list is at its end
pub none_at : {A : Type 0} (xs : List A) (i : ℕ) → slice_get xs i ≡ None → length xs ≤ i
none_at [] i none = omega arith
none_at (x ∷ xs) zero none = absurd (let q : ⊥ = cc in q)
none_at (x ∷ xs) (suc i) none = let r = none_at xs i none in omega (arith, r)

-- whether there is an item at place i, by whether it is told
pub some_within : {A B : Type 0} (f : A → B) (o : Option A) (xs : List B) (i : ℕ) → option_map f o ≡ slice_get xs i → is_some o ≡ true
    → i < length xs
some_within f None xs i told is = absurd (let q : ⊥ = cc in q)
some_within f (Some a) xs i told is = slice_get_within xs i (f a) (sym told)

pub some_behind : {A B : Type 0} (f : A → B) (o : Option A) (xs : List B) (i : ℕ) → option_map f o ≡ slice_get xs i → is_some o ≡ false
    → length xs ≤ i
some_behind f None xs i told is = none_at xs i (sym told)
some_behind f (Some a) xs i told is = absurd (let q : ⊥ = cc in q)

-- the same of items that are told as they are
pub is_within : {A : Type 0} (o : Option A) (xs : List A) (i : ℕ) → o ≡ slice_get xs i → is_some o ≡ true → i < length xs
is_within None xs i told is = absurd (let q : ⊥ = cc in q)
is_within (Some a) xs i told is = slice_get_within xs i a (sym told)

pub is_behind : {A : Type 0} (o : Option A) (xs : List A) (i : ℕ) → o ≡ slice_get xs i → is_some o ≡ false → length xs ≤ i
is_behind None xs i told is = none_at xs i (sym told)
is_behind (Some a) xs i told is = absurd (let q : ⊥ = cc in q)

-- how a hart stands, by what is told of it
pub state_told : (hart : Hart) (v : HartView) → IsViewOf hart v
    → state_bytes v.status v.domain v.pc v.regs ≡ state_bytes (status_told hart.status) hart.domain hart.pc hart.regs
state_told hart v is = search (arith, v.domain, v.pc, hart.domain, hart.pc)

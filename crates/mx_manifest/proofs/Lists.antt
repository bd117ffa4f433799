-- What the ranges say of each element of a list.
use Rattle.std.proofs.Common.{◌≡◌, ◌≢◌, ℕ, ◌+◌, ◌<◌, ◌≤◌, suc, zero, Bool, true, false, not, ◌||◌, ◌==◌, nat_lt, cond, List, [], ◌∷◌}
use Rattle.std.proofs.Common.{length, map, take, Option, Some, None, slice_get, unwrap_or, ℤ, pos, negsuc, refl, ap, ◌∙◌, subst, arith}
use Rattle.std.proofs.Common.{if◌then◌else◌}
use Rattle.std.proofs.lemmas.Bool.{and_parts, eq-eqb, eqb-false, not-true, or_right}
use Rattle.std.proofs.lemmas.Bool.Decides.{nat_tests}
use Rattle.std.proofs.lemmas.List.Sums.{prefix_len-le-length}
use Rattle.std.proofs.lemmas.Option.{same_Some}
use Rattle.std.specs.List.{list_all, list_any, enumerate_from, position_or_len}
use Rattle.std.specs.Option.{option_map_or}
use Rattle.std.specs.Str.{bytes_eq}
use Rattle.toml.specs.Data.{Data, string, integer, float, boolean, datetime, array, table}
use Rattle.mx_manifest.specs.declared.fault.Part.{Part}
use Rattle.mx_manifest.specs.declared.tables.KeyFault.{KeyFault}
use Rattle.mx_manifest.specs.Reads.{word}
use Rattle.mx_manifest.specs.Forms.{is_entry}
use Rattle.mx_manifest.specs.InRange.{IsBetween, IsEntry, Each, EachNumbered}
use Rattle.mx_manifest.specs.Plan.{entry_plan}
use Rattle.mx_manifest.specs.Faults.{first_of, numbered_fault, each_fault, domain_of, is_other, module_name}
use Rattle.mx_words.proofs.OptionLaws.{neither, unmapped}
use Rattle.mx_manifest.proofs.Clear.{within_parts}

-- each element of a list that passes a test
pub each_mapped : {A B : Type 0} (test : A → Bool) (f : A → B) (P : B → Type 0) (xs : List A) → list_all test xs ≡ true
    → ((x : A) → test x ≡ true → P (f x)) → Each P (map f xs)
each_mapped test f P [] h g i y e = cc
each_mapped test f P (x ∷ xs) h g zero y e = subst P (same_Some _ _ e) (g x (and_parts _ _ h).0)
each_mapped test f P (x ∷ xs) h g (suc i) y e = each_mapped test f P xs (and_parts _ _ h).1 g i y e

-- a fact of each element and its number
pub numbered_mapped : {A B : Type 0} (f : A → B) (P : ℕ → B → Type 0) (xs : List A)
    → ((i : ℕ) (x : A) → slice_get xs i ≡ Some x → P (i + 1) (f x)) → EachNumbered P (map f xs)
numbered_mapped f P [] g i y e = cc
numbered_mapped f P (x ∷ xs) g zero y e = subst (P 1) (same_Some _ _ e) (g 0 x refl)
numbered_mapped f P (x ∷ xs) g (suc i) y e =
    let next : P (i + 1 + 1) y = numbered_mapped f (λ n. P (n + 1)) xs (λ j z at. let here : P (j + 1 + 1) (f z) =
    subst (λ n. P n (f z)) (omega arith) (g (suc j) z at) in here) i y e in
    subst (λ n. P n y) (omega arith) next

-- each test of numbered tables finds nothing where the first of them all finds nothing
numbered_clear : (sort : Part) (test : ℕ → Data → Option KeyFault) (n : ℕ) (tables : List Data)
    → first_of (map (numbered_fault sort test) (enumerate_from n tables)) ≡ None
    → (i : ℕ) (d : Data) → slice_get tables i ≡ Some d → test (n + i) d ≡ None
numbered_clear sort test n [] h i d e = cc
numbered_clear sort test n (t ∷ tables) h zero d e =
    let here : test n t ≡ None = unmapped _ _ (neither _ _ h).0 in
    let named : test n d ≡ None = subst (λ x. test n x ≡ None) (same_Some _ _ e) here in
    subst (λ k. test k d ≡ None) (omega arith) named
numbered_clear sort test n (t ∷ tables) h (suc i) d e =
    let rest : test (n + 1 + i) d ≡ None = numbered_clear sort test (n + 1) tables (neither _ _ h).1 i d e in
    subst (λ k. test k d ≡ None) (omega arith) rest

pub each_clear : (sort : Part) (test : ℕ → Data → Option KeyFault) (tables : List Data) → each_fault sort test tables ≡ None
    → (i : ℕ) (d : Data) → slice_get tables i ≡ Some d → test (i + 1) d ≡ None
unfolding each_fault
each_clear sort test tables h i d e = subst (λ k. test k d ≡ None) (omega arith) (numbered_clear sort test 1 tables h i d e)

-- the same of a plain list
pub first_clear : {A F : Type 0} (test : A → Option F) (xs : List A) → first_of (map test xs) ≡ None → (i : ℕ) (x : A)
    → slice_get xs i ≡ Some x → test x ≡ None
first_clear test [] h i x e = cc
first_clear test (y ∷ xs) h zero x e = subst (λ z. test z ≡ None) (same_Some _ _ e) (neither _ _ h).0
first_clear test (y ∷ xs) h (suc i) x e = first_clear test xs (neither _ _ h).1 i x e

pub all_at : {A : Type 0} (test : A → Bool) (xs : List A) → list_all test xs ≡ true → (i : ℕ) (x : A) → slice_get xs i ≡ Some x
    → test x ≡ true
all_at test [] h i x e = cc
all_at test (y ∷ xs) h zero x e = subst (λ z. test z ≡ true) (same_Some _ _ e) (and_parts _ _ h).0
all_at test (y ∷ xs) h (suc i) x e = all_at test xs (and_parts _ _ h).1 i x e

-- a test that finds no fault
pub holds_not : {K : Type 0} (test : Bool) (fault : K) → ◌≡◌ {A = Option K} (if not test then Some fault else None) None → test ≡ true
holds_not true fault h = refl
holds_not false fault h = cc

pub fails : {K : Type 0} (test : Bool) (fault : K) → ◌≡◌ {A = Option K} (if test then Some fault else None) None → test ≡ false
fails false fault h = refl
fails true fault h = cc

-- an entry in its range
small_word : (z : ℤ) → unwrap_or (word z) 0 ≤ 4294967295
small_word (pos n) = grind (arith, nat_tests)
small_word (negsuc n) = omega arith

or_false : (b : Bool) → (b || false) ≡ true → b ≡ true
or_false true h = refl
or_false false h = h

pub entry_in_range : (value : Data) → is_entry value ≡ true → IsEntry (entry_plan value)
entry_in_range (string text) h = within_parts 1 255 (length text) (or_false _ h)
entry_in_range (integer z) h = small_word z
entry_in_range (float x) h = omega arith
entry_in_range (boolean b) h = omega arith
entry_in_range (datetime dt) h = omega arith
entry_in_range (array _) h = omega arith
entry_in_range (table _) h = omega arith

-- a module's number by its name
domain_found : (place count : ℕ) → place ≤ count → option_map_or suc (cond (nat_lt place count) (Some place) None) 0 ≤ count
domain_found place count h = grind (arith, nat_tests)

pub domain_at_most : (names : List (List ℕ)) (name : List ℕ) → domain_of names name ≤ length names
domain_at_most names name = domain_found (position_or_len (bytes_eq name) names) (length names) (prefix_len-le-length _ names)

not_zero : (n : ℕ) → not (n == 0) ≡ true → 1 ≤ n
not_zero n h = grind (arith, nat_tests)

pub other_in_range : (names : List (List ℕ)) (own : ℕ) (name : List ℕ) → is_other names own name ≡ true
    → IsBetween 1 (length names) (domain_of names name) × (domain_of names name ≢ own)
other_in_range names own name h =
    let parts = and_parts _ _ h in
    ((not_zero _ parts.0, domain_at_most names name), eqb-false _ own (not-true _ parts.1))

pub home_in_range : (names : List (List ℕ)) (name : List ℕ) → (domain_of names name == 0) ≡ false
    → IsBetween 1 (length names) (domain_of names name)
home_in_range names name h = (grind (arith, nat_tests), domain_at_most names name)

-- an element of a list of values
pub from_mapped : {A B : Type 0} (f : A → B) (xs : List A) (i : ℕ) (y : B) → slice_get (map f xs) i ≡ Some y
    → (x : A) × (slice_get xs i ≡ Some x) × (f x ≡ y)
from_mapped f [] i y e = cc
from_mapped f (x ∷ xs) zero y e = (x, refl, same_Some _ _ e)
from_mapped f (x ∷ xs) (suc i) y e = from_mapped f xs i y e

pub bytes_same : (name : List ℕ) → bytes_eq name name ≡ true
bytes_same [] = refl
bytes_same (x ∷ name) = rw (eq-eqb x x refl, bytes_same name) refl

-- a name that stands before a place is found before it
pub found_before : (all : List Data) (name : List ℕ) (i j : ℕ) (d : Data) → slice_get all i ≡ Some d → i < j → module_name d ≡ name
    → list_any (bytes_eq name) (take j (map module_name all)) ≡ true
found_before [] name i j d e below same = cc
found_before (x ∷ all) name i zero d e below same = absurd (omega arith)
found_before (x ∷ all) name zero (suc j) d e below same =
    let here : bytes_eq name (module_name x) ≡ true = ap (λ y. bytes_eq name (module_name y)) (same_Some _ _ e) ∙ ap (bytes_eq name) same
    ∙ bytes_same name in
    rw here refl
found_before (x ∷ all) name (suc i) (suc j) d e below same = or_right (bytes_eq name (module_name x)) _
    (found_before all name i j d e (omega arith) same)

-- The plan that a valid snapshot keeps is in its ranges.
use Rattle.std.proofs.Common.{◌≡◌, ◌⊎◌, ℕ, zero, suc, Bool, true, false, not, List, [], ◌∷◌, ◌++◌, slice_get, Some, refl, sym, ap, ◌∙◌}
use Rattle.std.proofs.Common.{subst, arith}
use Rattle.std.proofs.Common.{map as list_map}
use Rattle.std.specs.List.{AllByRecursion, list_all, list_any}
use Rattle.std.specs.Str.{bytes_eq}
use Rattle.std.proofs.lemmas.Bool.{and_parts, eqb-true, not-true, or_cases}
use Rattle.std.proofs.lemmas.List.{length-map}
use Rattle.std.proofs.lemmas.Option.{same_Some}
use Rattle.std.proofs.lemmas.Slice.Eq.{bytes_eq-Decides}
use Rattle.mx_words.specs.Limits.{is_buffer}
use Rattle.mx_model.proofs.JoinLaws.{all-first, all-second}
use Rattle.mx_model.proofs.EachLaws.{all_at, any_none}
use Rattle.mx_manifest.specs.Forms.{is_name_byte}
use Rattle.mx_manifest.specs.InRange.{IsBetween, IsName}
use Rattle.mx_snapshot.proofs.ValidLists.{each_holds, each_turned}
use Rattle.mx_snapshot.specs.Fits.{EachFits, IsStored, IsStoredModule}
use Rattle.mx_snapshot.specs.Kept.{IsKept}
use Rattle.mx_snapshot.specs.Resumed.{plan_of}
use Rattle.mx_snapshot.specs.Stored.{Head, Stored, StoredModule}

-- whether a module has a name
abbrev has_name : List ℕ → StoredModule → Bool
has_name name m = bytes_eq m.name name

abbrev IsNew : List StoredModule → StoredModule → Type 0
IsNew before m = list_any (has_name m.name) before ≡ false

name-parts : (h : Head) (before : List StoredModule) (m : StoredModule) → IsStoredModule h before m → IsName m.name × IsNew before m
name-parts h before m is =
    let p = and_parts (list_all is_name_byte m.name) (not (list_any (has_name m.name) before)) is.name in
    ((is.name_length, p.0), not-true (list_any (has_name m.name) before) p.1)

-- none of the modules before one has its name
others : (xs before : List StoredModule) → EachFits IsNew before xs → (j : ℕ) (x : StoredModule) → slice_get xs j ≡ Some x
    → AllByRecursion (λ (y : StoredModule). bytes_eq y.name x.name ≡ false) before
others [] before f j x e = absurd cc
others (z ∷ zs) before f zero x e = subst (λ (y : StoredModule).
    AllByRecursion (λ (w : StoredModule). bytes_eq w.name y.name ≡ false) before) (same_Some z x e) (any_none (has_name z.name) before f.0)
others (z ∷ zs) before f (suc j) x e = all-first (λ (y : StoredModule). bytes_eq y.name x.name ≡ false) before (z ∷ [])
    (others zs (before ++ z ∷ []) f.1 j x e)

differ : (z : StoredModule) (zs before : List StoredModule) → EachFits IsNew before (z ∷ zs) → (j : ℕ) (x y : StoredModule)
    → slice_get (z ∷ zs) 0 ≡ Some x → slice_get zs j ≡ Some y → x.name ≡ y.name → ⊥
differ z zs before f j x y first e same =
    let apart : bytes_eq z.name y.name ≡ false = (all-second (λ (w : StoredModule). bytes_eq w.name y.name ≡ false) before (z ∷ [])
    (others zs (before ++ z ∷ []) f.1 j y e)).0 in
    let alike : bytes_eq z.name y.name ≡ true = (bytes_eq-Decides z.name y.name).1 (ap (λ (m : StoredModule). m.name) (same_Some z x first)
    ∙ same) in
    let q : ⊥ = cc in q

apart : (xs before : List StoredModule) → EachFits IsNew before xs → (i j : ℕ) (x y : StoredModule) → slice_get xs i ≡ Some x
    → slice_get xs j ≡ Some y → x.name ≡ y.name → i ≡ j
apart [] before f i j x y d e same = absurd cc
apart (z ∷ zs) before f zero zero x y d e same = refl
apart (z ∷ zs) before f zero (suc j) x y d e same = absurd (differ z zs before f j x y d e same)
apart (z ∷ zs) before f (suc i) zero x y d e same = absurd (differ z zs before f i y x e d (sym same))
apart (z ∷ zs) before f (suc i) (suc j) x y d e same = ap suc (apart zs (before ++ z ∷ []) f.1 i j x y d e same)

-- the module of a name
record HasName (ms : List StoredModule) (i : ℕ) (name : List ℕ) : Type 0 where
  owner : StoredModule
  at : slice_get ms i ≡ Some owner
  is : owner.name ≡ name

named : (ms : List StoredModule) (i : ℕ) (name : List ℕ) → slice_get (list_map (λ (m : StoredModule). m.name) ms) i ≡ Some name
    → HasName ms i name
named [] i name e = absurd cc
named (m ∷ ms) zero name e = record { owner = m; at = refl; is = same_Some _ _ e }
named (m ∷ ms) (suc i) name e = let n = named ms i name e in record { owner = n.owner; at = n.at; is = n.is }

buffer-is : (n : ℕ) → is_buffer n ≡ true → (n ≡ 8) ⊎ (n ≡ 32) ⊎ (n ≡ 64)
buffer-is n e = search (arith, eqb-true, or_cases)

pub stored-kept : (s : Stored) → IsStored s → IsKept (plan_of s)
stored-kept s f =
    let each = each_holds (IsStoredModule s.head) (λ (m : StoredModule). IsName m.name) (λ before m is. (name-parts s.head before m is).0)
    s.modules [] f.modules in
    let new = each_turned (IsStoredModule s.head) IsNew (λ before m is. (name-parts s.head before m is).1) s.modules [] f.modules in
    record {
      limit = f.head.limit;
      lookaside = buffer-is s.head.lookaside f.head.lookaside;
      quantum = f.head.quantum;
      count = subst (IsBetween 1 63) (sym (length-map s.modules (λ (m : StoredModule). m.name) ∙ f.module_count)) f.head.modules;
      names = λ i name e.
          let n = named s.modules i name e in
          subst IsName n.is (all_at (λ (m : StoredModule). IsName m.name) s.modules i n.owner each n.at);
      apart = λ i j name d e.
          let n = named s.modules i name d in
          let k = named s.modules j name e in
          apart s.modules [] new i j n.owner k.owner n.at k.at (n.is ∙ sym k.is);
    }

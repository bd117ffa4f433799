-- What is kept of a plan is in range, and the names of a plan's modules one after another.
use Rattle.std.proofs.Common.{◌≡◌, ℕ, zero, suc, ◌+◌, List, [], ◌∷◌, ◌++◌, take, map, slice_get, Some, refl, sym, ap, ◌∙◌}
use Rattle.std.proofs.lemmas.List.{length-map, map-append, take_more}
use Rattle.std.proofs.lemmas.Option.{same_Some, slice_get_within, get_or_from_slice_get}
use Rattle.mx_manifest.specs.declared.parts.ModulePlan.{ModulePlan}
use Rattle.mx_manifest.specs.InRange.{IsInRange}
use Rattle.mx_manifest.specs.Plan.{Said}
use Rattle.mx_snapshot.specs.Kept.{IsKept, kept_of}

-- the names of modules
abbrev names_of : List ModulePlan → List (List ℕ)
names_of = map (λ (m : ModulePlan). m.name)

-- the module of a name
record HasName (ms : List ModulePlan) (i : ℕ) (name : List ℕ) : Type 0 where
  owner : ModulePlan
  at : slice_get ms i ≡ Some owner
  is : owner.name ≡ name

named_at : (ms : List ModulePlan) (i : ℕ) (name : List ℕ) → slice_get (names_of ms) i ≡ Some name → HasName ms i name
named_at [] i name e = absurd cc
named_at (m ∷ ms) zero name e = record { owner = m; at = refl; is = same_Some _ _ e }
named_at (m ∷ ms) (suc i) name e = let n = named_at ms i name e in record { owner = n.owner; at = n.at; is = n.is }

pub kept_in_range : (plan : Said) → IsInRange plan → IsKept (kept_of plan)
kept_in_range plan r = record {
  limit = record { upper = r.upper; leaf = r.leaf; spill = r.spill };
  lookaside = r.lookaside;
  quantum = r.quantum;
  count = rw length-map r.module_count;
  names = λ i name e. let n = named_at plan.modules i name e in rw (sym n.is) (r.modules i n.owner n.at).name;
  apart = λ i j name e f.
      let n = named_at plan.modules i name e in
      let k = named_at plan.modules j name f in
      r.names_apart i j n.owner k.owner n.at k.at (n.is ∙ sym k.is);
}

-- a list of names that grows by the name of one more module
pub names_more : (ms : List ModulePlan) (i : ℕ) (m : ModulePlan) (xs ys : List (List ℕ)) (name : List ℕ) → slice_get ms i ≡ Some m
    → xs ≡ names_of (take i ms)
    → name ≡ m.name → ys ≡ xs ++ name ∷ [] → ys ≡ names_of (take (i + 1) ms)
names_more ms i m xs ys name at so_far same push =
    let within = slice_get_within ms i m at in
    let more : take (i + 1) ms ≡ take i ms ++ m ∷ [] = take_more ms i m within
    ∙ ap (λ (y : ModulePlan). take i ms ++ y ∷ []) (get_or_from_slice_get ms i m m at) in
    push ∙ ap (λ zs. zs ++ name ∷ []) so_far ∙ ap (λ z. names_of (take i ms) ++ z ∷ []) same
    ∙ sym (map-append (λ (m : ModulePlan). m.name) (take i ms) (m ∷ []))
    ∙ ap names_of (sym more)

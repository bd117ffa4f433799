-- A change of rights by an array, and by a function of the domains.
use Rattle.std.proofs.Common.{◌≡◌, ℕ, ◌+◌, ◌<◌, ◌≤◌, List, [], ◌∷◌, length, refl, ap, ◌∙◌, arith, Bool, true, false, not, ◌↔◌, Option, Some}
use Rattle.std.proofs.Common.{None, Result, Ok, Err, is_ok}
use Rattle.std.specs.Prelude.{IfSome, IsTrue, IsFalse, OnOk, OnErr}
use Rattle.mx_words.specs.declared.perm.Perm.{Perm}
use Rattle.mx_words.specs.Changes.{changed_map, changed_from, changed_maps}
use Rattle.mx_table.specs.declared.change.Change.{Change}
use Rattle.mx_table.specs.Change.{given, changed}
use Rattle.mx_check.specs.declared.flight.Flight.{Flight}
use Rattle.mx_check.specs.Conditions.{IsInside, MayChange}
use Rattle.mx_check.specs.Harts.{kept_at}
use Rattle.mx_model.specs.declared.values.Call.{Call}
use Rattle.mx_supervisor.specs.Parts.{Parts}
use Rattle.mx_supervisor.specs.Rights.{Gives}
use Rattle.mx_supervisor.specs.Served.{IsIn, range_of, HasAnnounced}

from-agree : (first count : ℕ) (f g : ℕ → Option Perm) (d : ℕ) (maps : List (List Perm))
    → ((i : ℕ) → d ≤ i → i < d + length maps → f i ≡ g i) →
    changed_from first count f d maps ≡ changed_from first count g d maps
from-agree first count f g d [] agree = refl
from-agree first count f g d (m ∷ ms) agree =
    ap (λ o. changed_map first count o m ∷ changed_from first count f (d + 1) ms) (agree d (omega arith) (omega arith))
    ∙ ap (λ (x : List (List Perm)). changed_map first count (g d) m ∷ x)
    (from-agree first count f g (d + 1) ms (λ i low high. agree i (omega arith) (omega arith)))

-- functions that agree on the modules change the maps alike
pub maps-agree : (first count : ℕ) (f g : ℕ → Option Perm) (maps : List (List Perm)) → ((i : ℕ) → 1 ≤ i → i ≤ length maps → f i ≡ g i) →
    changed_maps first count f maps ≡ changed_maps first count g maps
maps-agree first count f g maps agree = from-agree first count f g 1 maps (λ i low high. agree i low (omega arith))

-- the maps after a change that gives each module what a function says
pub changed-as : (c : Change) (first count : ℕ) (f : ℕ → Option Perm) (maps : List (List Perm)) → Gives c first count (length maps) f →
    changed c maps ≡ changed_maps first count f maps
changed-as c first count f maps gives =
    ap (λ n. changed_maps n c.count (given c) maps) gives.first
    ∙ ap (λ n. changed_maps first n (given c) maps) gives.count
    ∙ maps-agree first count (given c) f maps gives.given

-- a change inside the range of an announced call may be made
inside-of : (o : Option Flight) (r : ℕ × ℕ) (c : Change) → IfSome o (λ f. (f.first ≡ r.0) × (f.count ≡ r.1)) → IsIn c.first c.count r
    → IfSome o (IsInside c)
inside-of None r c e p = tt
inside-of (Some f) r c e p = let a = e.0 in let b = e.1 in let x = p.0 in let y = p.1 in (omega (arith, a, x), omega (arith, a, b, y))

pub may-change : (p : Parts) (call : Call) (c : Change) → HasAnnounced p call → IsIn c.first c.count (range_of p call)
    → MayChange call.hart c p.harts
may-change p call c announced inside = record {
  hart = announced.hart;
  ready = announced.ready;
  inside = inside-of (kept_at p.harts call.hart).flight (range_of p call) c announced.range inside;
}

-- what a refused and a done change tell
pub fits-as : (err f r : Bool) → err ≡ not r → (IsTrue err ↔ IsFalse f) → f ≡ r
fits-as err true true e t = refl
fits-as err false false e t = refl
fits-as err true false e t = absurd (let h : true ≡ false = t.0 e in let q : ⊥ = cc in q)
fits-as err false true e t = absurd (let h : err ≡ true = t.1 refl in let q : ⊥ = cc (h, e) in q)

pub on-ok : {A E P : Type 0} (r : Result A E) (b : Bool) → b ≡ is_ok r → b ≡ true → OnOk r P → P
on-ok (Ok x) b e t p = p
on-ok (Err x) b e t p = absurd (let q : ⊥ = cc (e, t) in q)

pub on-err : {A E P : Type 0} (r : Result A E) (b : Bool) → b ≡ is_ok r → b ≡ false → OnErr r P → P
on-err (Err x) b e t p = p
on-err (Ok x) b e t p = absurd (let q : ⊥ = cc (e, t) in q)

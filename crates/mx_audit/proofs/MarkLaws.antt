-- Marks of domains: one more is marked, a pass over frames or gates goes on, and nothing is left to mark.
use Rattle.std.proofs.Common.{◌≡◌, ℕ, zero, suc, ◌+◌, ◌<◌, ◌≤◌, ◌⊎◌, inl, inr, Bool, true, false, not, cond, List, [], ◌∷◌, length, get_or}
use Rattle.std.proofs.Common.{set, take, replicate, slice_get, Some, None, refl, sym, ap, ◌∙◌, subst, arith, IsTrue}
use Rattle.std.specs.List.{AllByRecursion, Contains}
use Rattle.std.proofs.lemmas.List.Sums.{sum_by-set}
use Rattle.std.proofs.lemmas.List.{get_or-set_same, get_or_default, length-set}
use Rattle.std.proofs.lemmas.Option.{get_or_from_slice_get, slice_get_within}
use Rattle.mx_model.specs.declared.values.Frame.{Frame}
use Rattle.mx_model.specs.declared.values.Gate.{Gate}
use Rattle.mx_model.specs.State.{Core, Hart, hart_at, no_hart}
use Rattle.mx_model.specs.Valid.{IsFrame, IsGate, IsModule, IsValid}
use Rattle.mx_audit.specs.Live.{IsLive, HasHart, HasFrame, IsTarget}
use Rattle.mx_audit.specs.Marks.{is_marked, unmarked, MarkLive, MarkOnlyLive, MarkHart, MarkHarts, MarkTargets, KeepMarks}
use Rattle.mx_audit.proofs.LiveLaws.{IsHome, live-least}
use Rattle.mx_model.proofs.JoinLaws.{all-weaker}
use Rattle.mx_model.proofs.ListLaws.{all-in}

-- at first nothing is marked
none-marked : (n d : ℕ) → is_marked (replicate n false) d ≡ false
none-marked zero d = refl
none-marked (suc n) zero = refl
none-marked (suc n) (suc d) = none-marked n d

pub none-only : (c : Core) (n : ℕ) → MarkOnlyLive c (replicate n false)
none-only c n d p = absurd (let e = none-marked n d in let q : ⊥ = cc in q)

-- one more is marked
pub marked-same : (marks : List Bool) (d : ℕ) → d < length marks → is_marked (set marks d true) d ≡ true
marked-same marks d l = get_or-set_same marks d true false l

pub marked-more : (marks : List Bool) (d e : ℕ) → IsTrue (is_marked marks e) → IsTrue (is_marked (set marks d true) e)
marked-more [] d e p = p
marked-more (m ∷ ms) zero zero p = refl
marked-more (m ∷ ms) zero (suc e) p = p
marked-more (m ∷ ms) (suc d) zero p = p
marked-more (m ∷ ms) (suc d) (suc e) p = marked-more ms d e p

marked-from : (marks : List Bool) (d e : ℕ) → IsTrue (is_marked (set marks d true) e) → (e ≡ d) ⊎ IsTrue (is_marked marks e)
marked-from [] d e p = inr p
marked-from (m ∷ ms) zero zero p = inl refl
marked-from (m ∷ ms) zero (suc e) p = inr p
marked-from (m ∷ ms) (suc d) zero p = inr p
marked-from (m ∷ ms) (suc d) (suc e) p = elim (marked-from ms d e p) [
  | inl q ↦ inl (ap suc q)
  | inr q ↦ inr q
]

pub only-more : (c : Core) (marks : List Bool) (d : ℕ) → MarkOnlyLive c marks → IsLive c d → MarkOnlyLive c (set marks d true)
only-more c marks d p l e m = elim (marked-from marks d e m) [
  | inl q ↦ subst (IsLive c) (sym q) l
  | inr q ↦ p e q
]

abbrev weight : Bool → ℕ
weight b = cond (not b) 1 0

pub fewer-unmarked : (marks : List Bool) (d : ℕ) → d < length marks → is_marked marks d ≡ false
    → unmarked (set marks d true) < unmarked marks
fewer-unmarked marks d l e = let before : weight (is_marked marks d) ≡ 1 = ap weight e in
    omega (arith, before, sum_by-set weight marks d true false l)

-- what holds of the elements up to a place, one place on and at the end
all-suc : {X : Type 0} (P : X → Type 0) (xs : List X) (i : ℕ) (x : X) → slice_get xs i ≡ Some x → AllByRecursion P (take i xs) → P x
    → AllByRecursion P (take (suc i) xs)
all-suc P [] i x e h p = tt
all-suc P (y ∷ ys) zero x e h p = (let same : x ≡ y = cc in subst P same p, tt)
all-suc P (y ∷ ys) (suc i) x e h p = (h.0, all-suc P ys i x e h.1 p)

pub all-next : {X : Type 0} (P : X → Type 0) (xs : List X) (i : ℕ) (x : X) → slice_get xs i ≡ Some x → AllByRecursion P (take i xs) → P x
    → AllByRecursion P (take (i + 1) xs)
all-next P xs i x e h p = let next : suc i ≡ i + 1 = omega arith in subst (λ n. AllByRecursion P (take n xs)) next (all-suc P xs i x e h p)

pub all-end : {X : Type 0} (P : X → Type 0) (xs : List X) (i : ℕ) → slice_get xs i ≡ None → AllByRecursion P (take i xs)
    → AllByRecursion P xs
all-end P [] i e h = tt
all-end P (y ∷ ys) zero e h = absurd (let q : ⊥ = cc in q)
all-end P (y ∷ ys) (suc i) e h = (h.0, all-end P ys i e h.1)

-- what holds of each element, of the one at a place
all-got : {X : Type 0} (P : X → Type 0) (xs : List X) (i : ℕ) (x : X) → slice_get xs i ≡ Some x → AllByRecursion P xs → P x
all-got P xs i x e h = subst P (get_or_from_slice_get xs i x x e) (all-in P xs x h i (slice_get_within xs i x e))

-- the domain of a hart, the caller of a frame and the target of a gate: numbers of modules, and live
small : (c : Core) (d : ℕ) → IsValid c → IsModule (length c.modules) d → d < 64
small c d v m = let last = m.last in let few = v.few_modules in omega arith

pub hart-small : (c : Core) (h : ℕ) → IsValid c → h < length c.harts → (hart_at c h).domain < 64
hart-small c h v l = small c (hart_at c h).domain v (v.harts h l).domain

pub frame-small : (c : Core) (h i : ℕ) (f : Frame) → IsValid c → h < length c.harts → slice_get (hart_at c h).frames i ≡ Some f
    → f.caller < 64
frame-small c h i f v l e = small c f.caller v (all-got (IsFrame (length c.modules)) (hart_at c h).frames i f e (v.harts h l).frames).caller

pub gate-small : (c : Core) (i : ℕ) (g : Gate) → IsValid c → slice_get c.gates i ≡ Some g → g.target < 64
gate-small c i g v e = small c g.target v (all-got (IsGate (length c.modules) c.size) c.gates i g e v.gates).target

has-hart : (c : Core) (h : ℕ) → h < length c.harts → Contains c.harts (hart_at c h)
has-hart c h l = (h, l, get_or_default c.harts h (hart_at c h) no_hart l)

contains-at : {X : Type 0} (xs : List X) (i : ℕ) (x : X) → slice_get xs i ≡ Some x → Contains xs x
contains-at xs i x e = (i, slice_get_within xs i x e, get_or_from_slice_get xs i x x e)

pub hart-live : (c : Core) (h : ℕ) → h < length c.harts → IsLive c (hart_at c h).domain
hart-live c h l = HasHart (hart_at c h) (has-hart c h l)

pub frame-live : (c : Core) (h i : ℕ) (f : Frame) → h < length c.harts → slice_get (hart_at c h).frames i ≡ Some f → IsLive c f.caller
frame-live c h i f l e = HasFrame (hart_at c h) (has-hart c h l) f (contains-at (hart_at c h).frames i f e)

pub gate-live : (c : Core) (i : ℕ) (g : Gate) → slice_get c.gates i ≡ Some g → IsLive c g.domain → IsLive c g.target
gate-live c i g e l = IsTarget g (contains-at c.gates i g e) l

-- a pass over the gates, up to a place of the list
pub record Pass (c : Core) (i : ℕ) (before marks : List Bool) (more : Bool) : Type 0 where
  pub long : length marks ≡ 64
  pub within : i ≤ length c.gates
  pub only : MarkOnlyLive c marks
  pub kept : KeepMarks before marks
  pub fewer : unmarked marks ≤ unmarked before
  pub some : more ≡ true → unmarked marks < unmarked before
  pub all : more ≡ false → AllByRecursion (λ (g : Gate). IsTrue (is_marked marks g.domain)
      → IsTrue (is_marked marks g.target)) (take i c.gates)

-- the gate at the place leads on
pub pass-mark : (c : Core) (i : ℕ) (before marks : List Bool) (m : Bool) (g : Gate) → IsValid c → Pass c i before marks m
    → slice_get c.gates i ≡ Some g →
    IsTrue (is_marked marks g.domain) → is_marked marks g.target ≡ false → Pass c (i + 1) before (set marks g.target true) true
pass-mark c i before marks m g v p e d t =
    let inside = slice_get_within c.gates i g e in
    let low = gate-small c i g v e in
    let long = p.long in
    let fewer = p.fewer in
    let less = fewer-unmarked marks g.target (omega arith) t in
    record {
      long = length-set marks g.target true ∙ long;
      within = omega arith;
      only = only-more c marks g.target p.only (gate-live c i g e (p.only g.domain d));
      kept = λ x q. marked-more marks g.target x (p.kept x q);
      fewer = omega arith;
      some = λ q. omega arith;
      all = λ q. absurd (let z : ⊥ = cc in z);
    }

-- it doesn't, or its target is marked already
pub pass-skip : (c : Core) (i : ℕ) (before marks : List Bool) (m : Bool) (g : Gate) → Pass c i before marks m
    → slice_get c.gates i ≡ Some g →
    (IsTrue (is_marked marks g.domain) → IsTrue (is_marked marks g.target)) → Pass c (i + 1) before marks m
pass-skip c i before marks m g p e t =
    let inside = slice_get_within c.gates i g e in
    record {
      long = p.long;
      within = omega arith;
      only = p.only;
      kept = p.kept;
      fewer = p.fewer;
      some = p.some;
      all = λ q. all-next (λ (x : Gate). IsTrue (is_marked marks x.domain) → IsTrue (is_marked marks x.target)) c.gates i g e (p.all q) t;
    }

all-placed : {X : Type 0} (P : X → Type 0) (xs : List X) (d : X) → ((i : ℕ) → i < length xs → P (get_or xs i d)) → AllByRecursion P xs
all-placed P [] d h = tt
all-placed P (x ∷ xs) d h = (h zero (omega arith), all-placed P xs d (λ i l. h (suc i) (omega arith)))

-- what is marked of a hart is marked still
pub hart-kept : (marks more : List Bool) (hart : Hart) → KeepMarks marks more → MarkHart marks hart → MarkHart more hart
hart-kept marks more hart k h = record {
  domain = k hart.domain h.domain;
  frames = all-weaker (λ (f : Frame). IsTrue (is_marked marks f.caller)) (λ (f : Frame). IsTrue (is_marked more f.caller)) hart.frames
      (λ f p. k f.caller p) h.frames;
}

-- with harts and targets marked just the live domains are
pub marks-live : (c : Core) (marks : List Bool) → MarkOnlyLive c marks → MarkHarts c marks → MarkTargets c marks → MarkLive c marks
marks-live c marks only harts targets d = (
  only d,
  live-least (λ e. IsTrue (is_marked marks e)) c d (record {
    harts = all-placed (IsHome (λ e. IsTrue (is_marked marks e))) c.harts no_hart (λ h l. ((harts h l).domain, (harts h l).frames));
    gates = targets;
  }),
)

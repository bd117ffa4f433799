-- The domains that the rounds give are just the live ones, and a word passes the test by rounds where it is sealed.
use Rattle.std.proofs.Common.{◌≡◌, ℕ, zero, suc, ◌≤◌, ◌↔◌, Bool, true, false, not, cond, nat_lt, ◌==◌, ◌&&◌, ◌||◌, List, [], ◌∷◌, ◌++◌}
use Rattle.std.proofs.Common.{length, refl, sym, ◌∙◌, ap, subst, arith, eqb-true, IsTrue, inl, inr}
use Rattle.std.proofs.Common.{map as list_map}
use Rattle.std.specs.List.{AllByRecursion, Contains, list_all, list_any, flat_map}
use Rattle.std.proofs.lemmas.Bool.{ltb-true, lt-ltb, or_right, and_from, both_ways, not-true, not_from_false, false_from_ne_true, and_parts}
use Rattle.std.proofs.lemmas.Bool.Decides.{eqb_tells}
use Rattle.std.proofs.lemmas.List.{append-nil}
use Rattle.mx_words.specs.declared.perm.Perm.{Perm}
use Rattle.mx_words.specs.declared.perm.Perm.TheVariants as P
use Rattle.mx_words.specs.Rights.{same}
use Rattle.mx_words.proofs.ElementLaws.{all_pass, each_passes}
use Rattle.mx_model.specs.declared.values.Frame.{Frame}
use Rattle.mx_model.specs.declared.values.Gate.{Gate}
use Rattle.mx_model.specs.Reads.{Reads}
use Rattle.mx_model.specs.State.{Core, Hart}
use Rattle.mx_model.proofs.JoinLaws.{all-weaker, all-join, all-first, all-second}
use Rattle.mx_model.proofs.ListLaws.{all-in, all-filter, length-filter-lt}
use Rattle.mx_audit.specs.Live.{IsLive, HasHart, HasFrame, IsTarget, is_in, domains_of, passed, not_passed, rounds, live}
use Rattle.mx_audit.specs.Sealed.{IsSealed, is_sealed}

-- a set of domains closed under harts, frames' callers and gates
abbrev pub IsHome : (ℕ → Type 0) → Hart → Type 0
IsHome L hart = L hart.domain × AllByRecursion (λ (f : Frame). L f.caller) hart.frames

abbrev pub Leads : (ℕ → Type 0) → Gate → Type 0
Leads L gate = L gate.domain → L gate.target

pub record IsClosed (L : ℕ → Type 0) (c : Core) : Type 0 where
  pub harts : AllByRecursion (IsHome L) c.harts
  pub gates : AllByRecursion (Leads L) c.gates

-- what holds of all elements, by membership
pub all-contains : {X : Type 0} (P : X → Type 0) (xs : List X) (x : X) → AllByRecursion P xs → Contains xs x → P x
all-contains P xs x h k = subst P k.2 (all-in P xs x h k.0 k.1)

pub all-each : {X : Type 0} (P : X → Type 0) (xs : List X) → ((x : X) → Contains xs x → P x) → AllByRecursion P xs
all-each P [] h = tt
all-each P (x ∷ xs) h = (h x (zero, omega arith, refl), all-each P xs (λ y k. h y (suc k.0, (let l = k.1 in omega (arith, l)), k.2)))

-- a closed set holds each live domain
pub live-least : (L : ℕ → Type 0) (c : Core) (d : ℕ) → IsClosed L c → IsLive c d → L d
live-least L c d p (HasHart hart k) = (all-contains (IsHome L) c.harts hart p.harts k).0
live-least L c d p (HasFrame hart k frame l) =
    all-contains (λ (f : Frame). L f.caller) hart.frames frame (all-contains (IsHome L) c.harts hart p.harts k).1 l
live-least L c d p (IsTarget gate k l) = all-contains (Leads L) c.gates gate p.gates k (live-least L c gate.domain p l)

-- the live domains are closed
pub live-closed : (c : Core) → IsClosed (IsLive c) c
live-closed c = record {
  harts = all-each (IsHome (IsLive c)) c.harts (λ hart k. (
    HasHart hart k,
    all-each (λ (f : Frame). IsLive c f.caller) hart.frames
        (λ frame l. HasFrame hart k frame l),
  ));
  gates = all-each (Leads (IsLive c)) c.gates (λ gate k l. IsTarget gate k l);
}

-- a list of domains as a set
abbrev In : List ℕ → ℕ → Type 0
In xs d = is_in xs d ≡ true

in-head : (x : ℕ) (xs : List ℕ) → In (x ∷ xs) x
in-head x xs = elim (eqb_tells x x) [ inl t ↦ ap (λ b. b || is_in xs x) t.0 | inr f ↦ absurd (f.1 refl) ]

in-tail : (x : ℕ) (xs : List ℕ) (d : ℕ) → In xs d → In (x ∷ xs) d
in-tail x xs d p = or_right (x == d) (is_in xs d) p

in-left : (xs ys : List ℕ) (d : ℕ) → In xs d → In (xs ++ ys) d
in-left [] ys d p = absurd (let q : ⊥ = cc in q)
in-left (x ∷ xs) ys d p = elim (x == d) as (λ b. (b || is_in xs d) ≡ true → (b || is_in (xs ++ ys) d) ≡ true) [
  | true ↦ λ q. refl
  | false ↦ λ q. in-left xs ys d q
] p

in-right : (xs ys : List ℕ) (d : ℕ) → In ys d → In (xs ++ ys) d
in-right [] ys d p = p
in-right (x ∷ xs) ys d p = in-tail x (xs ++ ys) d (in-right xs ys d p)

in-all : (P : ℕ → Type 0) (xs : List ℕ) (d : ℕ) → AllByRecursion P xs → In xs d → P d
in-all P [] d h p = absurd (let q : ⊥ = cc in q)
in-all P (x ∷ xs) d h p = elim (x == d) as (λ b. (x == d) ≡ b → (b || is_in xs d) ≡ true → P d) [
  | true ↦ λ e q. subst P (eqb-true x d e) h.0
  | false ↦ λ e q. in-all P xs d h.1 q
] refl p

-- all elements of a map and of a flat map
all-callers : (P : ℕ → Type 0) (fs : List Frame) → AllByRecursion (λ (f : Frame). P f.caller) fs
    → AllByRecursion P (list_map (λ (f : Frame). f.caller) fs)
all-callers P [] h = tt
all-callers P (f ∷ fs) h = (h.0, all-callers P fs h.1)

all-domains : (P : ℕ → Type 0) (hs : List Hart) → AllByRecursion (IsHome P) hs → AllByRecursion P (flat_map domains_of hs)
all-domains P [] h = tt
all-domains P (x ∷ xs) h =
    all-join P (domains_of x) (flat_map domains_of xs) (h.0.0, all-callers P x.frames h.0.1) (all-domains P xs h.1)

-- each domain that a round gives is in a closed set
all-targets : (P : ℕ → Type 0) (live : List ℕ) (gates : List Gate) → AllByRecursion (Leads P) gates → AllByRecursion P live →
    AllByRecursion P (list_map (λ (gate : Gate). gate.target) (passed live gates))
all-targets P live [] h p = tt
all-targets P live (g ∷ gs) h p = elim (is_in live g.domain) as
    (λ b. is_in live g.domain ≡ b → AllByRecursion P (list_map (λ (gate : Gate). gate.target)
    (cond b (g ∷ passed live gs) (passed live gs)))) [
      | true ↦ λ e. (h.0 (in-all P live g.domain p e), all-targets P live gs h.1 p)
      | false ↦ λ e. all-targets P live gs h.1 p
    ] refl

all-not_passed : (Q : Gate → Type 0) (live : List ℕ) (gates : List Gate) → AllByRecursion Q gates → AllByRecursion Q (not_passed live gates)
all-not_passed Q live gates h = all-filter Q (λ (gate : Gate). not (is_in live gate.domain)) gates h

all-rounds : (P : ℕ → Type 0) (n : ℕ) (gates : List Gate) (live : List ℕ) → AllByRecursion (Leads P) gates → AllByRecursion P live →
    AllByRecursion P (rounds n gates live)
all-rounds P zero gates live h p = p
all-rounds P (suc n) gates live h p =
    all-rounds P n (not_passed live gates) (live ++ list_map (λ (gate : Gate). gate.target) (passed live gates))
    (all-not_passed (Leads P) live gates h)
    (all-join P live (list_map (λ (gate : Gate). gate.target) (passed live gates)) p (all-targets P live gates h p))

-- the rounds keep what is live
in-rounds : (n : ℕ) (gates : List Gate) (live : List ℕ) (d : ℕ) → In live d → In (rounds n gates live) d
in-rounds zero gates live d p = p
in-rounds (suc n) gates live d p =
    in-rounds n (not_passed live gates) (live ++ list_map (λ (gate : Gate). gate.target) (passed live gates)) d
    (in-left live (list_map (λ (gate : Gate). gate.target) (passed live gates)) d p)

-- where no gate is of a live domain, all rounds leave the live domains as they are
abbrev is_passed : List ℕ → Gate → Bool
is_passed live gate = is_in live gate.domain

none-passed : (live : List ℕ) (gates : List Gate) → list_any (is_passed live) gates ≡ false
    → (passed live gates ≡ []) × (not_passed live gates ≡ gates)
none-passed live [] e = (refl, refl)
none-passed live (g ∷ gs) e = elim (is_in live g.domain) as
    (λ b. (b || list_any (is_passed live) gs) ≡ false →
    (cond b (g ∷ passed live gs) (passed live gs) ≡ []) × (cond (not b) (g ∷ not_passed live gs) (not_passed live gs) ≡ g ∷ gs)) [
      | true ↦ λ f. absurd (let q : ⊥ = cc in q)
      | false ↦ λ f. let p = none-passed live gs f in (p.0, ap (λ xs. g ∷ xs) p.1)
    ] e

rounds-stay : (n : ℕ) (gates : List Gate) (live : List ℕ) → list_any (is_passed live) gates ≡ false → rounds n gates live ≡ live
rounds-stay zero gates live e = refl
rounds-stay (suc n) gates live e =
    let p = none-passed live gates e in
    ap (λ gs. rounds n gs (live ++ list_map (λ (gate : Gate). gate.target) (passed live gates))) p.1
    ∙ ap (λ gs. rounds n gates (live ++ list_map (λ (gate : Gate). gate.target) gs)) p.0
    ∙ ap (rounds n gates) (append-nil live) ∙ rounds-stay n gates live e

none-leads : (live : List ℕ) (gates : List Gate) → list_any (is_passed live) gates ≡ false → AllByRecursion (Leads (In live)) gates
none-leads live [] e = tt
none-leads live (g ∷ gs) e = elim (is_in live g.domain) as
    (λ b. is_in live g.domain ≡ b → (b || list_any (is_passed live) gs) ≡ false → AllByRecursion (Leads (In live)) (g ∷ gs)) [
      | true ↦ λ t f. absurd (let q : ⊥ = cc in q)
      | false ↦ λ t f. ((λ k. absurd (let q : ⊥ = cc in q)), none-leads live gs f)
    ] refl e

-- the gates of a round and the others
leads-split : (R live : List ℕ) (gates : List Gate) → AllByRecursion (In R) (list_map (λ (gate : Gate). gate.target) (passed live gates)) →
    AllByRecursion (Leads (In R)) (not_passed live gates) → AllByRecursion (Leads (In R)) gates
leads-split R live [] p q = tt
leads-split R live (g ∷ gs) p q = elim (is_in live g.domain) as
    (λ b. AllByRecursion (In R) (list_map (λ (gate : Gate). gate.target) (cond b (g ∷ passed live gs) (passed live gs))) →
    AllByRecursion (Leads (In R)) (cond (not b) (g ∷ not_passed live gs) (not_passed live gs)) → AllByRecursion (Leads (In R)) (g ∷ gs)) [
      | true ↦ λ s t. ((λ k. s.0), leads-split R live gs s.1 t)
      | false ↦ λ s t. (t.0, leads-split R live gs s t.1)
    ] p q

all-into : (R xs : List ℕ) → ((d : ℕ) → In xs d → In R d) → AllByRecursion (In R) xs
all-into R [] h = tt
all-into R (x ∷ xs) h = (h x (in-head x xs), all-into R xs (λ d p. h d (in-tail x xs d p)))

-- as many rounds as there are gates are enough
rounds-lead : (n : ℕ) (gates : List Gate) (live : List ℕ) → length gates ≤ n → AllByRecursion (Leads (In (rounds n gates live))) gates
rounds-lead zero [] live l = tt
rounds-lead zero (g ∷ gs) live l = absurd (let q : ⊥ = omega (arith, l) in q)
rounds-lead (suc n) gates live l = elim (list_any (is_passed live) gates) as
    (λ b. list_any (is_passed live) gates ≡ b → AllByRecursion (Leads (In (rounds (suc n) gates live))) gates) [
      | true ↦ λ e.
          let targets = list_map (λ (gate : Gate). gate.target) (passed live gates) in
          let fewer = length-filter-lt (is_passed live) gates e in
          leads-split (rounds (suc n) gates live) live gates
          (all-into (rounds (suc n) gates live) targets (λ d p.
          in-rounds n (not_passed live gates) (live ++ targets) d (in-right live targets d p)))
          (rounds-lead n (not_passed live gates) (live ++ targets) (omega (arith, fewer, l)))
      | false ↦ λ e. subst (λ (xs : List ℕ). AllByRecursion (Leads (In xs)) gates) (sym (rounds-stay (suc n) gates live e))
          (none-leads live gates e)
    ] refl

-- the domains with which the rounds begin
callers-of : (P : ℕ → Type 0) (fs : List Frame) → AllByRecursion P (list_map (λ (f : Frame). f.caller) fs)
    → AllByRecursion (λ (f : Frame). P f.caller) fs
callers-of P [] h = tt
callers-of P (f ∷ fs) h = (h.0, callers-of P fs h.1)

homes-of : (P : ℕ → Type 0) (hs : List Hart) → AllByRecursion P (flat_map domains_of hs) → AllByRecursion (IsHome P) hs
homes-of P [] h = tt
homes-of P (x ∷ xs) h =
    let own = all-first P (domains_of x) (flat_map domains_of xs) h in
    ((own.0, callers-of P x.frames own.1), homes-of P xs (all-second P (domains_of x) (flat_map domains_of xs) h))

rounds-closed : (c : Core) → IsClosed (In (live c)) c
rounds-closed c = record {
  harts = homes-of (In (live c)) c.harts (all-into (live c) (flat_map domains_of c.harts)
      (in-rounds (length c.gates) c.gates (flat_map domains_of c.harts)));
  gates = rounds-lead (length c.gates) c.gates (flat_map domains_of c.harts) (omega arith);
}

-- the domains that the rounds give are just the live ones
rounds-live : (c : Core) → AllByRecursion (IsLive c) (live c)
rounds-live c =
    all-rounds (IsLive c) (length c.gates) c.gates (flat_map domains_of c.harts) (live-closed c).gates
    (all-domains (IsLive c) c.harts (live-closed c).harts)

pub live-rounds : (c : Core) (d : ℕ) → IsTrue (is_in (live c) d) ↔ IsLive c d
live-rounds c d = (in-all (IsLive c) (live c) d (rounds-live c), live-least (In (live c)) c d (rounds-closed c))

pub same-is : (p : Perm) → same p P.ReadWrite ≡ true → p ≡ P.ReadWrite
same-is P.None e = absurd (let q : ⊥ = cc in q)
same-is P.Read e = absurd (let q : ⊥ = cc in q)
same-is P.ReadWrite e = refl
same-is P.ExecuteRead e = absurd (let q : ⊥ = cc in q)

abbrev is_kept : Reads → ℕ → ℕ → Bool
is_kept r word d = not (same (r.perm d word) P.ReadWrite)

-- a word that passes the test by rounds is sealed, and a sealed one passes
from-rounds : (r : Reads) (c : Core) (word : ℕ) → IsTrue (is_sealed r c word) → IsSealed r c word
from-rounds r c word e =
    let owned = not (is_in (live c) (r.owner word)) in
    let kept = list_all (is_kept r word) (live c) in
    let p = and_parts (nat_lt word c.size && owned) kept e in
    let q = and_parts (nat_lt word c.size) owned p.0 in
    record {
      in_ram = ltb-true word c.size q.0;
      owner = λ k. both_ways (is_in (live c) (r.owner word)) (not-true (is_in (live c) (r.owner word)) q.1)
          ((live-rounds c (r.owner word)).1 k);
      rights = λ d k w. both_ways (same (r.perm d word) P.ReadWrite) (not-true (same (r.perm d word) P.ReadWrite)
          (in-all (λ x. is_kept r word x ≡ true) (live c) d (each_passes (is_kept r word) (live c) p.1) ((live-rounds c d).1 k)))
          (ap (λ x. same x P.ReadWrite) w);
    }

to-rounds : (r : Reads) (c : Core) (word : ℕ) → IsSealed r c word → IsTrue (is_sealed r c word)
to-rounds r c word s =
    let owner_live = is_in (live c) (r.owner word) in
    let owned = not owner_live in
    let kept = list_all (is_kept r word) (live c) in
    and_from (nat_lt word c.size && owned) kept
    (and_from (nat_lt word c.size) owned (lt-ltb word c.size s.in_ram)
    (not_from_false owner_live (false_from_ne_true owner_live (λ k. s.owner ((live-rounds c (r.owner word)).0 k)))))
    (all_pass (is_kept r word) (live c) (all-weaker (IsLive c) (λ x. is_kept r word x ≡ true) (live c)
    (λ d k. not_from_false (same (r.perm d word) P.ReadWrite)
    (false_from_ne_true (same (r.perm d word) P.ReadWrite) (λ w. s.rights d k (same-is (r.perm d word) w)))) (rounds-live c)))

pub sealed-rounds : (r : Reads) (c : Core) (word : ℕ) → IsTrue (is_sealed r c word) ↔ IsSealed r c word
sealed-rounds r c word = (from-rounds r c word, to-rounds r c word)

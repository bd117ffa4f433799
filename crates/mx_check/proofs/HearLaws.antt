-- Coherence and hearing: a hart drops its spans on a call's range first, and counts as having heard it then.
use Rattle.std.proofs.Common.{◌≡◌, ◌≢◌, ℕ, zero, suc, ◌<◌, ◌≤◌, ◌⊎◌, inl, inr, ◌==◌, Bool, true, false, cond, List, length, Option, Some}
use Rattle.std.proofs.Common.{None, refl, sym, ap, subst, ◌∙◌, arith, get_or-set_same, get_or-set_other, length-set, eq-eqb}
use Rattle.std.specs.Prelude.{IfSome}
use Rattle.std.specs.Option.{option_map}
use Rattle.std.proofs.lemmas.Bool.{cases_eq, cases_lt, ne_eqb}
use Rattle.std.proofs.lemmas.List.{get_or_past}
use Rattle.mx_words.specs.declared.perm.Perm.{Perm}
use Rattle.mx_words.specs.declared.perm.Span.{Span}
use Rattle.mx_words.specs.Caches.{without_range}
use Rattle.mx_check.specs.declared.flight.Flight.{Flight}
use Rattle.mx_words.specs.Hearing.{is_in}
use Rattle.mx_words.specs.KeptSpans.{IsClear}
use Rattle.mx_check.specs.Harts.{Kept, nothing_kept, kept_at, at_hart, marked, heard_by, drops_range}
use Rattle.mx_check.specs.Calls.{unheard_of, unheard, hears_range, hears_one, hears_first, hears}
use Rattle.mx_check.specs.Flights.{AreHearers, IsHeardByOthers}
use Rattle.mx_check.specs.Coherence.{AgreesWithMap, HasDropped, Keeps}
use Rattle.mx_check.specs.Conditions.{HasHeardAll, SameButCaches}
use Rattle.mx_check.proofs.LookLaws.{length-at_hart, kept_at-same, kept_at-other}
use Rattle.mx_words.proofs.SpanLaws.{each_clear}
use Rattle.mx_check.proofs.KeepLaws.{keeps_step, current_weaker, drop-keeps}

-- a fact of the value that an option is known to hold
some_is : {A : Type 0} (P : A → Type 0) (o : Option A) (x : A) → o ≡ Some x → IfSome o P → P x
some_is P o x e p = let F : Option _ → Type 0 = λ o. IfSome o P in subst F e p

some_has : {A : Type 0} (P : A → Type 0) (o : Option A) (x : A) → o ≡ Some x → P x → IfSome o P
some_has P o x e p = let F : Option _ → Type 0 = λ o. IfSome o P in subst F (sym e) p

-- who has heard a call, after hart h has
marked-other : (h j : ℕ) (f : Flight) → j ≢ h → is_in (marked h f).heard j ≡ is_in f.heard j
marked-other h j f ne = get_or-set_other f.heard h j true false ne

marked-same : (h : ℕ) (f : Flight) → h < length f.heard → is_in (marked h f).heard h ≡ true
marked-same h f lt = get_or-set_same f.heard h true false lt

-- the exemption of a call is the same whoever has heard it
marked-agrees : (h : ℕ) (own : Option Flight) (m : List Perm) (s : Span) → AgreesWithMap m own s
    → AgreesWithMap m (option_map (marked h) own) s
marked-agrees h None m s a = a
marked-agrees h (Some f) m s a = record { at = λ word inside spared. a.at word inside spared }

marked-others : (n i h : ℕ) (f : Flight) → h < n → h ≢ i → IsHeardByOthers n i f → IsHeardByOthers n i (marked h f)
marked-others n i h f there apart others j hit = by (cases_eq j h)
  where
    by : (j ≡ h) ⊎ (j ≢ h) → (j < n) × (j ≢ i)
    by (inl e) = (subst (λ k. k < n) (sym e) there, λ x. apart (sym e ∙ x))
    by (inr ne) = others j (sym (marked-other h j f ne) ∙ hit)

marked-hearers : (n i h : ℕ) (own : Option Flight) → h < n → h ≢ i → IfSome own (AreHearers n i)
    → IfSome (option_map (marked h) own) (AreHearers n i)
marked-hearers n i h None there apart p = tt
marked-hearers n i h (Some f) there apart p =
    record { places = length-set f.heard h true ∙ p.places; others = marked-others n i h f there apart p.others }

-- hart h has heard the call of hart i, of whose range it keeps no span
module _ (maps : List (List Perm)) (harts : List Kept) (h i : ℕ) (f : Flight) (keeps : Keeps maps harts) (hearing : h < length harts)
    (there : i < length harts)
    (apart : i ≢ h) (flying : (kept_at harts i).flight ≡ Some f)
    (clear : (kept_at harts h).halted ≡ false → IsClear (f.first, f.count) (kept_at harts h).cache) where
  others : (j : ℕ) → (kept_at harts j).halted ≡ false → j ≢ i → (j ≡ h) ⊎ (j ≢ h) → HasDropped j (kept_at harts j).cache (marked h f)
  others j running other (inl e) hit =
      subst (λ (n : ℕ). (kept_at harts n).halted ≡ false → IsClear (f.first, f.count) (kept_at harts n).cache) (sym e) clear running
  others j running other (inr ne) hit =
      some_is (HasDropped j (kept_at harts j).cache) (kept_at harts i).flight f flying (keeps.dropped j i running (λ e. other (sym e)))
      (sym (marked-other h j f ne) ∙ hit)

  pub mark-keeps : Keeps maps (at_hart i (heard_by h) harts)
  mark-keeps =
      let k = kept_at harts i in
      let flown : option_map (marked h) k.flight ≡ Some (marked h f) = ap (option_map (marked h)) flying in
      keeps_step maps harts i (heard_by h) keeps there
      (λ running. current_weaker maps k.flight (option_map (marked h) k.flight) k.domain k.cache (marked-agrees h k.flight)
      (keeps.agree i running))
      (λ j running other. keeps.dropped i j running other)
      (λ j running other. some_has (HasDropped j (kept_at harts j).cache) (option_map (marked h) k.flight) (marked h f) flown
      (others j running other (cases_eq j h)))
      (marked-hearers (length harts) i h k.flight hearing (λ e. apart (sym e)) (keeps.hearers i))

-- what an unheard range of a call says of the call
pub record IsUnheard (h : ℕ) (o : Option Flight) (r : ℕ × ℕ) : Type 0 where
  pub flight : Flight
  pub flying : o ≡ Some flight
  pub first : r.0 ≡ flight.first
  pub count : r.1 ≡ flight.count

unheard_of-some : (h : ℕ) (o : Option Flight) (r : ℕ × ℕ) → unheard_of h o ≡ Some r → IsUnheard h o r
unheard_of-some h None r e = cc
unheard_of-some h (Some f) r e = by (is_in f.heard h) e
  where
    by : (b : Bool) → cond {A = Option (ℕ × ℕ)} b None (Some (f.first, f.count)) ≡ Some r → IsUnheard h (Some f) r
    by true e = cc
    by false e = let same : (f.first, f.count) ≡ r = cc in record {
      flight = f;
      flying = refl;
      first = sym (ap (λ p. p.0) same);
      count =
          sym (ap (λ p. p.1) same);
    }

unheard-some : (h i : ℕ) (harts : List Kept) (r : ℕ × ℕ) → unheard h i harts ≡ Some r → (i ≢ h) × IsUnheard h (kept_at harts i).flight r
unheard-some h i harts r e = by (i == h) refl e
  where
    by : (b : Bool) → (i == h) ≡ b → cond b None (unheard_of h (kept_at harts i).flight) ≡ Some r
        → (i ≢ h) × IsUnheard h (kept_at harts i).flight r
    by true same e = cc
    by false same e = (eqb_false same, unheard_of-some h (kept_at harts i).flight r e)
      where
        eqb_false : (i == h) ≡ false → i ≢ h
        eqb_false miss hit = let clash : true ≡ false = sym (eq-eqb i h hit) ∙ miss in cc

length-hears_range : (h i : ℕ) (o : Option (ℕ × ℕ)) (harts : List Kept) → length (hears_range h i o harts) ≡ length harts
length-hears_range h i None harts = refl
length-hears_range h i (Some r) harts =
    length-at_hart (at_hart h (drops_range r.0 r.1) harts) i (heard_by h) ∙ length-at_hart harts h (drops_range r.0 r.1)

pub length-hears_first : (h n : ℕ) (harts : List Kept) → length (hears_first h n harts) ≡ length harts
length-hears_first h zero harts = refl
length-hears_first h (suc n) harts =
    length-hears_range h n (unheard h n (hears_first h n harts)) (hears_first h n harts) ∙ length-hears_first h n harts

-- the hart that hears changes only its caches
module _ (harts : List Kept) (h i : ℕ) (there : h < length harts) where
  own_unheard : (o : Option (ℕ × ℕ)) → unheard h i harts ≡ o → SameButCaches (kept_at (hears_range h i o harts) h) (kept_at harts h)
  own_unheard None e = record { halted = refl; domain = refl; flight = refl }
  own_unheard (Some r) e =
      let apart = (unheard-some h i harts r e).0 in
      let now : kept_at (hears_range h i (Some r) harts) h ≡ drops_range r.0 r.1 (kept_at harts h) =
      kept_at-other (at_hart h (drops_range r.0 r.1) harts) i (heard_by h) h (λ x. apart (sym x))
      ∙ kept_at-same harts h (drops_range r.0 r.1) there in
      record {
        halted = ap (λ (k : Kept). k.halted) now;
        domain = ap (λ (k : Kept). k.domain) now;
        flight =
            ap (λ (k : Kept). k.flight) now;
      }

  pub own_one : SameButCaches (kept_at (hears_one h i harts) h) (kept_at harts h)
  own_one = own_unheard (unheard h i harts) refl

own_joined : (a b c : Kept) → SameButCaches a b → SameButCaches b c → SameButCaches a c
own_joined a b c x y = record { halted = x.halted ∙ y.halted; domain = x.domain ∙ y.domain; flight = x.flight ∙ y.flight }

own_first : (harts : List Kept) (h n : ℕ) → h < length harts → SameButCaches (kept_at (hears_first h n harts) h) (kept_at harts h)
own_first harts h zero there = record { halted = refl; domain = refl; flight = refl }
own_first harts h (suc n) there =
    own_joined (kept_at (hears_first h (suc n) harts) h) (kept_at (hears_first h n harts) h) (kept_at harts h)
    (own_one (hears_first h n harts) h n (omega (arith, length-hears_first h n harts))) (own_first harts h n there)

pub hears_own : (harts : List Kept) (h : ℕ) → h < length harts → SameButCaches (kept_at (hears h harts) h) (kept_at harts h)
hears_own harts h there = own_first harts h (length harts) there

-- hearing one call keeps both facts
module _ (maps : List (List Perm)) (harts : List Kept) (h i : ℕ) (keeps : Keeps maps harts) (there : h < length harts)
    (other : i < length harts) where
  hears_some : (r : ℕ × ℕ) → unheard h i harts ≡ Some r → Keeps maps (hears_range h i (Some r) harts)
  hears_some r e =
      let apart = (unheard-some h i harts r e).0 in
      let n = (unheard-some h i harts r e).1 in
      let dropped = at_hart h (drops_range r.0 r.1) harts in
      let k = kept_at harts h in
      let own = kept_at-same harts h (drops_range r.0 r.1) there in
      let flying : (kept_at dropped i).flight ≡ Some n.flight =
      ap (λ (k : Kept). k.flight) (kept_at-other harts h (drops_range r.0 r.1) i apart) ∙ n.flying in
      let clear : (kept_at dropped h).halted ≡ false → IsClear (n.flight.first, n.flight.count) (kept_at dropped h).cache =
      subst (λ (x : Kept). x.halted ≡ false → IsClear (n.flight.first, n.flight.count) x.cache) (sym own)
      (λ running. subst (λ (a : ℕ). IsClear (a, n.flight.count) (without_range r.0 r.1 k.cache)) n.first
      (subst (λ (a : ℕ). IsClear (r.0, a) (without_range r.0 r.1 k.cache)) n.count (each_clear r.0 r.1 k.cache (keeps.agree h running)))) in
      mark-keeps maps dropped h i n.flight (drop-keeps maps harts h keeps there r.0 r.1)
      (omega (arith, length-at_hart harts h (drops_range r.0 r.1)))
      (omega (arith, length-at_hart harts h (drops_range r.0 r.1))) apart flying clear

  by_unheard : (o : Option (ℕ × ℕ)) → unheard h i harts ≡ o → Keeps maps (hears_range h i o harts)
  by_unheard None e = keeps
  by_unheard (Some r) e = hears_some r e

  pub hears_one-keeps : Keeps maps (hears_one h i harts)
  hears_one-keeps = by_unheard (unheard h i harts) refl

-- and so does hearing several
pub hears_first-keeps : (maps : List (List Perm)) (harts : List Kept) (h n : ℕ) → Keeps maps harts → h < length harts → n ≤ length harts
    → Keeps maps (hears_first h n harts)
hears_first-keeps maps harts h zero keeps there most = keeps
hears_first-keeps maps harts h (suc n) keeps there most =
    hears_one-keeps maps (hears_first h n harts) h n (hears_first-keeps maps harts h n keeps there (omega arith))
    (omega (arith, length-hears_first h n harts)) (omega (arith, length-hears_first h n harts))

pub hear-keeps : (maps : List (List Perm)) (harts : List Kept) (h : ℕ) → Keeps maps harts → h < length harts → Keeps maps (hears h harts)
hear-keeps maps harts h keeps there = hears_first-keeps maps harts h (length harts) keeps there (omega arith)

-- the call of another hart than the one that is heard stays as it was
step-flight : (harts : List Kept) (h i : ℕ) (step : Kept → Kept) → h < length harts → ((k : Kept) → (step k).flight ≡ k.flight) →
    (kept_at (at_hart h step harts) i).flight ≡ (kept_at harts i).flight
step-flight harts h i step there still = by (cases_eq i h)
  where
    by : (i ≡ h) ⊎ (i ≢ h) → (kept_at (at_hart h step harts) i).flight ≡ (kept_at harts i).flight
    by (inl e) =
        ap (λ n. (kept_at (at_hart h step harts) n).flight) e ∙ ap (λ (k : Kept). k.flight) (kept_at-same harts h step there)
        ∙ still (kept_at harts h) ∙ ap (λ n. (kept_at harts n).flight) (sym e)
    by (inr ne) = ap (λ (k : Kept). k.flight) (kept_at-other harts h step i ne)

module _ (harts : List Kept) (h n : ℕ) (there : h < length harts) (other : n < length harts) where
  pub hears_range-flight : (o : Option (ℕ × ℕ)) (i : ℕ) → i ≢ n → (kept_at (hears_range h n o harts) i).flight ≡ (kept_at harts i).flight
  hears_range-flight None i ne = refl
  hears_range-flight (Some r) i ne =
      ap (λ (k : Kept). k.flight) (kept_at-other (at_hart h (drops_range r.0 r.1) harts) n (heard_by h) i ne)
      ∙ step-flight harts h i (drops_range r.0 r.1) there (λ k. refl)

-- after a hart has heard a call, it is in the call's set
heard_after : (h : ℕ) (o : Option Flight) → unheard_of h o ≡ None → IfSome o (λ f. is_in f.heard h ≡ true)
heard_after h None e = tt
heard_after h (Some f) e = by (is_in f.heard h) refl e
  where
    by : (b : Bool) → is_in f.heard h ≡ b → cond {A = Option (ℕ × ℕ)} b None (Some (f.first, f.count)) ≡ None → is_in f.heard h ≡ true
    by true is e = is
    by false is e = cc

heard_marked : (n i h : ℕ) (o : Option Flight) → h < 4 → IfSome o (AreHearers n i)
    → IfSome (option_map (marked h) o) (λ f. is_in f.heard h ≡ true)
heard_marked n i h None lt p = tt
heard_marked n i h (Some f) lt p = marked-same h f (omega (arith, p.places))

module _ (maps : List (List Perm)) (harts : List Kept) (h n : ℕ) (keeps : Keeps maps harts) (there : h < length harts)
    (other : n < length harts) (apart : n ≢ h) where
  heard_unheard : (o : Option (ℕ × ℕ)) → unheard h n harts ≡ o
      → IfSome (kept_at (hears_range h n o harts) n).flight (λ f. is_in f.heard h ≡ true)
  heard_unheard None e =
      let miss : (n == h) ≡ false = ne_eqb n h apart in
      heard_after h (kept_at harts n).flight (sym (ap (λ b. cond b None (unheard_of h (kept_at harts n).flight)) miss) ∙ e)
  heard_unheard (Some r) e =
      let dropped = at_hart h (drops_range r.0 r.1) harts in
      let long : n < length dropped = omega (arith, length-at_hart harts h (drops_range r.0 r.1)) in
      let flights : (kept_at dropped n).flight ≡ (kept_at harts n).flight = step-flight harts h n (drops_range r.0 r.1) there (λ k. refl) in
      let now : (kept_at (at_hart n (heard_by h) dropped) n).flight ≡ option_map (marked h) (kept_at harts n).flight =
      ap (λ (k : Kept). k.flight) (kept_at-same dropped n (heard_by h) long) ∙ ap (option_map (marked h)) flights in
      subst (λ (o : Option Flight). IfSome o (λ f. is_in f.heard h ≡ true)) (sym now)
      (heard_marked (length harts) n h (kept_at harts n).flight (omega (arith, keeps.few)) (keeps.hearers n))

  pub heard_one : IfSome (kept_at (hears_one h n harts) n).flight (λ f. is_in f.heard h ≡ true)
  heard_one = heard_unheard (unheard h n harts) refl

module _ (maps : List (List Perm)) (harts : List Kept) (h : ℕ) (keeps : Keeps maps harts) (there : h < length harts) where
  heard_first : (n i : ℕ) → n ≤ length harts → i < n → i ≢ h → IfSome (kept_at (hears_first h n harts) i).flight (λ f.
      is_in f.heard h ≡ true)
  heard_first zero i most lt ne = absurd (omega arith)
  heard_first (suc n) i most lt ne = by (heard_first n i (omega arith)) (cases_eq i n)
    where
      long : length (hears_first h n harts) ≡ length harts
      long = length-hears_first h n harts

      by : (i < n → i ≢ h → IfSome (kept_at (hears_first h n harts) i).flight (λ f. is_in f.heard h ≡ true)) → (i ≡ n) ⊎ (i ≢ n) →
          IfSome (kept_at (hears_one h n (hears_first h n harts)) i).flight (λ f. is_in f.heard h ≡ true)
      by rest (inl e) =
          let kept = hears_first-keeps maps harts h n keeps there (omega arith) in
          let apart : n ≢ h = λ x. ne (e ∙ x) in
          subst (λ (m : ℕ). IfSome (kept_at (hears_one h n (hears_first h n harts)) m).flight (λ f. is_in f.heard h ≡ true)) (sym e)
          (heard_one maps (hears_first h n harts) h n kept (omega (arith, long)) (omega (arith, long)) apart)
      by rest (inr other) =
          subst (λ (o : Option Flight). IfSome o (λ f. is_in f.heard h ≡ true))
          (sym (hears_range-flight (hears_first h n harts) h n (omega (arith, long)) (omega (arith, long))
          (unheard h n (hears_first h n harts)) i other))
          (rest (omega arith) ne)

  heard_there : (i : ℕ) → i ≢ h → (i < length harts) ⊎ (length harts ≤ i)
      → IfSome (kept_at (hears h harts) i).flight (λ f. is_in f.heard h ≡ true)
  heard_there i ne (inl lt) = heard_first (length harts) i (omega arith) lt ne
  heard_there i ne (inr le) =
      let past : kept_at (hears h harts) i ≡ nothing_kept = get_or_past (hears h harts) i nothing_kept
      (omega (arith, length-hears_first h (length harts) harts)) in
      subst (λ (k : Kept). IfSome k.flight (λ f. is_in f.heard h ≡ true)) (sym past) tt

  pub heard_all : HasHeardAll h (hears h harts)
  heard_all i ne = heard_there i ne (cases_lt i (length harts))

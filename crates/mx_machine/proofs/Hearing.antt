-- A hart that hears the others' calls: what the checker keeps of each hart then, and which spans the hart dropped.
use Rattle.std.proofs.Common.{◌≡◌, ◌≢◌, ℕ, zero, suc, ◌<◌, ◌≤◌, ◌⊎◌, inl, inr, ◌==◌, Bool, true, false, cond, List, length, get_or, set}
use Rattle.std.proofs.Common.{Option, Some, None, refl, sym, ap, subst, ◌∙◌, arith, eq-eqb}
use Rattle.std.proofs.Common.{map as list_map}
use Rattle.std.specs.Option.{option_map}
use Rattle.std.proofs.Math.ListN.{get_or-map}
use Rattle.std.proofs.Math.Seq.{map-set_same}
use Rattle.std.proofs.lemmas.Bool.{cases_eq, cases_lt, ne_eqb}
use Rattle.std.proofs.lemmas.List.{get_or_past, get_or-set_same, length-map, map-set, set-get_or, set-set}
use Rattle.mx_words.specs.Caches.{Cache, no_cache, without_range}
use Rattle.mx_words.specs.Hearing.{is_in}
use Rattle.mx_check.specs.declared.flight.Flight.{Flight}
use Rattle.mx_check.specs.Calls.{unheard_of, unheard, hears_range, hears_one, hears_first, hears}
use Rattle.mx_check.specs.Harts.{Kept, nothing_kept, kept_at, at_hart, marked, heard_by, drops_range}
use Rattle.mx_check.proofs.HearLaws.{length-hears_first}
use Rattle.mx_check.proofs.LookLaws.{length-at_hart, kept_at-same, kept_at-other}

-- another hart after hart h has heard its call
pub record IsHeard (h : ℕ) (now before : Kept) : Type 0 where
  pub cache : now.cache ≡ before.cache
  pub halted : now.halted ≡ before.halted
  pub domain : now.domain ≡ before.domain
  pub flight : now.flight ≡ option_map (marked h) before.flight

heard-is : (h : ℕ) (now before : Kept) → now ≡ heard_by h before → IsHeard h now before
heard-is h now before e = search arith

-- a call that was heard before is not marked again
marked-again : (h : ℕ) (f : Flight) → is_in f.heard h ≡ true → marked h f ≡ f
marked-again h f is = search (arith, f.heard, set-get_or)

marked-none : (h : ℕ) (o : Option Flight) → unheard_of h o ≡ None → option_map (marked h) o ≡ o
marked-none h None e = refl
marked-none h (Some f) e = by (is_in f.heard h) refl e
  where
    by : (b : Bool) → is_in f.heard h ≡ b → cond {A = Option (ℕ × ℕ)} b None (Some (f.first, f.count)) ≡ None
        → option_map (marked h) (Some f) ≡ Some f
    by true is e = ap (λ (f : Flight). Some f) (marked-again h f is)
    by false is e = cc

unheard-none : (h n : ℕ) (harts : List Kept) → n ≢ h → unheard h n harts ≡ None → unheard_of h (kept_at harts n).flight ≡ None
unheard-none h n harts apart e = sym (ap (λ b. cond b None (unheard_of h (kept_at harts n).flight)) (ne_eqb n h apart)) ∙ e

-- one call is heard
module _ (harts : List Kept) (h n : ℕ) (apart : n ≢ h) (other : n < length harts) where
  heard-range : (o : Option (ℕ × ℕ)) → unheard h n harts ≡ o → IsHeard h (kept_at (hears_range h n o harts) n) (kept_at harts n)
  heard-range None e =
      record {
        cache = refl;
        halted = refl;
        domain = refl;
        flight =
            sym (marked-none h (kept_at harts n).flight (unheard-none h n harts apart e));
      }
  heard-range (Some r) e =
      let dropped = at_hart h (drops_range r.0 r.1) harts in
      heard-is h _ (kept_at harts n)
      (kept_at-same dropped n (heard_by h) (omega (arith, other, length-at_hart harts h (drops_range r.0 r.1)))
      ∙ ap (heard_by h) (kept_at-other harts h (drops_range r.0 r.1) n apart))

-- the others' stay
still-range : (harts : List Kept) (h n : ℕ) (o : Option (ℕ × ℕ)) (i : ℕ) → i ≢ n → i ≢ h
    → kept_at (hears_range h n o harts) i ≡ kept_at harts i
still-range harts h n None i other apart = refl
still-range harts h n (Some r) i other apart =
    kept_at-other (at_hart h (drops_range r.0 r.1) harts) n (heard_by h) i other ∙ kept_at-other harts h (drops_range r.0 r.1) i apart

still-first : (harts : List Kept) (h n i : ℕ) → n ≤ i → i ≢ h → kept_at (hears_first h n harts) i ≡ kept_at harts i
still-first harts h zero i le apart = refl
still-first harts h (suc n) i le apart =
    let other : i ≢ n = λ e. absurd (omega (arith, e, le)) in
    still-range (hears_first h n harts) h n (unheard h n (hears_first h n harts)) i other apart
    ∙ still-first harts h n i (omega (arith, le)) apart

-- the calls of the first n harts are heard
heard-joined : (h : ℕ) (a b c : Kept) → IsHeard h a b → b ≡ c → IsHeard h a c
heard-joined h a b c p e = subst (λ (k : Kept). IsHeard h a k) e p

heard-before : (h : ℕ) (a b c : Kept) → a ≡ b → IsHeard h b c → IsHeard h a c
heard-before h a b c e p = subst (λ (k : Kept). IsHeard h k c) (sym e) p

heard-first : (harts : List Kept) (h n i : ℕ) → n ≤ length harts → i < n → i ≢ h
    → IsHeard h (kept_at (hears_first h n harts) i) (kept_at harts i)
heard-first harts h zero i most lt apart = absurd (omega (arith, lt))
heard-first harts h (suc n) i most lt apart = by (heard-first harts h n i (omega (arith, most))) (cases_eq i n)
  where
    long : length (hears_first h n harts) ≡ length harts
    long = length-hears_first h n harts

    by : (i < n → i ≢ h → IsHeard h (kept_at (hears_first h n harts) i) (kept_at harts i)) → (i ≡ n) ⊎ (i ≢ n) →
        IsHeard h (kept_at (hears_one h n (hears_first h n harts)) i) (kept_at harts i)
    by rest (inl e) =
        let apart : n ≢ h = λ x. apart (e ∙ x) in
        subst (λ (m : ℕ). IsHeard h (kept_at (hears_one h n (hears_first h n harts)) m) (kept_at harts m)) (sym e)
        (heard-joined h _ (kept_at (hears_first h n harts) n) (kept_at harts n)
        (heard-range (hears_first h n harts) h n apart (omega (arith, long, most)) (unheard h n (hears_first h n harts)) refl)
        (still-first harts h n n (omega arith) apart))
    by rest (inr other) =
        heard-before h _ (kept_at (hears_first h n harts) i) (kept_at harts i)
        (still-range (hears_first h n harts) h n (unheard h n (hears_first h n harts)) i other apart)
        (rest (omega (arith, lt, other)) apart)

-- each other hart's call is heard
heard-past : (h : ℕ) (k : Kept) → k ≡ nothing_kept → IsHeard h k k
heard-past h k e = subst (λ (x : Kept). IsHeard h x x) (sym e) (record { cache = refl; halted = refl; domain = refl; flight = refl })

pub heard-at : (harts : List Kept) (h i : ℕ) → i ≢ h → IsHeard h (kept_at (hears h harts) i) (kept_at harts i)
heard-at harts h i apart = by (cases_lt i (length harts))
  where
    by : (i < length harts) ⊎ (length harts ≤ i) → IsHeard h (kept_at (hears h harts) i) (kept_at harts i)
    by (inl lt) = heard-first harts h (length harts) i (omega arith) lt apart
    by (inr le) =
        heard-before h _ (kept_at harts i) (kept_at harts i) (still-first harts h (length harts) i le apart)
        (heard-past h (kept_at harts i) (get_or_past harts i nothing_kept le))

-- the caches of all harts
abbrev pub caches_of : List Kept → List Cache
caches_of harts = list_map (λ (k : Kept). k.cache) harts

pub cache-kept : (harts : List Kept) (h : ℕ) → get_or (caches_of harts) h no_cache ≡ (kept_at harts h).cache
cache-kept harts h = get_or-map (λ (k : Kept). k.cache) harts h nothing_kept

-- a cache without the spans of a range, where there is one; and after the first n ranges
abbrev pub without_one : Option (ℕ × ℕ) → Cache → Cache
without_one None c = c
without_one (Some r) c = without_range r.0 r.1 c

abbrev pub without_first : (ℕ → Option (ℕ × ℕ)) → ℕ → Cache → Cache
without_first range zero c = c
without_first range (suc n) c = without_one (range n) (without_first range n c)

caches-range : (harts : List Kept) (h n : ℕ) (o : Option (ℕ × ℕ)) →
    caches_of (hears_range h n o harts) ≡ set (caches_of harts) h (without_one o (kept_at harts h).cache)
caches-range harts h n None =
    sym (ap (λ (hs : List Kept). caches_of hs) (set-get_or harts h nothing_kept))
    ∙ map-set (λ (k : Kept). k.cache) harts h (kept_at harts h)
caches-range harts h n (Some r) =
    let dropped = at_hart h (drops_range r.0 r.1) harts in
    map-set_same (λ (k : Kept). k.cache) dropped n (heard_by h (kept_at dropped n)) nothing_kept refl
    ∙ map-set (λ (k : Kept). k.cache) harts h (drops_range r.0 r.1 (kept_at harts h))

-- what is unheard doesn't depend on the calls heard before
unheard-first : (harts : List Kept) (h n : ℕ) → unheard h n (hears_first h n harts) ≡ unheard h n harts
unheard-first harts h n = by (cases_eq n h)
  where
    by : (n ≡ h) ⊎ (n ≢ h) → unheard h n (hears_first h n harts) ≡ unheard h n harts
    by (inl e) =
        let same : (n == h) ≡ true = eq-eqb n h e in
        ap (λ b. cond b None (unheard_of h (kept_at (hears_first h n harts) n).flight)) same
        ∙ sym (ap (λ b. cond b None (unheard_of h (kept_at harts n).flight)) same)
    by (inr ne) = ap (λ (k : Kept). cond (n == h) None (unheard_of h k.flight)) (still-first harts h n n (omega arith) ne)

module _ (harts : List Kept) (h : ℕ) (there : h < length harts) where
  -- hart h drops what it hears of, and no other hart's caches change
  pub caches-first : (n : ℕ) →
      caches_of (hears_first h n harts) ≡ set (caches_of harts) h (without_first (λ i. unheard h i harts) n (kept_at harts h).cache)
  caches-first zero =
      sym (ap (λ (hs : List Kept). caches_of hs) (set-get_or harts h nothing_kept))
      ∙ map-set (λ (k : Kept). k.cache) harts h (kept_at harts h)
  caches-first (suc n) =
      let before = hears_first h n harts in
      let c = without_first (λ i. unheard h i harts) n (kept_at harts h).cache in
      let long : h < length (caches_of harts) = omega (arith, there, length-map harts (λ (k : Kept). k.cache)) in
      let own : (kept_at before h).cache ≡ c =
      sym (cache-kept before h) ∙ ap (λ (cs : List Cache). get_or cs h no_cache) (caches-first n)
      ∙ get_or-set_same (caches_of harts) h c no_cache long in
      caches-range before h n (unheard h n before)
      ∙ ap (λ (cs : List Cache). set cs h (without_one (unheard h n before) (kept_at before h).cache)) (caches-first n)
      ∙ set-set (caches_of harts) h c (without_one (unheard h n before) (kept_at before h).cache)
      ∙ ap (λ (x : Cache). set (caches_of harts) h (without_one (unheard h n before) x)) own
      ∙ ap (λ (o : Option (ℕ × ℕ)). set (caches_of harts) h (without_one o c)) (unheard-first harts h n)

-- where no call is in flight, nothing is heard
unheard-quiet : (harts : List Kept) (h n : ℕ) → (kept_at harts n).flight ≡ None → unheard h n harts ≡ None
unheard-quiet harts h n q = ap (λ o. cond (n == h) None (unheard_of h o)) q ∙ by (n == h)
  where
    by : (b : Bool) → cond {A = Option (ℕ × ℕ)} b None None ≡ None
    by true = refl
    by false = refl

pub quiet-first : (harts : List Kept) (h n : ℕ) → ((i : ℕ) → (kept_at harts i).flight ≡ None) → hears_first h n harts ≡ harts
quiet-first harts h zero q = refl
quiet-first harts h (suc n) q =
    ap (λ (hs : List Kept). hears_one h n hs) (quiet-first harts h n q)
    ∙ ap (λ (o : Option (ℕ × ℕ)). hears_range h n o harts) (unheard-quiet harts h n (q n))

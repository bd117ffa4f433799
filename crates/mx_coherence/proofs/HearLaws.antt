-- Coherence through hearing: a hart drops its spans that meet a range, and counts as having heard the call from then on.
use Rattle.std.proofs.Common.{◌≡◌, ◌≢◌, ℕ, ◌<◌, ◌⊎◌, inl, inr, Bool, true, false, cond, List, [], ◌∷◌, length, refl, sym, ap, subst, ◌∙◌}
use Rattle.std.proofs.Common.{arith, get_or-set_same, get_or-set_other, Some, None}
use Rattle.std.specs.Prelude.{fold}
use Rattle.std.specs.List.{AllByRecursion}
use Rattle.std.proofs.lemmas.Bool.{cases_eq}
use Rattle.mx_words.specs.declared.perm.Span.{Span}
use Rattle.mx_words.specs.Caches.{Cache, no_cache, without_range}
use Rattle.mx_words.specs.Hearing.{is_in, unheard_range}
use Rattle.mx_words.specs.KeptSpans.{EachSpan, IsClear}
use Rattle.mx_model.specs.Checks.{call_range, heard_by, hears, is_halted, unheard_ranges}
use Rattle.mx_model.specs.Reads.{Reads}
use Rattle.mx_model.specs.State.{Core, Status, Running, Waiting, Halted, cache_at, hart_at}
use Rattle.mx_laws.proofs.TurnParts.{there}
use Rattle.mx_coherence.specs.Spans.{AreCurrent}
use Rattle.mx_coherence.specs.Coherence.{HasDropped, IsCoherent}
use Rattle.mx_words.proofs.SpanLaws.{each_clear, each_without}
use Rattle.mx_coherence.proofs.RangeLaws.{other_heard, own_heard, range_of_call}
use Rattle.mx_coherence.proofs.StepLaws.{dropped-ranges, three}

-- several ranges dropped
abbrev pub drop : Cache → ℕ × ℕ → Cache
drop k range = without_range range.0 range.1 k

each_fold : {E : ℕ → Span → Type 0} {P : Span → Type 0} (xs : List (ℕ × ℕ)) (k : Cache) → EachSpan E P k → EachSpan E P (fold drop k xs)
each_fold [] k each = each
each_fold (x ∷ xs) k each = each_fold xs (drop k x) (each_without x.0 x.1 k each)

clear_fold : {E : ℕ → Span → Type 0} {P : Span → Type 0} (xs : List (ℕ × ℕ)) (k : Cache) → EachSpan E P k →
    AllByRecursion (λ (range : ℕ × ℕ). IsClear range (fold drop k xs)) xs
clear_fold [] k each = tt
clear_fold (x ∷ xs) k each = (each_fold xs (drop k x) (each_clear x.0 x.1 k each), clear_fold xs (drop k x) (each_without x.0 x.1 k each))

live-heard : (h : ℕ) (s : Status) → is_halted (heard_by h s) ≡ is_halted s
live-heard h Running = refl
live-heard h (Waiting call heard) = refl
live-heard h (Halted code) = refl

-- what another hart has dropped doesn't depend on hart h's hearing
dropped-heard : (c : Core) (h g : ℕ) (k : Cache) (s : Status) → g ≢ h → HasDropped c g k s → HasDropped c g k (heard_by h s)
dropped-heard c h g k Running apart p = tt
dropped-heard c h g k (Waiting call heard) apart p = λ hit. p (sym (get_or-set_other heard h g true false apart) ∙ hit)
dropped-heard c h g k (Halted code) apart p = tt

module _ (r : Reads) (c : Core) (h : ℕ) (k : IsCoherent r c) (count : length c.caches ≡ length c.harts)
    (live : is_halted (hart_at c h).status ≡ false) where
  inside : h < length c.caches
  inside = let l = there c h live in omega (arith, l)

  own-cache : cache_at (hears h c) h ≡ fold drop (cache_at c h) (unheard_ranges c h)
  own-cache = get_or-set_same c.caches h _ no_cache inside

  other-cache : (g : ℕ) → g ≢ h → cache_at (hears h c) g ≡ cache_at c g
  other-cache g apart = get_or-set_other c.caches h g _ no_cache apart

  current_at : (g : ℕ) → (g ≡ h) ⊎ (g ≢ h) → is_halted (hart_at (hears h c) g).status ≡ false →
      AreCurrent r (hart_at (hears h c) g).domain (cache_at (hears h c) g)
  current_at g (inl same) =
      let x = hart_at c h in
      subst (λ (n : ℕ). is_halted (hart_at (hears h c) n).status ≡ false
      → AreCurrent r (hart_at (hears h c) n).domain (cache_at (hears h c) n)) (sym same)
      (three (λ y l z. is_halted y.status ≡ false → AreCurrent r y.domain l) (hart_at (hears h c) h) x (cache_at (hears h c) h)
      (fold drop (cache_at c h) (unheard_ranges c h)) x x
      (own_heard c h) own-cache refl
      (λ running. each_fold (unheard_ranges c h) (cache_at c h) (k.current h running)))
  current_at g (inr apart) =
      let x = hart_at c g in
      three (λ y l z. is_halted y.status ≡ false → AreCurrent r y.domain l) (hart_at (hears h c) g)
      (record x { status = heard_by h x.status })
      (cache_at (hears h c) g) (cache_at c g) x x
      (other_heard c h g apart) (other-cache g apart) refl
      (λ running. k.current g (sym (live-heard h x.status) ∙ running))

  -- the hart that hears drops what it hears for the first time
  own_dropped : (g : ℕ) (s : Status) → g ≢ h → (hart_at c g).status ≡ s → HasDropped c h (cache_at c h) s →
      HasDropped c h (fold drop (cache_at c h) (unheard_ranges c h)) (heard_by h s)
  own_dropped g Running apart e p = tt
  own_dropped g (Waiting call heard) apart e p = λ hit. by (is_in heard h) refl
    where
      by : (b : Bool) → is_in heard h ≡ b → IsClear (call_range c call) (fold drop (cache_at c h) (unheard_ranges c h))
      by true f = each_fold (unheard_ranges c h) (cache_at c h) (p f)
      by false f = range_of_call (λ (range : ℕ × ℕ). IsClear range (fold drop (cache_at c h) (unheard_ranges c h))) c h g (unheard_range h)
          call heard
          (clear_fold (unheard_ranges c h) (cache_at c h) (k.current h live)) apart e (ap (λ b. cond b None (Some (call_range c call))) f)
  own_dropped g (Halted code) apart e p = tt

  dropped_at : (g i : ℕ) → i ≢ g → (g ≡ h) ⊎ (g ≢ h) → (i ≡ h) ⊎ (i ≢ h) → is_halted (hart_at (hears h c) g).status ≡ false →
      HasDropped (hears h c) g (cache_at (hears h c) g) (hart_at (hears h c) i).status
  dropped_at g i apart (inl a) (inl b) = absurd (apart (b ∙ sym a))
  dropped_at g i apart (inl a) (inr b) =
      let y = hart_at c i in
      subst (λ (n : ℕ). is_halted (hart_at (hears h c) n).status ≡ false → HasDropped (hears h c) n (cache_at (hears h c) n)
      (hart_at (hears h c) i).status) (sym a)
      (three (λ x l z. is_halted x.status ≡ false → HasDropped (hears h c) h l z.status) (hart_at (hears h c) h) (hart_at c h)
      (cache_at (hears h c) h) (fold drop (cache_at c h) (unheard_ranges c h))
      (hart_at (hears h c) i) (record y { status = heard_by h y.status }) (own_heard c h) own-cache (other_heard c h i b)
      (λ running. dropped-ranges c (hears h c) (λ call. refl) h (fold drop (cache_at c h) (unheard_ranges c h)) (heard_by h y.status)
      (own_dropped i y.status b refl (k.dropped h i running b))))
  dropped_at g i apart (inr a) (inl b) =
      let x = hart_at c g in
      subst (λ (n : ℕ). is_halted (hart_at (hears h c) g).status ≡ false → HasDropped (hears h c) g (cache_at (hears h c) g)
      (hart_at (hears h c) n).status) (sym b)
      (three (λ y l z. is_halted y.status ≡ false → HasDropped (hears h c) g l z.status) (hart_at (hears h c) g)
      (record x { status = heard_by h x.status }) (cache_at (hears h c) g) (cache_at c g)
      (hart_at (hears h c) h) (hart_at c h) (other_heard c h g a) (other-cache g a) (own_heard c h)
      (λ running. dropped-ranges c (hears h c) (λ call. refl) g (cache_at c g) (hart_at c h).status
      (k.dropped g h (sym (live-heard h x.status) ∙ running) (λ e. a (sym e)))))
  dropped_at g i apart (inr a) (inr b) =
      let x = hart_at c g in
      let y = hart_at c i in
      three (λ v l z. is_halted v.status ≡ false → HasDropped (hears h c) g l z.status) (hart_at (hears h c) g)
      (record x { status = heard_by h x.status }) (cache_at (hears h c) g) (cache_at c g)
      (hart_at (hears h c) i) (record y { status = heard_by h y.status }) (other_heard c h g a) (other-cache g a) (other_heard c h i b)
      (λ running. dropped-ranges c (hears h c) (λ call. refl) g (cache_at c g) (heard_by h y.status)
      (dropped-heard c h g (cache_at c g) y.status a (k.dropped g i (sym (live-heard h x.status) ∙ running) apart)))

  pub coherent-hears : IsCoherent r (hears h c)
  coherent-hears = record {
    current = λ g. current_at g (cases_eq g h);
    dropped = λ g i running apart. dropped_at g i apart (cases_eq g h) (cases_eq i h) running;
  }

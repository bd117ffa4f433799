-- Coherence through the steps of single harts.
use Rattle.std.proofs.Common.{◌≡◌, ◌≢◌, ℕ, ◌<◌, ◌≤◌, ◌⊎◌, inl, inr, true, false, List, length, Option, Some, None, refl, sym, ap, subst}
use Rattle.std.proofs.Common.{◌∙◌, arith}
use Rattle.std.specs.Prelude.{IfSome}
use Rattle.std.proofs.lemmas.Bool.{cases_eq, cases_lt}
use Rattle.std.proofs.lemmas.List.{get_or_past, get_or-replicate}
use Rattle.mx_words.specs.declared.perm.Perm.{Perm}
use Rattle.mx_words.specs.declared.perm.Span.{Span}
use Rattle.mx_words.specs.Caches.{Cache, meets, without_range}
use Rattle.mx_table.specs.Tables.{map_of}
use Rattle.mx_check.specs.declared.flight.Flight.{Flight}
use Rattle.mx_words.specs.Hearing.{is_in, nobody}
use Rattle.mx_words.specs.KeptSpans.{EachSpan, IsClear}
use Rattle.mx_check.specs.Harts.{Kept, kept_at, at_hart, announced, drops_range, without_flight_range, finished, leaves_domain, halts}
use Rattle.mx_check.specs.Flights.{AreHearers}
use Rattle.mx_check.specs.Coherence.{AgreesWithMap, AgreesIn, AreCurrent, HasDropped, Keeps}
use Rattle.mx_check.proofs.LookLaws.{length-at_hart, kept_at-same, kept_at-other}
use Rattle.mx_words.proofs.SpanLaws.{each_weaker, each_left, each_without, each_dropped, outside_range}

-- a hart that takes a step: both facts follow from what the step does to it
module _ (maps : List (List Perm)) (harts : List Kept) (h : ℕ) (step : Kept → Kept) (keeps : Keeps maps harts) (there : h < length harts)
    (own : (step (kept_at harts h)).halted ≡ false → AreCurrent maps (step (kept_at harts h)))
    (own_dropped : (i : ℕ) → (step (kept_at harts h)).halted ≡ false → i ≢ h
    → IfSome (kept_at harts i).flight (HasDropped h (step (kept_at harts h)).cache))
    (others_dropped : (i : ℕ) → (kept_at harts i).halted ≡ false → i ≢ h
    → IfSome (step (kept_at harts h)).flight (HasDropped i (kept_at harts i).cache))
    (own_hearers : IfSome (step (kept_at harts h)).flight (AreHearers (length harts) h)) where
  same : kept_at (at_hart h step harts) h ≡ step (kept_at harts h)
  same = kept_at-same harts h step there

  agree_there : (i : ℕ) → (i ≡ h) ⊎ (i ≢ h) → (kept_at (at_hart h step harts) i).halted ≡ false
      → AreCurrent maps (kept_at (at_hart h step harts) i)
  agree_there i (inl e) =
      let is : kept_at (at_hart h step harts) i ≡ step (kept_at harts h) = ap (kept_at (at_hart h step harts)) e ∙ same in
      subst (λ (k : Kept). k.halted ≡ false → AreCurrent maps k) (sym is) own
  agree_there i (inr ne) =
      subst (λ (k : Kept). k.halted ≡ false → AreCurrent maps k) (sym (kept_at-other harts h step i ne)) (keeps.agree i)

  -- the second fact of hart j and the call of hart i
  fact_there : (j i : ℕ) → i ≢ j → (j ≡ h) ⊎ (j ≢ h) → (i ≡ h) ⊎ (i ≢ h) →
      (kept_at (at_hart h step harts) j).halted ≡ false → IfSome (kept_at (at_hart h step harts) i).flight
      (HasDropped j (kept_at (at_hart h step harts) j).cache)
  fact_there j i apart (inl ej) (inl ei) = absurd (apart (ei ∙ sym ej))
  fact_there j i apart (inl ej) (inr ni) =
      let isj : kept_at (at_hart h step harts) j ≡ step (kept_at harts h) = ap (kept_at (at_hart h step harts)) ej ∙ same in
      let isi = kept_at-other harts h step i ni in
      subst (λ (k : Kept). k.halted ≡ false → IfSome (kept_at (at_hart h step harts) i).flight (HasDropped j k.cache)) (sym isj)
      (subst (λ (o : Kept). (step (kept_at harts h)).halted ≡ false
      → IfSome o.flight (HasDropped j (step (kept_at harts h)).cache)) (sym isi)
      (subst (λ (n : ℕ). (step (kept_at harts h)).halted ≡ false
      → IfSome (kept_at harts i).flight (HasDropped n (step (kept_at harts h)).cache)) (sym ej)
      (λ running. own_dropped i running ni)))
  fact_there j i apart (inr nj) (inl ei) =
      let isi : kept_at (at_hart h step harts) i ≡ step (kept_at harts h) = ap (kept_at (at_hart h step harts)) ei ∙ same in
      let isj = kept_at-other harts h step j nj in
      subst (λ (k : Kept). k.halted ≡ false → IfSome (kept_at (at_hart h step harts) i).flight (HasDropped j k.cache)) (sym isj)
      (subst (λ (o : Kept). (kept_at harts j).halted ≡ false → IfSome o.flight (HasDropped j (kept_at harts j).cache)) (sym isi)
      (λ running. others_dropped j running nj))
  fact_there j i apart (inr nj) (inr ni) =
      let isi = kept_at-other harts h step i ni in
      let isj = kept_at-other harts h step j nj in
      subst (λ (k : Kept). k.halted ≡ false → IfSome (kept_at (at_hart h step harts) i).flight (HasDropped j k.cache)) (sym isj)
      (subst (λ (o : Kept). (kept_at harts j).halted ≡ false → IfSome o.flight (HasDropped j (kept_at harts j).cache)) (sym isi)
      (λ running. keeps.dropped j i running apart))

  hearers_there : (i : ℕ) → (i ≡ h) ⊎ (i ≢ h) → IfSome (kept_at (at_hart h step harts) i).flight (AreHearers (length harts) i)
  hearers_there i (inl e) =
      let is : kept_at (at_hart h step harts) i ≡ step (kept_at harts h) = ap (kept_at (at_hart h step harts)) e ∙ same in
      subst (λ (k : Kept). IfSome k.flight (AreHearers (length harts) i)) (sym is)
      (subst (λ (n : ℕ). IfSome (step (kept_at harts h)).flight (AreHearers (length harts) n)) (sym e) own_hearers)
  hearers_there i (inr ne) =
      subst (λ (k : Kept). IfSome k.flight (AreHearers (length harts) i)) (sym (kept_at-other harts h step i ne)) (keeps.hearers i)

  pub keeps_step : Keeps maps (at_hart h step harts)
  keeps_step = record {
    agree = λ i. agree_there i (cases_eq i h);
    dropped = λ j i running apart. fact_there j i apart (cases_eq j h) (cases_eq i h) running;
    hearers = λ i.
        subst (λ (n : ℕ). IfSome (kept_at (at_hart h step harts) i).flight (AreHearers n i)) (sym (length-at_hart harts h step))
        (hearers_there i (cases_eq i h));
    few = omega (arith, length-at_hart harts h step, keeps.few);
  }

-- a fact of whatever an option holds, made weaker
pub some_weaker : {A : Type 0} (P Q : A → Type 0) → ((x : A) → P x → Q x) → (o : Option A) → IfSome o P → IfSome o Q
some_weaker P Q f None p = tt
some_weaker P Q f (Some x) p = f x p

-- a span that agrees with a map agrees with it under a wider exemption
agrees_in_weaker : (maps : List (List Perm)) (own other : Option Flight)
    → ((m : List Perm) (s : Span) → AgreesWithMap m own s → AgreesWithMap m other s) →
    (d : Option ℕ) (s : Span) → AgreesIn maps own d s → AgreesIn maps other d s
agrees_in_weaker maps own other f None s p = p
agrees_in_weaker maps own other f (Some d) s p = f (map_of maps d) s p

-- the first fact of a hart with the same spans and another exemption
pub current_weaker : (maps : List (List Perm)) (own other : Option Flight) (d : Option ℕ) (c : Cache) →
    ((m : List Perm) (s : Span) → AgreesWithMap m own s → AgreesWithMap m other s) →
    EachSpan (λ e s. AgreesWithMap (map_of maps e) own s) (AgreesIn maps own d) c
    → EachSpan (λ e s. AgreesWithMap (map_of maps e) other s) (AgreesIn maps other d) c
current_weaker maps own other d c f each =
    each_weaker (λ e s p. f (map_of maps e) s p) (agrees_in_weaker maps own other f d) c each

agrees_more : (m : List Perm) (f : Flight) (s : Span) → AgreesWithMap m None s → AgreesWithMap m (Some f) s
agrees_more m f s a = record { at = λ word inside spared. a.at word inside refl }

agrees_from_none : (own : Option Flight) (f : Flight) → own ≡ None → (m : List Perm) (s : Span) → AgreesWithMap m own s
    → AgreesWithMap m (Some f) s
agrees_from_none own f e m s a = agrees_more m f s (subst (λ (o : Option Flight). AgreesWithMap m o s) e a)

-- nobody has heard a call that is just announced
nobody_in : (i : ℕ) → is_in nobody i ≡ false
nobody_in i = by (cases_lt i 4)
  where
    by : (i < 4) ⊎ (4 ≤ i) → is_in nobody i ≡ false
    by (inl lt) = get_or-replicate 4 i false false lt
    by (inr le) = get_or_past nobody i false le

module _ (maps : List (List Perm)) (harts : List Kept) (h : ℕ) (keeps : Keeps maps harts) (there : h < length harts) where
  pub announce-keeps : (first count : ℕ) → (kept_at harts h).flight ≡ None → Keeps maps (at_hart h (announced h first count) harts)
  announce-keeps first count free =
      let f : Flight = record { hart = h; first = first; count = count; heard = nobody } in
      keeps_step maps harts h (announced h first count) keeps there
      (λ running. current_weaker maps (kept_at harts h).flight (Some f) (kept_at harts h).domain (kept_at harts h).cache
      (agrees_from_none (kept_at harts h).flight f free) (keeps.agree h running))
      (λ i running apart. keeps.dropped h i running apart)
      (λ i running apart hit. let clash : true ≡ false = sym hit ∙ nobody_in i in cc)
      (record { places = refl; others = λ i hit. let clash : true ≡ false = sym hit ∙ nobody_in i in absurd (cc) })

  pub halt-keeps : Keeps maps (at_hart h halts harts)
  halt-keeps =
      keeps_step maps harts h halts keeps there
      (λ running. let clash : true ≡ false = running in cc)
      (λ i running apart. let clash : true ≡ false = running in cc)
      (λ i running apart. keeps.dropped i h running (λ e. apart (sym e)))
      (keeps.hearers h)

  pub leave-keeps : Keeps maps (at_hart h leaves_domain harts)
  leave-keeps =
      let k = kept_at harts h in
      keeps_step maps harts h leaves_domain keeps there
      (λ running. each_left (AgreesIn maps k.flight None) k.cache (keeps.agree h running))
      (λ i running apart. some_weaker (HasDropped h k.cache) (HasDropped h (leaves_domain k).cache)
      (λ f p hit. each_left (λ s. meets s f.first f.count ≡ false) k.cache (p hit)) (kept_at harts i).flight
      (keeps.dropped h i running apart))
      (λ i running apart. keeps.dropped i h running (λ e. apart (sym e)))
      (keeps.hearers h)

  pub drop-keeps : (first count : ℕ) → Keeps maps (at_hart h (drops_range first count) harts)
  drop-keeps first count =
      let k = kept_at harts h in
      keeps_step maps harts h (drops_range first count) keeps there
      (λ running. each_without first count k.cache (keeps.agree h running))
      (λ i running apart. some_weaker (HasDropped h k.cache) (HasDropped h (drops_range first count k).cache)
      (λ f p hit. each_without first count k.cache (p hit)) (kept_at harts i).flight (keeps.dropped h i running apart))
      (λ i running apart. keeps.dropped i h running (λ e. apart (sym e)))
      (keeps.hearers h)

  -- once its call has ended, the caller's spans agree without exemption, since none meets the range
  agrees_ended : (f : Flight) (m : List Perm) (s : Span) → AgreesWithMap m (Some f) s → meets s f.first f.count ≡ false
      → AgreesWithMap m None s
  agrees_ended f m s a apart = record { at = λ word inside spared. a.at word inside (outside_range s f.first f.count word apart inside) }

  in_ended : (f : Flight) (d : Option ℕ) (s : Span) → AgreesIn maps (Some f) d s → meets s f.first f.count ≡ false → AgreesIn maps None d s
  in_ended f None s a apart = a
  in_ended f (Some d) s a apart = agrees_ended f (map_of maps d) s a apart

  current_ended : (own : Option Flight) (d : Option ℕ) (c : Cache)
      → EachSpan (λ e s. AgreesWithMap (map_of maps e) own s) (AgreesIn maps own d) c →
      EachSpan (λ e s. AgreesWithMap (map_of maps e) None s) (AgreesIn maps None d) (without_flight_range own c)
  current_ended None d c each = each
  current_ended (Some f) d c each =
      each_weaker (λ e s p. agrees_ended f (map_of maps e) s p.0 p.1) (λ s p. in_ended f d s p.0 p.1) (without_range f.first f.count c)
      (each_dropped f.first f.count c each)

  dropped_ended : (own : Option Flight) (c : Cache) (first count : ℕ) → IsClear (first, count) c
      → IsClear (first, count) (without_flight_range own c)
  dropped_ended None c first count p = p
  dropped_ended (Some f) c first count p = each_without f.first f.count c p

  pub finish-keeps : Keeps maps (at_hart h finished harts)
  finish-keeps =
      let k = kept_at harts h in
      keeps_step maps harts h finished keeps there
      (λ running. current_ended k.flight k.domain k.cache (keeps.agree h running))
      (λ i running apart. some_weaker (HasDropped h k.cache) (HasDropped h (finished k).cache)
      (λ f p hit. dropped_ended k.flight k.cache f.first f.count (p hit)) (kept_at harts i).flight (keeps.dropped h i running apart))
      (λ i running apart. tt)
      tt

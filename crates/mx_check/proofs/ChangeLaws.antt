-- Coherence through a change: it meets no span of a hart that has heard of it, and the caller's own are exempt.
use Rattle.std.proofs.Common.{◌≡◌, ◌≢◌, ℕ, ◌+◌, ◌-◌, ◌<◌, ◌≤◌, ◌⊎◌, inl, inr, ◌==◌, ◌||◌, true, false, List, [], ◌∷◌, length, Option, Some}
use Rattle.std.proofs.Common.{None, refl, sym, ap, subst, ◌∙◌, arith}
use Rattle.std.specs.Prelude.{IfSome}
use Rattle.std.proofs.lemmas.Bool.{cases_eq, cases_lt, ne_eqb}
use Rattle.std.proofs.lemmas.List.{get_or_past}
use Rattle.mx_words.specs.declared.perm.Perm.{Perm}
use Rattle.mx_words.specs.declared.perm.Span.{Span}
use Rattle.mx_words.specs.Counting.{all_below}
use Rattle.mx_words.specs.Ranges.{covers}
use Rattle.mx_words.specs.Rights.{perm_at}
use Rattle.mx_words.specs.Caches.{meets}
use Rattle.mx_words.proofs.CountingLaws.{all_below-at}
use Rattle.mx_words.proofs.OverlayLaws.{covers_in}
use Rattle.mx_table.specs.declared.change.Change.{Change}
use Rattle.mx_table.specs.Change.{given, changed}
use Rattle.mx_table.specs.Tables.{map_of}
use Rattle.mx_words.specs.declared.perm.Perm.TheVariants as P
use Rattle.mx_check.specs.declared.flight.Flight.{Flight}
use Rattle.mx_words.specs.Hearing.{is_in}
use Rattle.mx_check.specs.Harts.{Kept, nothing_kept, kept_at}
use Rattle.mx_check.specs.Calls.{hart_lets_pass, ready_with, is_ready}
use Rattle.mx_check.specs.Coherence.{is_spared, AgreesWithMap, AgreesIn, AreCurrent, HasDropped, Keeps}
use Rattle.mx_check.specs.Conditions.{IsInside}
use Rattle.mx_words.proofs.SpanLaws.{each_weaker, outside_range, each_both}
use Rattle.mx_words.proofs.ChangeLaws.{beside-from}

-- maps stay as they were outside the range of a change
pub changed-outside : (c : Change) (maps : List (List Perm)) (d w : ℕ) → (w < c.first) ⊎ (c.first + c.count ≤ w) →
    perm_at (map_of (changed c maps) d) w ≡ perm_at (map_of maps d) w
changed-outside c maps d w out = beside-from c.first c.count (given c) 1 (d - 1) maps [] w out

-- a word outside a range that takes in the change's
outside : (c : Change) (f : Flight) (w : ℕ) → IsInside c f → covers f.first f.count w ≡ false → (w < c.first) ⊎ (c.first + c.count ≤ w)
outside c f w inside out = by (cases_lt w c.first) (cases_lt w (c.first + c.count))
  where
    by : (w < c.first) ⊎ (c.first ≤ w) → (w < c.first + c.count) ⊎ (c.first + c.count ≤ w) → (w < c.first) ⊎ (c.first + c.count ≤ w)
    by (inl lt) y = inl lt
    by (inr le) (inr far) = inr far
    by (inr le) (inl lt) =
        let i0 = inside.0 in
        let i1 = inside.1 in
        let hit : covers f.first f.count w ≡ true = covers_in f.first f.count w (omega arith) (omega arith) in
        let clash : true ≡ false = sym hit ∙ out in
        absurd (cc)

-- the range of a ready call: each other running hart has heard it
ready-heard : (harts : List Kept) (h i : ℕ) (f : Flight) → (kept_at harts h).flight ≡ Some f → is_ready h harts ≡ true → i < length harts
    → i ≢ h →
    (kept_at harts i).halted ≡ false → is_in f.heard i ≡ true
ready-heard harts h i f flying ready lt ne running =
    let all : all_below (length harts) (hart_lets_pass h f harts) ≡ true = sym (ap (λ (o : Option Flight). ready_with h o harts) flying)
    ∙ ready in
    let at : hart_lets_pass h f harts i ≡ true = all_below-at (length harts) i (hart_lets_pass h f harts) all lt in
    let other : (i == h) ≡ false = ne_eqb i h ne in
    sym (ap (λ b. b || (kept_at harts i).halted || is_in f.heard i) other ∙ ap (λ b. false || b || is_in f.heard i) running) ∙ at

module _ (maps : List (List Perm)) (harts : List Kept) (h : ℕ) (c : Change) (f : Flight) (keeps : Keeps maps harts)
    (flying : (kept_at harts h).flight ≡ Some f) (ready : is_ready h harts ≡ true) (inside : IsInside c f) where
  -- the caller's spans agree with the changed maps but for the words of its call
  own_agrees : (d : ℕ) (own : Option Flight) (s : Span) → own ≡ Some f → AgreesWithMap (map_of maps d) own s
      → AgreesWithMap (map_of (changed c maps) d) own s
  own_agrees d own s e a = record {
    at = λ word in_span spared.
        let out : covers f.first f.count word ≡ false = sym (ap (λ (o : Option Flight). is_spared o word) e) ∙ spared in
        changed-outside c maps d word (outside c f word inside out) ∙ a.at word in_span spared;
  }

  own_agrees_in : (d : Option ℕ) (own : Option Flight) (s : Span) → own ≡ Some f → AgreesIn maps own d s → AgreesIn (changed c maps) own d s
  own_agrees_in None own s e a = a
  own_agrees_in (Some d) own s e a = own_agrees d own s e a

  -- those of a hart that keeps no span of the range agree as before
  clear_agrees : (d : ℕ) (own : Option Flight) (s : Span) → AgreesWithMap (map_of maps d) own s → meets s f.first f.count ≡ false
      → AgreesWithMap (map_of (changed c maps) d) own s
  clear_agrees d own s a apart = record {
    at = λ word in_span spared. changed-outside c maps d word (outside c f word inside (outside_range s f.first f.count word apart in_span))
        ∙ a.at word in_span spared;
  }

  clear_agrees_in : (d : Option ℕ) (own : Option Flight) (s : Span) → AgreesIn maps own d s → meets s f.first f.count ≡ false
      → AgreesIn (changed c maps) own d s
  clear_agrees_in None own s a apart = a
  clear_agrees_in (Some d) own s a apart = clear_agrees d own s a apart

  dropped_there : (i : ℕ) → (kept_at harts i).halted ≡ false → i ≢ h → HasDropped i (kept_at harts i).cache f
  dropped_there i running ne =
      let F : Option Flight → Type 0 = λ o. IfSome o (HasDropped i (kept_at harts i).cache) in
      subst F flying (keeps.dropped i h running (λ e. ne (sym e)))

  agrees_there : (i : ℕ) → (kept_at harts i).halted ≡ false → (i ≡ h) ⊎ (i ≢ h) → (i < length harts) ⊎ (length harts ≤ i)
      → AreCurrent (changed c maps) (kept_at harts i)
  agrees_there i running (inl e) lt =
      let k = kept_at harts i in
      let flown : k.flight ≡ Some f = ap (λ n. (kept_at harts n).flight) e ∙ flying in
      each_weaker (λ d s a. own_agrees d k.flight s flown a) (λ s a. own_agrees_in k.domain k.flight s flown a) k.cache
      (keeps.agree i running)
  agrees_there i running (inr ne) (inl lt) =
      let k = kept_at harts i in
      let heard : is_in f.heard i ≡ true = ready-heard harts h i f flying ready lt ne running in
      each_weaker (λ d s a. clear_agrees d k.flight s a.0 a.1) (λ s a. clear_agrees_in k.domain k.flight s a.0 a.1) k.cache
      (each_both k.cache (keeps.agree i running) (dropped_there i running ne heard))
  agrees_there i running (inr ne) (inr le) =
      let past : kept_at harts i ≡ nothing_kept = get_or_past harts i nothing_kept le in
      let clash : true ≡ false = sym (ap (λ (k : Kept). k.halted) past) ∙ running in
      absurd (cc)

  pub change-keeps : Keeps (changed c maps) harts
  change-keeps = record {
    agree = λ i running. agrees_there i running (cases_eq i h) (cases_lt i (length harts));
    dropped = keeps.dropped;
    hearers = keeps.hearers;
    few = keeps.few;
  }

-- the same from the conditions as they are stated
pub change-keeps-ready : (maps : List (List Perm)) (harts : List Kept) (h : ℕ) (c : Change) → Keeps maps harts → is_ready h harts ≡ true →
    IfSome (kept_at harts h).flight (IsInside c) → Keeps (changed c maps) harts
change-keeps-ready maps harts h c keeps ready inside = by (kept_at harts h).flight refl inside
  where
    by : (o : Option Flight) → (kept_at harts h).flight ≡ o → IfSome o (IsInside c) → Keeps (changed c maps) harts
    by None e p =
        let clash : false ≡ true = sym (ap (λ (o : Option Flight). ready_with h o harts) e) ∙ ready in
        absurd (cc)
    by (Some f) e p = change-keeps maps harts h c f keeps e ready p

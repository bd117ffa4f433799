-- Coherence and checks: what the caches and the tables answer is the map's permission, and what is kept agrees with the map.
use Rattle.std.proofs.Common.{◌≡◌, ◌≢◌, ℕ, ◌-◌, ◌*◌, ◌/◌, ◌<◌, ◌≤◌, ◌⊎◌, inl, inr, ◌==◌, ◌&&◌, Bool, true, false, not, List, length, Option}
use Rattle.std.proofs.Common.{Some, None, refl, sym, ap, subst, ◌∙◌, arith}
use Rattle.std.specs.Prelude.{IfSome}
use Rattle.std.proofs.lemmas.Bool.{cases_lt, ne_eqb, not-false, not-true}
use Rattle.std.proofs.lemmas.List.{get_or_past}
use Rattle.mx_words.specs.declared.perm.Perm.{Perm}
use Rattle.mx_words.specs.declared.perm.Perm.TheVariants as P
use Rattle.mx_words.specs.declared.perm.Span.{Span}
use Rattle.std.specs.Option.{option_map_or, option_or}
use Rattle.mx_words.specs.declared.perm.Access.{Access}
use Rattle.mx_words.specs.declared.tables.Kind.{Kind}
use Rattle.mx_words.specs.Counting.{all_below}
use Rattle.mx_words.specs.Ranges.{ram_base, in_ram, word_of}
use Rattle.mx_words.specs.Rights.{perm_at, perm, allows, denies}
use Rattle.mx_words.specs.Caches.{covers_word, meets, found_in_place, found_kept}
use Rattle.mx_words.specs.Reach.{span}
use Rattle.mx_words.proofs.CountingLaws.{all_below-at}
use Rattle.mx_words.proofs.OverlayLaws.{covers_from}
use Rattle.std.proofs.lemmas.Bool.Decides.{nat_tests}
use Rattle.std.specs.Prelude.{cond}
use Rattle.mx_words.proofs.ReachLaws.{IsUniformRound, span_round}
use Rattle.mx_table.specs.Tables.{map_of}
use Rattle.mx_check.specs.declared.flight.Flight.{Flight}
use Rattle.mx_words.specs.Hearing.{is_in}
use Rattle.mx_words.specs.KeptSpans.{EachSpan}
use Rattle.mx_check.specs.Harts.{Kept, nothing_kept, kept_at, at_hart, leaves_domain}
use Rattle.mx_check.specs.Looks.{flight_forbids, hart_forbids, is_forbidden, found, with_domain, looks, looked_at, looked_at_address}
use Rattle.mx_check.specs.Looks.{decided_by, decided_at, decided}
use Rattle.mx_check.specs.Coherence.{AgreesWithMap, AgreesIn, HasDropped, Keeps}
use Rattle.mx_check.specs.Conditions.{MayLook}
use Rattle.mx_check.proofs.LookLaws.{length-at_hart, kept_at-same, kept_at-other}
use Rattle.mx_words.proofs.SpanLaws.{each_weaker, each_checked, has_found_in_place, has_found_kept}
use Rattle.mx_check.proofs.KeepLaws.{keeps_step}

-- a walked span agrees with the map, whatever is exempt
uniform_agrees : (m : List Perm) (own : Option Flight) (i : ℕ) (s : Span) → IsUniformRound m i s → AgreesWithMap m own s
uniform_agrees m own i s u = record { at = λ word inside spared. let c = covers_from s.first s.count word inside in u.alike word c.0 c.1 }

-- a span that isn't barred meets no range of a call that the hart has heard
second : (a b : Bool) → (a && b) ≡ false → a ≡ true → b ≡ false
second a b e hit = sym (ap (λ x. x && b) hit) ∙ e

unbarred : (h : ℕ) (s : Span) (harts : List Kept) (i : ℕ) (f : Flight) → is_forbidden h s harts ≡ false → i < length harts → i ≢ h →
    (kept_at harts i).flight ≡ Some f → is_in f.heard h ≡ true → meets s f.first f.count ≡ false
unbarred h s harts i f free lt ne flying hit =
    let all : all_below (length harts) (λ i. not (hart_forbids h s harts i)) ≡ true =
    not-false (all_below (length harts) (λ i. not (hart_forbids h s harts i))) free in
    let at : not (hart_forbids h s harts i) ≡ true = all_below-at (length harts) i (λ i. not (hart_forbids h s harts i)) all lt in
    let no_bar : hart_forbids h s harts i ≡ false = not-true (hart_forbids h s harts i) at in
    let other : not (i == h) ≡ true = ap not (ne_eqb i h ne) in
    let flight : flight_forbids h s (kept_at harts i).flight ≡ false =
    second (not (i == h)) (flight_forbids h s (kept_at harts i).flight) no_bar other in
    second (is_in f.heard h) (meets s f.first f.count) (sym (ap (flight_forbids h s) flying) ∙ flight) hit

flown_there : (harts : List Kept) (i : ℕ) (f : Flight) → (kept_at harts i).flight ≡ Some f → i < length harts
flown_there harts i f flying = by (cases_lt i (length harts))
  where
    by : (i < length harts) ⊎ (length harts ≤ i) → i < length harts
    by (inl lt) = lt
    by (inr le) =
        let none : None ≡ Some f = sym (ap (λ (k : Kept). k.flight) (get_or_past harts i nothing_kept le)) ∙ flying in
        absurd (cc)

-- a place's span is of the domain that is checked
module _ (maps : List (List Perm)) (own : Option Flight) (domain : ℕ) where
  pub of_domain : (kept : Option ℕ) → IfSome kept (λ d. d ≡ domain) → (s : Span) → AgreesIn maps own kept s
      → AgreesWithMap (map_of maps domain) own s
  of_domain None same s a = absurd a
  of_domain (Some d) same s a = subst (λ (n : ℕ). AgreesWithMap (map_of maps n) own s) same a

module _ (kind : Kind) (maps : List (List Perm)) (harts : List Kept) (h domain : ℕ) (keeps : Keeps maps harts)
    (may : MayLook h domain harts) where
  current_now : EachSpan (λ d s. AgreesWithMap (map_of maps d) (kept_at harts h).flight s) (λ s.
      AgreesWithMap (map_of maps domain) (kept_at harts h).flight s) (kept_at harts h).cache
  current_now =
      each_weaker (λ d s a. a) (of_domain maps (kept_at harts h).flight domain (kept_at harts h).domain may.same_domain)
      (kept_at harts h).cache (keeps.agree h may.running)

  -- the domain alone is named
  pub named-keeps : Keeps maps (at_hart h (with_domain domain) harts)
  named-keeps =
      keeps_step maps harts h (with_domain domain) keeps may.hart
      (λ running. current_now)
      (λ i running apart. keeps.dropped h i running apart)
      (λ i running apart. keeps.dropped i h running (λ e. apart (sym e)))
      (keeps.hearers h)

  module _ (most place word : ℕ) (s : Span) (round : IsUniformRound (map_of maps domain) word s) where
    clear_looked : (i : ℕ) → i ≢ h → (f : Flight) → (kept_at harts i).flight ≡ Some f → HasDropped h (kept_at harts h).cache f →
        HasDropped h (looks most place domain word s (is_forbidden h s harts) (kept_at harts h)).cache f
    clear_looked i ne f flying old hit =
        each_checked most place domain word s (is_forbidden h s harts) (kept_at harts h).cache (old hit) (λ t p. p)
        (λ free. unbarred h s harts i f free (flown_there harts i f flying) ne flying hit)

    dropped_looked : (i : ℕ) → i ≢ h → (o : Option Flight) → (kept_at harts i).flight ≡ o
        → IfSome o (HasDropped h (kept_at harts h).cache) →
        IfSome o (HasDropped h (looks most place domain word s (is_forbidden h s harts) (kept_at harts h)).cache)
    dropped_looked i ne None e old = tt
    dropped_looked i ne (Some f) e old = clear_looked i ne f e old

    pub looks-keeps : Keeps maps (at_hart h (looks most place domain word s (is_forbidden h s harts)) harts)
    looks-keeps =
        let k = kept_at harts h in
        keeps_step maps harts h (looks most place domain word s (is_forbidden h s harts)) keeps may.hart
        (λ running. each_checked most place domain word s (is_forbidden h s harts) k.cache current_now (λ t p. p)
        (λ free. uniform_agrees (map_of maps domain) k.flight word s round))
        (λ i running apart. dropped_looked i apart (kept_at harts i).flight refl (keeps.dropped h i running apart))
        (λ i running apart. keeps.dropped i h running (λ e. apart (sym e)))
        (keeps.hearers h)

    -- what decides is the map's permission
    unexempt : (t : Span) → AgreesWithMap (map_of maps domain) (kept_at harts h).flight t → covers_word t word ≡ true
        → t.perm ≡ perm_at (map_of maps domain) word
    unexempt t a inside =
        let a' : AgreesWithMap (map_of maps domain) None t = subst (λ (o : Option Flight). AgreesWithMap (map_of maps domain) o t) may.free
        a in
        sym (a'.at word inside refl)

    by_found : (a b : Option Span) → found_in_place (kept_at harts h).cache.places place word ≡ a
        → found_kept (kept_at harts h).cache.kept domain word ≡ b →
        (decided_by (option_or a b) s) ≡ perm_at (map_of maps domain) word
    by_found (Some t) b ea eb =
        let p = has_found_in_place (λ s. AgreesWithMap (map_of maps domain) (kept_at harts h).flight s) (kept_at harts h).cache.places place
        word t current_now.places ea in
        unexempt t p.0 p.1
    by_found None (Some t) ea eb =
        let p = has_found_kept (λ d s. AgreesWithMap (map_of maps d) (kept_at harts h).flight s) (kept_at harts h).cache.kept domain word t
        current_now.entries eb in
        unexempt t p.0 p.1
    by_found None None ea eb =
        sym (round.alike word round.left round.right)

    pub decided_is : decided_by (found place domain word (kept_at harts h).cache) s ≡ perm_at (map_of maps domain) word
    decided_is = by_found (found_in_place (kept_at harts h).cache.places place word) (found_kept (kept_at harts h).cache.kept domain word)
        refl refl

-- a hart that may check may check again after a step that names its domain and leaves its call and state as they are
again_after : (harts : List Kept) (h domain : ℕ) (step : Kept → Kept) → MayLook h domain harts → ((k : Kept) → (step k).halted ≡ k.halted) →
    ((k : Kept) → (step k).flight ≡ k.flight) → ((k : Kept) → (step k).domain ≡ Some domain) → MayLook h domain (at_hart h step harts)
again_after harts h domain step may running flying naming =
    let now = kept_at-same harts h step may.hart in
    record {
      hart = omega (arith, length-at_hart harts h step, may.hart);
      running = ap (λ (k : Kept). k.halted) now ∙ running (kept_at harts h) ∙ may.running;
      free = ap (λ (k : Kept). k.flight) now ∙ flying (kept_at harts h) ∙ may.free;
      heard = λ i ne. subst (λ (k : Kept). IfSome k.flight (λ f. is_in f.heard h ≡ true)) (sym (kept_at-other harts h step i ne))
          (may.heard i ne);
      same_domain = subst (λ (o : Option ℕ). IfSome o (λ d. d ≡ domain)) (sym (ap (λ (k : Kept). k.domain) now ∙ naming (kept_at harts h)))
          refl;
    }

-- the same for an address, which may lie outside RAM
module _ (kind : Kind) (maps : List (List Perm)) (harts : List Kept) (h domain most place address : ℕ) (keeps : Keeps maps harts)
    (may : MayLook h domain harts)
    (round : (word : ℕ) → word_of address (length (map_of maps domain)) ≡ Some word
    → IsUniformRound (map_of maps domain) word (span kind (map_of maps domain) word)) where
  keeps_at : (o : Option ℕ) → word_of address (length (map_of maps domain)) ≡ o
      → Keeps maps (looked_at most kind (map_of maps domain) h place domain o harts)
  keeps_at None e = named-keeps kind maps harts h domain keeps may
  keeps_at (Some word) e = looks-keeps kind maps harts h domain keeps may most place word (span kind (map_of maps domain) word)
      (round word e)

  pub looked-keeps : Keeps maps (looked_at_address most kind (map_of maps domain) h place domain address harts)
  looked-keeps = keeps_at (word_of address (length (map_of maps domain))) refl

  decided_there : (o : Option ℕ) → word_of address (length (map_of maps domain)) ≡ o →
      decided_at kind (map_of maps domain) place domain o (kept_at harts h).cache ≡ perm (map_of maps domain) address
  decided_there None e = sym (ap (λ (o : Option ℕ). option_map_or (perm_at (map_of maps domain)) o P.None) e)
  decided_there (Some word) e =
      decided_is kind maps harts h domain keeps may most place word (span kind (map_of maps domain) word) (round word e)
      ∙ sym (ap (λ (o : Option ℕ). option_map_or (perm_at (map_of maps domain)) o P.None) e)

  double : (b : Bool) → b ≡ not (not b)
  double true = refl
  double false = refl

  pub answer_is : (access : Access) → allows (decided kind (map_of maps domain) place domain address (kept_at harts h).cache) access
      ≡ not (denies (perm (map_of maps domain)) address access)
  answer_is access =
      ap (λ (p : Perm). allows p access) (decided_there (word_of address (length (map_of maps domain))) refl)
      ∙ double (allows (perm (map_of maps domain) address) access)

  -- the hart may check again
  again_at : (o : Option ℕ) → MayLook h domain (looked_at most kind (map_of maps domain) h place domain o harts)
  again_at None = again_after harts h domain (with_domain domain) may (λ k. refl) (λ k. refl) (λ k. refl)
  again_at (Some word) =
      again_after harts h domain (looks most place domain word (span kind (map_of maps domain) word)
      (is_forbidden h (span kind (map_of maps domain) word) harts)) may (λ k. refl) (λ k. refl) (λ k. refl)

  pub may_again : MayLook h domain (looked_at_address most kind (map_of maps domain) h place domain address harts)
  may_again = again_at (word_of address (length (map_of maps domain)))

-- the word of an address in RAM is one of RAM's words
word_below : (address words w : ℕ) → word_of address words ≡ Some w → w < words
word_below address words w e = by (in_ram address words) refl e
  where
    by : (b : Bool) → in_ram address words ≡ b → cond b (Some ((address - ram_base) / 4)) None ≡ Some w → w < words
    by true is e =
        let at : (address - ram_base) / 4 ≡ w = cc in
        let low : address - ram_base < 4 * words = grind (arith, nat_tests) in
        omega (arith, at, low)
    by false is e = cc

pub word_round : (kind : Kind) (m : List Perm) (address word : ℕ) → word_of address (length m) ≡ Some word
    → IsUniformRound m word (span kind m word)
word_round kind m address word e = span_round kind m word (word_below address (length m) word e)

-- a hart that has left its domain may check in any
pub leave_may : (harts : List Kept) (h domain next : ℕ) → MayLook h domain harts → MayLook h next (at_hart h leaves_domain harts)
leave_may harts h domain next may =
    let now = kept_at-same harts h leaves_domain may.hart in
    record {
      hart = omega (arith, length-at_hart harts h leaves_domain, may.hart);
      running = ap (λ (k : Kept). k.halted) now ∙ may.running;
      free = ap (λ (k : Kept). k.flight) now ∙ may.free;
      heard = λ i ne. subst (λ (k : Kept). IfSome k.flight (λ f. is_in f.heard h ≡ true)) (sym (kept_at-other harts h leaves_domain i ne))
          (may.heard i ne);
      same_domain = subst (λ (k : Kept). IfSome k.domain (λ d. d ≡ next)) (sym now) tt;
    }

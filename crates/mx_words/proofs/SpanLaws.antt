-- What holds of each span of a hart's caches, through the changes of the caches.
use Rattle.std.proofs.Common.{◌≡◌, ℕ, ◌<◌, ◌≤◌, ◌⊎◌, inl, inr, ◌==◌, Bool, true, false, cond, not, List, [], ◌∷◌, length, get_or, find}
use Rattle.std.proofs.Common.{Option, Some, None, refl, sym, ap, subst, ◌∙◌, arith}
use Rattle.std.specs.Prelude.{All, IfSome}
use Rattle.std.specs.Option.{option_map_or}
use Rattle.std.proofs.lemmas.Bool.Decides.{nat_tests}
use Rattle.std.proofs.lemmas.Bool.{cases_lt, eqb-true, and_parts}
use Rattle.std.proofs.lemmas.List.{get_or_past}
use Rattle.std.proofs.lemmas.List.Elements.{All-set, All-take, All-cons, All-nil, All-head, All-tail, All-weaker, All-map, All-replicate}
use Rattle.mx_words.specs.declared.perm.Span.{Span}
use Rattle.mx_words.specs.Ranges.{covers}
use Rattle.mx_words.specs.Caches.{Cache, Entry, covers_word, meets, is_for, in_place, found_in_place, found_kept, kept_without}
use Rattle.mx_words.specs.Caches.{without_range, left_domain, no_cache, checked, checked_at, checked_behind, with_walk}
use Rattle.mx_words.specs.KeptSpans.{EachSpan, IsClear, IsEmpty}

-- weaker facts
pub each_weaker : {E F : ℕ → Span → Type 0} {P Q : Span → Type 0} → ((d : ℕ) (s : Span) → E d s → F d s) → ((s : Span) → P s → Q s)
    → (c : Cache) →
    EachSpan E P c → EachSpan F Q c
each_weaker {E} {F} {P} {Q} f g c each = record {
  entries = All-weaker (λ (e : Entry). E e.0 e.1) (λ (e : Entry). F e.0 e.1) (λ e. f e.0 e.1) c.kept each.entries;
  places = All-weaker (λ (o : Option Span). IfSome o P) (λ (o : Option Span). IfSome o Q) place c.places each.places;
}
  where
    place : (o : Option Span) → IfSome o P → IfSome o Q
    place None p = tt
    place (Some s) p = g s p

-- empty caches
pub each_none : (E : ℕ → Span → Type 0) (P : Span → Type 0) (c : Cache) → IsEmpty c → EachSpan E P c
each_none E P c empty = record {
  entries = subst (λ (xs : List Entry). All (λ (e : Entry). E e.0 e.1) xs) (sym empty.kept) (All-nil (λ (e : Entry). E e.0 e.1));
  places = subst (λ (xs : List (Option Span)). All (λ (o : Option Span). IfSome o P) xs) (sym empty.places)
      (All-replicate (λ (o : Option Span). IfSome o P) 32 None tt);
}

-- no caches at all
pub no-spans : IsEmpty no_cache
no-spans = record { places = refl; kept = refl }

-- emptied places: nothing is said of them
pub each_left : {E : ℕ → Span → Type 0} {P : Span → Type 0} (Q : Span → Type 0) (c : Cache) → EachSpan E P c → EachSpan E Q (left_domain c)
each_left {E} {P} Q c each = record {
  entries = each.entries;
  places = All-replicate (λ (o : Option Span). IfSome o Q) 32 None tt;
}

-- what a place answers covers the word
pub has_found_in_place : (P : Span → Type 0) (places : List (Option Span)) (p word : ℕ) (s : Span)
    → All (λ (o : Option Span). IfSome o P) places →
    found_in_place places p word ≡ Some s → P s × (covers_word s word ≡ true)
has_found_in_place P places p word s all e = by (in_place places p) (there (cases_lt p (length places))) e
  where
    there : (p < length places) ⊎ (length places ≤ p) → IfSome (in_place places p) P
    there (inl lt) = all p None lt
    there (inr le) = subst (λ (o : Option Span). IfSome o P) (sym (get_or_past places p None le)) tt

    at : (t : Span) (b : Bool) → P t → covers_word t word ≡ b → cond b (Some t) None ≡ Some s → P s × (covers_word s word ≡ true)
    at t true holds covers e = let same : t ≡ s = cc in (subst P same holds, ap (λ (x : Span). covers_word x word) (sym same) ∙ covers)
    at t false holds covers e = cc

    by : (o : Option Span) → IfSome o P → option_map_or (λ s. cond (covers_word s word) (Some s) None) o None ≡ Some s
        → P s × (covers_word s word ≡ true)
    by None holds e = cc
    by (Some t) holds e = at t (covers_word t word) holds refl e

-- what the list answers is of the domain and covers the word
pub has_found_kept : (E : ℕ → Span → Type 0) (kept : List Entry) (domain word : ℕ) (s : Span) → All (λ (e : Entry). E e.0 e.1) kept →
    found_kept kept domain word ≡ Some s → E domain s × (covers_word s word ≡ true)
has_found_kept E [] domain word s all e = cc
has_found_kept E (x ∷ xs) domain word s all e =
    by (has_found_kept E xs domain word s (All-tail (λ (e : Entry). E e.0 e.1) x xs all)) (is_for domain word x) refl e
  where
    by : (found_kept xs domain word ≡ Some s → E domain s × (covers_word s word ≡ true)) → (b : Bool) → is_for domain word x ≡ b →
        option_map_or (λ (e : Entry). Some e.1) (cond b (Some x) (find (is_for domain word) xs)) None ≡ Some s
        → E domain s × (covers_word s word ≡ true)
    by rest true hit e =
        let parts = and_parts (x.0 == domain) (covers_word x.1 word) hit in
        let same : x.1 ≡ s = cc in
        let own : x.0 ≡ domain = eqb-true x.0 domain parts.0 in
        let here : E x.0 x.1 = All-head (λ (e : Entry). E e.0 e.1) x xs all in
        (subst (λ (d : ℕ). E d s) own (subst (λ (t : Span). E x.0 t) same here), ap (λ (t : Span). covers_word t word) (sym same) ∙ parts.1)
    by rest false miss e = rest e

-- a check keeps what holds of each span, where it holds of the span that goes into the place or is walked
module _ {E : ℕ → Span → Type 0} {P : Span → Type 0} (most p domain word : ℕ) (walked : Span) (barred : Bool) (c : Cache)
    (each : EachSpan E P c)
    (after_list : (s : Span) → E domain s → P s) (new : barred ≡ false → E domain walked) where
  after_walk : (b : Bool) → barred ≡ b → EachSpan E P (with_walk most p domain walked b c)
  after_walk true e = record { entries = each.entries; places = each.places }
  after_walk false e = record {
    entries = All-take (λ (x : Entry). E x.0 x.1) most ((domain, walked) ∷ c.kept)
        (All-cons (λ (x : Entry). E x.0 x.1) (domain, walked) c.kept (new e) each.entries);
    places = All-set (λ (o : Option Span). IfSome o P) c.places p (Some walked) (after_list walked (new e)) each.places;
  }

  behind : (o : Option Span) → found_kept c.kept domain word ≡ o → EachSpan E P (checked_behind most p domain walked barred o c)
  behind (Some s) e = record {
    entries = each.entries;
    places = All-set (λ (o : Option Span). IfSome o P) c.places p (Some s)
        (after_list s (has_found_kept E c.kept domain word s each.entries e).0) each.places;
  }
  behind None e = after_walk barred refl

  at_place : (o : Option Span) → found_in_place c.places p word ≡ o → EachSpan E P (checked_at most p domain word walked barred o c)
  at_place (Some s) e = record { entries = each.entries; places = each.places }
  at_place None e = behind (found_kept c.kept domain word) refl

  pub each_checked : EachSpan E P (checked most p domain word walked barred c)
  each_checked = at_place (found_in_place c.places p word) refl

-- spans dropped: what held still holds, and none meets the range
module _ {E : ℕ → Span → Type 0} {P : Span → Type 0} (first count : ℕ) (c : Cache) (each : EachSpan E P c) where
  entries_after : (xs : List Entry) → All (λ (x : Entry). E x.0 x.1) xs →
      All (λ (x : Entry). E x.0 x.1 × (meets x.1 first count ≡ false)) (kept_without first count xs)
  entries_after [] all = All-nil (λ (x : Entry). E x.0 x.1 × (meets x.1 first count ≡ false))
  entries_after (x ∷ xs) all =
      by (entries_after xs (All-tail (λ (y : Entry). E y.0 y.1) x xs all)) (meets x.1 first count) refl
    where
      by : All (λ (y : Entry). E y.0 y.1 × (meets y.1 first count ≡ false)) (kept_without first count xs) → (b : Bool)
          → meets x.1 first count ≡ b →
          All (λ (y : Entry). E y.0 y.1 × (meets y.1 first count ≡ false))
          (cond (not b) (x ∷ kept_without first count xs) (kept_without first count xs))
      by rest true e = rest
      by rest false e = All-cons (λ (y : Entry). E y.0 y.1 × (meets y.1 first count ≡ false)) x (kept_without first count xs)
          (All-head (λ (y : Entry). E y.0 y.1) x xs all, e) rest

  place_after : (o : Option Span) → IfSome o P →
      IfSome (option_map_or (λ s. cond (meets s first count) None (Some s)) o None) (λ s. P s × (meets s first count ≡ false))
  place_after None holds = tt
  place_after (Some s) holds = by (meets s first count) refl
    where
      by : (b : Bool) → meets s first count ≡ b → IfSome (cond b None (Some s)) (λ s. P s × (meets s first count ≡ false))
      by true e = tt
      by false e = (holds, e)

  pub each_dropped : EachSpan (λ d s. E d s × (meets s first count ≡ false)) (λ s. P s × (meets s first count ≡ false))
      (without_range first count c)
  each_dropped = record {
    entries = entries_after c.kept each.entries;
    places = All-map (λ (o : Option Span). IfSome o (λ s. P s × (meets s first count ≡ false)))
        (λ o. option_map_or (λ s. cond (meets s first count) None (Some s)) o None) c.places
        (All-weaker (λ (o : Option Span). IfSome o P)
        (λ (o : Option Span). IfSome (option_map_or (λ s. cond (meets s first count) None (Some s)) o None) (λ s.
        P s × (meets s first count ≡ false)))
        place_after c.places each.places);
  }

  pub each_without : EachSpan E P (without_range first count c)
  each_without = each_weaker (λ d s x. x.0) (λ s x. x.0) (without_range first count c) each_dropped

  pub each_clear : IsClear (first, count) (without_range first count c)
  each_clear = each_weaker (λ d s x. x.1) (λ s x. x.1) (without_range first count c) each_dropped

-- a word of a span that doesn't meet a range isn't in the range
pub outside_range : (s : Span) (first count word : ℕ) → meets s first count ≡ false → covers_word s word ≡ true
    → covers first count word ≡ false
outside_range s first count word apart inside = by (covers first count word) refl
  where
    meeting : covers first count word ≡ true → meets s first count ≡ true
    meeting e = grind (arith, nat_tests)

    by : (b : Bool) → covers first count word ≡ b → covers first count word ≡ false
    by false e = e
    by true e = let clash : true ≡ false = sym (meeting e) ∙ apart in cc

-- two facts of each span at once
pub each_both : {E F : ℕ → Span → Type 0} {P Q : Span → Type 0} (c : Cache) → EachSpan E P c → EachSpan F Q c →
    EachSpan (λ d s. E d s × F d s) (λ s. P s × Q s) c
each_both {E} {F} {P} {Q} c a b = record {
  entries = λ k d lt. (a.entries k d lt, b.entries k d lt);
  places = λ k d lt. place (get_or c.places k d) (a.places k d lt) (b.places k d lt);
}
  where
    place : (o : Option Span) → IfSome o P → IfSome o Q → IfSome o (λ s. P s × Q s)
    place None p q = tt
    place (Some s) p q = (p, q)

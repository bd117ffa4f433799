-- A check that walks: what is asked of the caches first, and what the walk does to them then.
use Rattle.std.proofs.Common.{◌≡◌, ◌≢◌, ℕ, zero, suc, ◌<◌, ◌⊎◌, inl, inr, ◌==◌, ◌&&◌, Bool, true, not, List, length, set, Option, Some}
use Rattle.std.proofs.Common.{None}
use Rattle.std.proofs.Common.{refl, sym, ap, ◌∙◌, arith, length-set, get_or-set_same, get_or-set_other, eq-eqb}
use Rattle.std.specs.Option.{option_map}
use Rattle.std.proofs.lemmas.Bool.{cases_eq}
use Rattle.std.proofs.lemmas.List.{set-set}
use Rattle.mx_words.specs.declared.perm.Perm.{Perm}
use Rattle.mx_words.specs.declared.perm.Span.{Span}
use Rattle.mx_words.specs.Counting.{all_below}
use Rattle.mx_words.specs.Caches.{found_in_place, found_kept}
use Rattle.mx_words.proofs.OptionLaws.{neither, unmapped}
use Rattle.mx_check.specs.Harts.{Kept, nothing_kept, kept_at, at_hart}
use Rattle.mx_check.specs.Looks.{flight_forbids, hart_forbids, is_forbidden, found, after_caches, after_walk, looks, decided_by}

-- two tests that agree below a number
pub all_below_agree : (n : ℕ) (p q : ℕ → Bool) → ((i : ℕ) → i < n → p i ≡ q i) → all_below n p ≡ all_below n q
unfolding all_below
all_below_agree zero p q agree = refl
all_below_agree (suc n) p q agree =
    ap (λ b. b && p n) (all_below_agree n p q (λ i lt. agree i (omega arith))) ∙ ap (λ b. all_below n q && b) (agree n (omega arith))

-- the harts after a step of hart h
module _ (harts : List Kept) (h : ℕ) (step : Kept → Kept) where
  pub length-at_hart : length (at_hart h step harts) ≡ length harts
  length-at_hart = length-set harts h (step (kept_at harts h))

  pub kept_at-same : h < length harts → kept_at (at_hart h step harts) h ≡ step (kept_at harts h)
  kept_at-same there = get_or-set_same harts h (step (kept_at harts h)) nothing_kept there

  pub kept_at-other : (i : ℕ) → i ≢ h → kept_at (at_hart h step harts) i ≡ kept_at harts i
  kept_at-other i other = get_or-set_other harts h i (step (kept_at harts h)) nothing_kept other

-- two steps of one hart
pub at_hart-twice : (harts : List Kept) (h : ℕ) (f g : Kept → Kept) → h < length harts
    → at_hart h f (at_hart h g harts) ≡ at_hart h (λ k. f (g k)) harts
at_hart-twice harts h f g there =
    set-set harts h (g (kept_at harts h)) (f (kept_at (at_hart h g harts) h))
    ∙ ap (λ (k : Kept). set harts h (f k)) (kept_at-same harts h g there)

-- whether a hart's call bars a span, after a step that leaves the calls in flight
pub hart_forbids-other : (h : ℕ) (s : Span) (harts other : List Kept) (i : ℕ)
    → ((i ≢ h) → (kept_at other i).flight ≡ (kept_at harts i).flight) →
    hart_forbids h s other i ≡ hart_forbids h s harts i
hart_forbids-other h s harts other i same = by (cases_eq i h)
  where
    by : (i ≡ h) ⊎ (i ≢ h) → hart_forbids h s other i ≡ hart_forbids h s harts i
    by (inl e) =
        let own : (i == h) ≡ true = eq-eqb i h e in
        ap (λ b. not b && flight_forbids h s (kept_at other i).flight) own
        ∙ sym (ap (λ b. not b && flight_forbids h s (kept_at harts i).flight) own)
    by (inr ne) = ap (λ f. not (i == h) && flight_forbids h s f) (same ne)

pub is_forbidden-same : (h : ℕ) (s : Span) (harts : List Kept) (step : Kept → Kept)
    → is_forbidden h s (at_hart h step harts) ≡ is_forbidden h s harts
is_forbidden-same h s harts step =
    let other = at_hart h step harts in
    ap (λ n. not (all_below n (λ i. not (hart_forbids h s other i)))) (length-at_hart harts h step)
    ∙ ap not (all_below_agree (length harts) (λ i. not (hart_forbids h s other i)) (λ i. not (hart_forbids h s harts i))
    (λ i lt. ap not (hart_forbids-other h s harts other i (λ ne. ap (λ (k : Kept). k.flight) (kept_at-other harts h step i ne)))))

-- a walk after the asking is the whole check
asked_walked : (most place domain word : ℕ) (s : Span) (barred : Bool) (k : Kept) (a b : Option Span) → a ≡ None → b ≡ None →
    a ≡ found_in_place k.cache.places place word → b ≡ found_kept k.cache.kept domain word →
    after_walk most place domain s barred (after_caches place domain word k) ≡ looks most place domain word s barred k
asked_walked most place domain word s barred k a b ea eb ia ib =
    let pa : found_in_place k.cache.places place word ≡ None = sym ia ∙ ea in
    let pb : found_kept k.cache.kept domain word ≡ None = sym ib ∙ eb in
    rw (pa, pb) refl

pub walk_is_look : (most h place domain word : ℕ) (s : Span) (harts : List Kept) → h < length harts →
    None ≡ option_map (λ (s : Span). s.perm) (found place domain word (kept_at harts h).cache) →
    at_hart h (after_walk most place domain s (is_forbidden h s (at_hart h (after_caches place domain word) harts)))
    (at_hart h (after_caches place domain word) harts)
    ≡ at_hart h (looks most place domain word s (is_forbidden h s harts)) harts
walk_is_look most h place domain word s harts there miss =
    let k = kept_at harts h in
    let none : found place domain word k.cache ≡ None = unmapped (λ (s : Span). s.perm) (found place domain word k.cache) (sym miss) in
    let parts = neither (found_in_place k.cache.places place word) (found_kept k.cache.kept domain word) none in
    ap (λ (b : Bool). at_hart h (after_walk most place domain s b) (at_hart h (after_caches place domain word) harts))
    (is_forbidden-same h s harts (after_caches place domain word))
    ∙ at_hart-twice harts h (after_walk most place domain s (is_forbidden h s harts)) (after_caches place domain word) there
    ∙ ap (λ (x : Kept). set harts h x) (asked_walked most place domain word s (is_forbidden h s harts) k _ _ parts.0 parts.1 refl refl)

-- the same of the harts that the asking left, and of those after the walk
pub walked_is_look : (most h place domain word : ℕ) (s : Span) (harts asked after : List Kept) → h < length harts →
    None ≡ option_map (λ (s : Span). s.perm) (found place domain word (kept_at harts h).cache) →
    asked ≡ at_hart h (after_caches place domain word) harts → after
    ≡ at_hart h (after_walk most place domain s (is_forbidden h s asked)) asked →
    after ≡ at_hart h (looks most place domain word s (is_forbidden h s harts)) harts
walked_is_look most h place domain word s harts asked after there miss ask walk =
    walk ∙ ap (λ (hs : List Kept). at_hart h (after_walk most place domain s (is_forbidden h s hs)) hs) ask
    ∙ walk_is_look most h place domain word s harts there miss

-- an answer of the caches is the whole check
pub asked_is_look : (most h place domain word : ℕ) (s : Span) (harts asked : List Kept) (p : Perm) →
    Some p ≡ option_map (λ (s : Span). s.perm) (found place domain word (kept_at harts h).cache) →
    asked ≡ at_hart h (after_caches place domain word) harts →
    asked ≡ at_hart h (looks most place domain word s (is_forbidden h s harts)) harts
asked_is_look most h place domain word s harts asked p hit ask =
    ask ∙ ap (λ (x : Kept). set harts h x) (by (found_in_place k.cache.places place word) (found_kept k.cache.kept domain word) refl refl)
  where
    k : Kept
    k = kept_at harts h

    by : (a b : Option Span) → found_in_place k.cache.places place word ≡ a → found_kept k.cache.kept domain word ≡ b →
        after_caches place domain word k ≡ looks most place domain word s (is_forbidden h s harts) k
    by (Some t) b ea eb = rw ea refl
    by None (Some t) ea eb = rw (ea, eb) refl
    by None None ea eb = absurd (let none = rw (ea, eb) at hit in cc)

-- what the caches answer decides; where they don't answer, the walk does
pub hit_decides : (o : Option Span) (s : Span) (p : Perm) → Some p ≡ option_map (λ (s : Span). s.perm) o → p ≡ decided_by o s
hit_decides (Some t) s p e = cc
hit_decides None s p e = absurd (cc)

pub walk_decides : (o : Option Span) (s : Span) → None ≡ option_map (λ (s : Span). s.perm) o → s.perm ≡ decided_by o s
walk_decides (Some t) s e = absurd (cc)
walk_decides None s e = refl

-- Fetches that place 0 answers, many of them at once: what they leave, that coherence stays, and that another check may come before or
-- after them.
use Rattle.std.proofs.Common.{◌≡◌, ◌≢◌, ℕ, zero, suc, ◌+◌, ◌-◌, ◌^◌, ◌<◌, ◌≤◌, min, Bool, true, false, nat_lt, if◌then◌else◌, List, length}
use Rattle.std.proofs.Common.{set, Option, Some, None, refl, sym, ap, subst, ◌∙◌, arith}
use Rattle.std.specs.Prelude.{IfSome}
use Rattle.std.proofs.lemmas.Bool.Decides.{nat_tests}
use Rattle.std.proofs.lemmas.List.{set-get_or}
use Rattle.mx_words.specs.declared.perm.Perm.{Perm}
use Rattle.mx_words.specs.declared.perm.Span.{Span}
use Rattle.mx_words.specs.declared.tables.Kind.{Kind}
use Rattle.mx_words.specs.Caches.{Cache, checked, checked_at, checked_behind, found_in_place, found_kept, meets, raised, with_place_hit}
use Rattle.mx_words.specs.Caches.{with_walk}
use Rattle.mx_words.specs.Ranges.{word_of}
use Rattle.mx_words.specs.Reach.{span}
use Rattle.mx_words.specs.KeptSpans.{EachSpan}
use Rattle.mx_table.specs.Tables.{map_of}
use Rattle.mx_check.specs.Coherence.{AgreesWithMap, HasDropped, Keeps}
use Rattle.mx_check.specs.Harts.{Kept, at_hart, kept_at, nothing_kept}
use Rattle.mx_check.specs.Looks.{hits, hits_all, is_forbidden, looked_at_address, looked_at, looks, with_domain}
use Rattle.mx_check.proofs.KeepLaws.{keeps_step, some_weaker}
use Rattle.mx_check.proofs.LookLaws.{at_hart-twice, kept_at-same, is_forbidden-same, length-at_hart}
use Rattle.mx_check.proofs.MayLaws.{of_domain}
use Rattle.mx_words.proofs.SpanLaws.{each_weaker}

-- the count of the places' answers
raised-is : (x most : ℕ) → x ≤ most → (if nat_lt x most then x + 1 else x) ≡ min (x + 1) most
raised-is x most le = grind (arith, nat_tests)

raised-more : (c n most : ℕ) → min (c + suc (suc n)) most ≡ min (min (c + suc n) most + 1) most
raised-more c n most = omega arith

least-most : (a most : ℕ) → min a most ≤ most
least-most a most = omega arith

-- a hart with another count and the domain named
abbrev counting : ℕ → ℕ → Kept → Kept
counting domain s k = record k { cache = record k.cache { sidecar = s }; domain = Some domain }

hits-more : (n domain : ℕ) (k : Kept) (s : ℕ) → k.cache.sidecar ≤ 2 ^ 64 - 1 → s ≡ min (k.cache.sidecar + suc n) (2 ^ 64 - 1)
    → counting domain s k ≡ hits_all (suc n) domain k
hits-more zero domain k s le e =
    let one : min (k.cache.sidecar + 1) (2 ^ 64 - 1) ≡ raised k.cache.sidecar = sym (raised-is k.cache.sidecar (2 ^ 64 - 1) le) in
    ap (λ (x : ℕ). counting domain x k) (e ∙ one)
hits-more (suc n) domain k s le e =
    let before = min (k.cache.sidecar + suc n) (2 ^ 64 - 1) in
    let one : min (before + 1) (2 ^ 64 - 1) ≡ raised before =
    sym (raised-is before (2 ^ 64 - 1) (least-most (k.cache.sidecar + suc n) (2 ^ 64 - 1))) in
    ap (λ (x : ℕ). counting domain x k) (e ∙ raised-more k.cache.sidecar n (2 ^ 64 - 1) ∙ one)
    ∙ ap (λ (x : Kept). hits domain x) (hits-more n domain k before le refl)

pub hits-none : (n domain : ℕ) (k : Kept) → n ≡ 0 → k ≡ hits_all n domain k
hits-none n domain k e = ap (λ (i : ℕ). hits_all i domain k) (sym e)

pub some-but-none : (n : ℕ) → n ≢ 0 → 1 ≤ n
some-but-none n ne = omega arith

pub hits-counted : (n domain : ℕ) (k : Kept) (s : ℕ) → 1 ≤ n → k.cache.sidecar ≤ 2 ^ 64 - 1 → s ≡ min (k.cache.sidecar + n) (2 ^ 64 - 1)
    → counting domain s k ≡ hits_all n domain k
hits-counted zero domain k s some le e = absurd (omega (arith, some))
hits-counted (suc n) domain k s some le e = hits-more n domain k s le e

-- a check before them or after
module _ (most p domain word : ℕ) (walked : Span) where
  walk-hit : (c : Cache) (b : Bool) → with_walk most p domain walked b (with_place_hit c)
      ≡ with_place_hit (with_walk most p domain walked b c)
  walk-hit c true = refl
  walk-hit c false = refl

  behind-hit : (c : Cache) (b : Bool) (o : Option Span) → checked_behind most p domain walked b o (with_place_hit c)
      ≡ with_place_hit (checked_behind most p domain walked b o c)
  behind-hit c b (Some s) = refl
  behind-hit c b None = walk-hit c b

  at-hit : (c : Cache) (b : Bool) (o : Option Span) → checked_at most p domain word walked b o (with_place_hit c)
      ≡ with_place_hit (checked_at most p domain word walked b o c)
  at-hit c b (Some s) = refl
  at-hit c b None = behind-hit c b (found_kept c.kept domain word)

  checked-hit : (c : Cache) (b : Bool) → checked most p domain word walked b (with_place_hit c)
      ≡ with_place_hit (checked most p domain word walked b c)
  checked-hit c b = at-hit c b (found_in_place c.places p word)

module _ (most : ℕ) (kind : Kind) (m : List Perm) (h p domain : ℕ) (harts : List Kept) (there : h < length harts) where
  hit-at : (o : Option ℕ) → looked_at most kind m h p domain o (at_hart h (hits domain) harts)
      ≡ at_hart h (hits domain) (looked_at most kind m h p domain o harts)
  hit-at None = at_hart-twice harts h (with_domain domain) (hits domain) there
      ∙ sym (at_hart-twice harts h (hits domain) (with_domain domain) there)
  hit-at (Some w) =
      let s = span kind m w in
      let b = is_forbidden h s harts in
      let k = kept_at harts h in
      ap (λ (x : Bool). at_hart h (looks most p domain w s x) (at_hart h (hits domain) harts)) (is_forbidden-same h s harts (hits domain))
      ∙ at_hart-twice harts h (looks most p domain w s b) (hits domain) there
      ∙ ap (λ (c : Cache). set harts h (record k { cache = c; domain = Some domain })) (checked-hit most p domain w s k.cache b)
      ∙ sym (at_hart-twice harts h (hits domain) (looks most p domain w s b) there)

  pub hit-after : (address : ℕ) → looked_at_address most kind m h p domain address (at_hart h (hits domain) harts)
      ≡ at_hart h (hits domain) (looked_at_address most kind m h p domain address harts)
  hit-after address = hit-at (word_of address (length m))

-- what they keep of a hart
pub record SameButCount (now before : Kept) : Type 0 where
  pub places : now.cache.places ≡ before.cache.places
  pub halted : now.halted ≡ before.halted
  pub flight : now.flight ≡ before.flight

pub hits-same : (n domain : ℕ) (k : Kept) → SameButCount (hits_all n domain k) k
hits-same zero domain k = record { places = refl; halted = refl; flight = refl }
hits-same (suc n) domain k = let s = hits-same n domain k in record { places = s.places; halted = s.halted; flight = s.flight }

pub hits-named : (n domain : ℕ) (k : Kept) → IfSome k.domain (λ d. d ≡ domain) → IfSome (hits_all n domain k).domain (λ d. d ≡ domain)
hits-named zero domain k same = same
hits-named (suc n) domain k same = refl

-- none leaves the harts, and one more is one after the others
pub none-hit : (h domain : ℕ) (harts : List Kept) → at_hart h (hits_all 0 domain) harts ≡ harts
none-hit h domain harts = set-get_or harts h nothing_kept

pub more-hit : (h n domain : ℕ) (harts : List Kept) → h < length harts
    → at_hart h (hits domain) (at_hart h (hits_all n domain) harts) ≡ at_hart h (hits_all (suc n) domain) harts
more-hit h n domain harts there = at_hart-twice harts h (hits domain) (hits_all n domain) there

-- coherence stays
again : (E : ℕ → Span → Type 0) (P : Span → Type 0) (c : Cache) → EachSpan E P c → EachSpan E P (with_place_hit c)
again E P c each = record { entries = each.entries; places = each.places }

module _ (maps : List (List Perm)) (h domain : ℕ) where
  hit-keeps : (harts : List Kept) → Keeps maps harts → h < length harts → IfSome (kept_at harts h).domain (λ d. d ≡ domain)
      → Keeps maps (at_hart h (hits domain) harts)
  hit-keeps harts keeps there same =
      let k = kept_at harts h in
      keeps_step maps harts h (hits domain) keeps there
      (λ running. again (λ d s. AgreesWithMap (map_of maps d) k.flight s) (λ s. AgreesWithMap (map_of maps domain) k.flight s) k.cache
      (each_weaker (λ d s a. a) (of_domain maps k.flight domain k.domain same) k.cache (keeps.agree h running)))
      (λ i running apart. some_weaker (HasDropped h k.cache) (HasDropped h (with_place_hit k.cache))
      (λ f p hit. again (λ d s. meets s f.first f.count ≡ false) (λ s. meets s f.first f.count ≡ false) k.cache (p hit))
      (kept_at harts i).flight (keeps.dropped h i running apart))
      (λ i running apart. keeps.dropped i h running (λ e. apart (sym e)))
      (keeps.hearers h)

  pub hits-keep : (n : ℕ) (harts : List Kept) → Keeps maps harts → h < length harts → IfSome (kept_at harts h).domain (λ d. d ≡ domain)
      → Keeps maps (at_hart h (hits_all n domain) harts)
  hits-keep zero harts keeps there same = subst (λ (hs : List Kept). Keeps maps hs) (sym (none-hit h domain harts)) keeps
  hits-keep (suc n) harts keeps there same =
      let before = at_hart h (hits_all n domain) harts in
      let named : IfSome (kept_at before h).domain (λ d. d ≡ domain) =
      subst (λ (k : Kept). IfSome k.domain (λ d. d ≡ domain)) (sym (kept_at-same harts h (hits_all n domain) there))
      (hits-named n domain (kept_at harts h) same) in
      let still : h < length before = subst (λ (i : ℕ). h < i) (sym (length-at_hart harts h (hits_all n domain))) there in
      subst (λ (hs : List Kept). Keeps maps hs) (more-hit h n domain harts there)
      (hit-keeps before (hits-keep n harts keeps there same) still named)

-- A fetch at hand: its check is a hit of place 0, and is allowed.
use Rattle.std.proofs.Common.{◌≡◌, ℕ, true, List, length, refl, sym, ap, ◌∙◌, Option, Some, None, Bool}
use Rattle.std.specs.Option.{option_map, option_or}
use Rattle.mx_words.specs.declared.perm.Access.TheVariants.{Execute}
use Rattle.mx_words.specs.declared.perm.Perm.{Perm}
use Rattle.mx_words.specs.declared.perm.Perm.TheVariants as P
use Rattle.mx_words.specs.declared.perm.Span.{Span}
use Rattle.mx_words.specs.declared.tables.Kind.{Kind}
use Rattle.mx_words.specs.Caches.{Cache, checked, checked_at, found_in_place, found_kept, with_place_hit}
use Rattle.mx_words.specs.Reach.{span}
use Rattle.mx_words.specs.Rights.{allows}
use Rattle.mx_check.specs.Conditions.{IsAtHand}
use Rattle.mx_check.specs.Harts.{Kept, at_hart, kept_at}
use Rattle.mx_check.specs.Looks.{decided, decided_at, decided_by, found, hits, is_forbidden, looked_at_address, looked_at}

-- a place answers
hit-checked : (most domain word : ℕ) (s : Span) (barred : Bool) (c : Cache) (o : Option Span) → found_in_place c.places 0 word ≡ o
    → option_map (λ s. s.perm) o ≡ Some P.ExecuteRead →
    checked most 0 domain word s barred c ≡ with_place_hit c
hit-checked most domain word s barred c None e q = absurd (let z : ⊥ = cc in z)
hit-checked most domain word s barred c (Some t) e q = ap (λ (o : Option Span). checked_at most 0 domain word s barred o c) e

hit-decided : (c : Cache) (domain word : ℕ) (s : Span) (o : Option Span) → found_in_place c.places 0 word ≡ o
    → option_map (λ s. s.perm) o ≡ Some P.ExecuteRead →
    allows (decided_by (found 0 domain word c) s) Execute ≡ true
hit-decided c domain word s None e q = absurd (let z : ⊥ = cc in z)
hit-decided c domain word s (Some t) e q =
    let right : t.perm ≡ P.ExecuteRead = cc in
    ap (λ (o : Option Span). allows (decided_by (option_or o (found_kept c.kept domain word)) s) Execute) e
    ∙ ap (λ (p : Perm). allows p Execute) right

module _ (most : ℕ) (kind : Kind) (m : List Perm) (h domain address : ℕ) (harts : List Kept)
    (hand : IsAtHand (length m) (kept_at harts h).cache address) where
  -- the harts after the check
  pub looked-hit : at_hart h (hits domain) harts ≡ looked_at_address most kind m h 0 domain address harts
  looked-hit =
      let s = span kind m hand.word in
      let c = (kept_at harts h).cache in
      sym (ap (λ (o : Option ℕ). looked_at most kind m h 0 domain o harts) hand.here
      ∙ ap (λ (x : Cache). at_hart h (λ (k : Kept). record k { cache = x; domain = Some domain }) harts)
      (hit-checked most domain hand.word s (is_forbidden h s harts) c (found_in_place c.places 0 hand.word) refl hand.right))

  -- it may be executed
  pub decided-hit : allows (decided kind m 0 domain address (kept_at harts h).cache) Execute ≡ true
  decided-hit =
      let c = (kept_at harts h).cache in
      ap (λ (o : Option ℕ). allows (decided_at kind m 0 domain o c) Execute) hand.here
      ∙ hit-decided c domain hand.word (span kind m hand.word) (found_in_place c.places 0 hand.word) refl hand.right

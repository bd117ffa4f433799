-- Coherence under a change of rights: permissions follow where the new ones are the old beside the change.
use Rattle.std.proofs.Common.{◌≡◌, ℕ, true, false, refl, sym, ◌∙◌, Option, Some, None, Bool}
use Rattle.std.specs.Prelude.{IfSome}
use Rattle.mx_words.specs.declared.perm.Span.{Span}
use Rattle.mx_words.specs.Caches.{Cache, meets}
use Rattle.mx_words.specs.Ranges.{covers}
use Rattle.mx_words.specs.KeptSpans.{IsClear}
use Rattle.mx_model.specs.Reads.{Change, Reads}
use Rattle.mx_model.specs.State.{Core}
use Rattle.mx_model.specs.Turn.{Made}
use Rattle.mx_coherence.specs.Spans.{AgreesIn, AreCurrent}
use Rattle.mx_coherence.specs.Coherence.{IsCoherent}
use Rattle.mx_words.proofs.SpanLaws.{each_both, each_weaker, outside_range}

-- a word lies beside a change, if there is one
abbrev pub IsBeside : Option Change → ℕ → Type 0
IsBeside None w = Unit {0}
IsBeside (Some c) w = covers c.first c.count w ≡ false

-- the answers q on permissions are those of r beside a change
pub record Follows (r q : Reads) (o : Option Change) : Type 0 where
  pub at : (d w : ℕ) → IsBeside o w → q.perm d w ≡ r.perm d w

-- a change lies in a range
abbrev pub IsInside : ℕ × ℕ → Change → Type 0
IsInside range c = (w : ℕ) → covers c.first c.count w ≡ true → covers range.0 range.1 w ≡ true

beside : (o : Option Change) (range : ℕ × ℕ) (w : ℕ) → IfSome o (IsInside range) → covers range.0 range.1 w ≡ false → IsBeside o w
beside None range w inside out = tt
beside (Some c) range w inside out = by (covers c.first c.count w) refl
  where
    by : (b : Bool) → covers c.first c.count w ≡ b → covers c.first c.count w ≡ false
    by false e = e
    by true e = let clash : true ≡ false = sym (inside w e) ∙ out in cc

-- spans that don't meet the range stay current
pub current-clear : (r q : Reads) (o : Option Change) (range : ℕ × ℕ) (d : ℕ) (k : Cache) → Follows r q o → IfSome o (IsInside range) →
    AreCurrent r d k → IsClear range k → AreCurrent q d k
current-clear r q o range d k follows inside current clear =
    each_weaker (λ e s p. agrees e s p.0 p.1) (λ s p. agrees d s p.0 p.1) k (each_both k current clear)
  where
    agrees : (e : ℕ) (s : Span) → AgreesIn r e s → meets s range.0 range.1 ≡ false → AgreesIn q e s
    agrees e s a apart = record {
      at = λ w covered. follows.at e w (beside o range w inside (outside_range s range.0 range.1 w apart covered)) ∙ a.at w covered;
    }

-- and where nothing changes all do
pub current-none : (r q : Reads) (d : ℕ) (k : Cache) → Follows r q None → AreCurrent r d k → AreCurrent q d k
current-none r q d k follows current = each_weaker (λ e s a. agrees e s a) (λ s a. agrees d s a) k current
  where
    agrees : (e : ℕ) (s : Span) → AgreesIn r e s → AgreesIn q e s
    agrees e s a = record { at = λ w covered. follows.at e w tt ∙ a.at w covered }

-- what a turn makes is coherent by all answers that follow its change
abbrev pub IsOutcome : Reads → Made → Type 0
IsOutcome r m = (q : Reads) → Follows r q m.change → IsCoherent q m.core

pub coherent-none : (r q : Reads) (c : Core) → Follows r q None → IsCoherent r c → IsCoherent q c
coherent-none r q c follows k = record {
  current = λ h live. current-none r q _ _ follows (k.current h live);
  dropped = k.dropped;
}

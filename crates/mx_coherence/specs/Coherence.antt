-- Coherence: what the spans that harts keep say of rights as they are now, and of the calls that harts have heard.
-- The rules: docs/MACHINE.md, "Announced calls" and "Checks and counts".
use Rattle.std.specs.Prelude.{◌≡◌, ◌≢◌, ℕ, true, false, List, length, All, IfSome, Option}
use Rattle.std.specs.List.{AllByRecursion}
use Rattle.mx_words.specs.declared.perm.Perm.{Perm}
use Rattle.mx_words.specs.declared.perm.Span.{Span}
use Rattle.mx_words.specs.Caches.{Cache, Entry, covers_word}
use Rattle.mx_words.specs.Hearing.{is_in}
use Rattle.mx_words.specs.Rights.{perm_at}
use Rattle.mx_words.specs.KeptSpans.{IsClear, IsEmpty}
use Rattle.mx_model.specs.Checks.{call_range, heard_ranges, is_halted}
use Rattle.mx_model.specs.Reads.{Reads, flat_reads, map_in}
use Rattle.mx_model.specs.State.{Core, Flat, Status, Running, Waiting, Halted, cache_at, hart_at}
use Rattle.mx_coherence.specs.Spans.{AreCurrent}

-- where hart h has heard the call on which a hart of that status waits, its caches keep no span that meets the call's range
abbrev pub HasDropped : Core → ℕ → Cache → Status → Type 0
HasDropped c h cache Running = Unit {0}
HasDropped c h cache (Waiting call heard) = is_in heard h ≡ true → IsClear (call_range c call) cache
HasDropped c h cache (Halted code) = Unit {0}

-- the spans of each hart that isn't halted are current, and none meets the range of another hart's call in flight that it has heard
pub record IsCoherent (r : Reads) (c : Core) : Type 0 where
  pub current : (h : ℕ) → is_halted (hart_at c h).status ≡ false →
      AreCurrent r (hart_at c h).domain (cache_at c h)
  pub dropped : (h g : ℕ) → is_halted (hart_at c h).status ≡ false → g ≢ h →
      HasDropped c h (cache_at c h) (hart_at c g).status

-- the same of a flat state, by its maps
abbrev pub flat_coherent : Flat → Type 0
flat_coherent f = IsCoherent (flat_reads f) f.core

-- no hart keeps a span
abbrev pub HasEmptyCaches : Core → Type 0
HasEmptyCaches c = (h : ℕ) → IsEmpty (cache_at c h)

-- every map is as long as RAM, also that of a domain that isn't there
abbrev pub AreWhole : Flat → Type 0
AreWhole f = (d : ℕ) → length (map_in f.core.size f.maps d) ≡ f.core.size

-- a span has its permission on each of its words in a map
abbrev pub IsOfMap : List Perm → Span → Type 0
IsOfMap m s = (w : ℕ) → covers_word s w ≡ true → perm_at m w ≡ s.perm

-- hart h's spans are those of the maps, at a place of its domain's and in the list of the entry's own domain's, and none meets the range of
-- another
-- hart's call in flight that it has heard
pub record KeepsNoStaleSpan (f : Flat) (h : ℕ) : Type 0 where
  pub places :
      All (λ (o : Option Span). IfSome o (IsOfMap (map_in f.core.size f.maps (hart_at f.core h).domain)))
      (cache_at f.core h).places
  pub list :
      All (λ (e : Entry). IsOfMap (map_in f.core.size f.maps e.0) e.1) (cache_at f.core h).kept
  pub heard :
      AllByRecursion (λ (range : ℕ × ℕ). IsClear range (cache_at f.core h)) (heard_ranges f.core h)

-- Looks at words by a hart whose calls in flight the checker keeps.
use Rattle.std.specs.Prelude.{◌≡◌, ◌≢◌, ℕ, ◌+◌, ◌⊎◌, List, length, take, Option, Some}
use Rattle.std.specs.Prelude.{map as list_map}
use Rattle.std.specs.List.{list_any, prefix_len}
use Rattle.mx_words.specs.declared.perm.Span.{Span}
use Rattle.mx_words.specs.Caches.{meets}
use Rattle.mx_check.specs.declared.flight.Flight.{Flight}
use Rattle.mx_check.specs.Harts.{Kept, kept_at}
use Rattle.mx_check.specs.Looks.{is_forbidden}
use Rattle.mx_model.specs.declared.values.Call.{Call}
use Rattle.mx_model.specs.Checks.{heard_ranges, looked, looked_all}
use Rattle.mx_model.specs.Reads.{Reads, flat_reads}
use Rattle.mx_model.specs.Serve.{may_read, look_of}
use Rattle.mx_model.specs.State.{Core}
use Rattle.mx_supervisor.specs.Parts.{Parts, core_of, flat_of}

-- the harts of a state keep hart h from keeping just the spans that its checker's flights do
pub record BarsAlike (rest : Core) (p : Parts) (h : ℕ) : Type 0 where
  pub at : (s : Span) →
      list_any (λ (r : ℕ × ℕ). meets s r.0 r.1) (heard_ranges (core_of rest p) h)
      ≡ is_forbidden h s p.harts

-- beside caches, the checker keeps of the harts what it kept, but for the caller's call in flight and the domain of its looks
pub record KeepsHarts (call : Call) (after : Option Flight) (old new : List Kept) : Type 0 where
  pub count : length new ≡ length old
  pub others : (i : ℕ) → i ≢ call.hart → kept_at new i ≡ kept_at old i
  pub halted : (kept_at new call.hart).halted ≡ (kept_at old call.hart).halted
  pub flight : (kept_at new call.hart).flight ≡ after
  pub domain : ((kept_at new call.hart).domain ≡ (kept_at old call.hart).domain)
      ⊎ ((kept_at new call.hart).domain ≡ Some call.domain)

-- the parts after a call's hart looked at a word at place 10: nothing but what the checker keeps of the harts changed
pub record HasLooked (call : Call) (word : ℕ) (old new : Parts) : Type 0 where
  pub same : new ≡ record old { harts = new.harts }
  pub harts : KeepsHarts call (kept_at old.harts call.hart).flight old.harts new.harts
  pub core : (rest : Core) → BarsAlike rest old call.hart →
      core_of rest new
      ≡ looked (flat_reads (flat_of rest old)) call.hart (core_of rest old)
      (look_of call.domain word)

-- the state after hart h looked at words in domain d, from the lowest on and up to the first that the domain may not read
abbrev pub read_through : Reads → ℕ → ℕ → List ℕ → Core → Core
read_through r h d ws c =
    looked_all r h (list_map (look_of d) (take (prefix_len (may_read r d) ws + 1) ws)) c

-- the parts after it looked at words in order, up to the first that its domain may not read
pub record HasRead (call : Call) (words : List ℕ) (old new : Parts) : Type 0 where
  pub same : new ≡ record old { harts = new.harts }
  pub harts : KeepsHarts call (kept_at old.harts call.hart).flight old.harts new.harts
  pub core : (rest : Core) → BarsAlike rest old call.hart →
      core_of rest new
      ≡ read_through (flat_reads (flat_of rest old)) call.hart call.domain words
      (core_of rest old)

-- The caches of a machine: empty at its start, and over maps that are as long as RAM.
use Rattle.std.proofs.Common.{◌≡◌, ℕ, ◌+◌, ◌-◌, ◌<◌, ◌≤◌, ◌⊎◌, inl, inr, Bool, List, [], length, get_or, refl, sym, ap, subst, ◌∙◌, arith}
use Rattle.std.proofs.Common.{map as list_map}
use Rattle.std.proofs.lemmas.Bool.{cases_lt}
use Rattle.std.proofs.lemmas.List.{get_or_past, get_or-replicate, length-replicate}
use Rattle.mx_words.specs.declared.perm.Perm.{Perm}
use Rattle.mx_words.specs.Caches.{Cache, no_cache}
use Rattle.mx_words.specs.Newest.{map}
use Rattle.mx_words.proofs.OverlayLaws.{length-map_of}
use Rattle.mx_words.specs.KeptSpans.{IsEmpty}
use Rattle.mx_table.specs.Tables.{IsDomain}
use Rattle.mx_check.specs.Calls.{new_harts}
use Rattle.mx_check.specs.Harts.{Kept, kept_at}
use Rattle.mx_check.specs.Harts.{nothing_kept}
use Rattle.mx_model.specs.Reads.{map_in}
use Rattle.mx_supervisor.specs.Parts.{Parts}
use Rattle.mx_supervisor.proofs.Maps.{map-in}
use Rattle.mx_coherence.specs.Coherence.{AreWhole, HasEmptyCaches}
use Rattle.mx_machine.specs.Held.{Held, meaning}
use Rattle.mx_machine.specs.Made.{core_in}
use Rattle.mx_machine.specs.declared.starts.HartState.{HartState}
use Rattle.mx_machine.specs.declared.starts.StackArea.{StackArea}
use Rattle.mx_machine.specs.Starts.{MayResume}
use Rattle.mx_machine.specs.Ties.{Fits}
use Rattle.mx_machine.proofs.CoreLaws.{caches-at}

pub empty-caches : (m : Held) (kept : List Kept) → list_map (λ (k : Kept). k.cache) m.parts.harts ≡ list_map (λ (k : Kept). k.cache) kept →
    ((h : ℕ) → (kept_at kept h).cache ≡ no_cache) → HasEmptyCaches (core_in m)
empty-caches m kept same each h =
    subst (λ (k : Cache). IsEmpty k) (sym (ap (λ (cs : List Cache). get_or cs h no_cache) same ∙ caches-at kept h ∙ each h))
    (record { places = refl; kept = refl })

-- a checker that has done nothing, and one that has at most announced calls
pub new-cache : (n h : ℕ) → (kept_at (new_harts n) h).cache ≡ no_cache
new-cache n h = search (arith, cases_lt, get_or-replicate, get_or_past, length-replicate)

pub unused-cache : (p : Parts) (states : List HartState) (stacks : List StackArea) (dead : List Bool) (steps : ℕ)
    → MayResume p states stacks dead steps →
    (h : ℕ) → (kept_at p.harts h).cache ≡ no_cache
unused-cache p states stacks dead steps may h = by (cases_lt h (length states))
  where
    by : (h < length states) ⊎ (length states ≤ h) → (kept_at p.harts h).cache ≡ no_cache
    by (inl lt) = (may.unused h lt).cache
    by (inr le) = ap (λ (k : Kept). k.cache) (get_or_past p.harts h nothing_kept (omega (arith, le, may.same_harts)))

-- the map of a domain, also of one that isn't there
pub whole-maps : (m : Held) → Fits m → AreWhole (meaning m)
whole-maps m f d = by (cases_lt (d - 1) (length m.parts.maps))
  where
    by : (d - 1 < length m.parts.maps) ⊎ (length m.parts.maps ≤ d - 1) → length (map_in m.parts.size m.parts.maps d) ≡ m.parts.size
    by (inl lt) =
        let n = d - 1 + 1 in
        let i : IsDomain m.parts.maps n = record { first = omega arith; last = omega (arith, lt) } in
        let e : d - 1 ≡ n - 1 = omega arith in
        ap (λ (k : ℕ). length (get_or m.parts.maps k (map [] m.parts.size))) e
        ∙ ap (λ (p : List Perm). length p) (map-in m.parts.size m.parts.maps n i) ∙ f.sound.maps n i
    by (inr le) =
        ap (λ (p : List Perm). length p) (get_or_past m.parts.maps (d - 1) (map [] m.parts.size) le) ∙ length-map_of [] m.parts.size

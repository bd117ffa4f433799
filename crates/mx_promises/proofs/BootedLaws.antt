-- The laws of runs, met by every manifest that boots.
use Rattle.std.proofs.Common.{◌≡◌, ℕ, zero, suc, ◌-◌, ◌*◌, ◌<◌, List, [], ◌∷◌, Option, Some, None, Ok, refl, sym, subst, slice_index}
use Rattle.std.proofs.Common.{slice_index_or, replicate, length, arith}
use Rattle.std.specs.FinMap.{get}
use Rattle.mx_io.specs.Store.{FileMap}
use Rattle.mx_words.specs.Caches.{Cache, no_cache}
use Rattle.mx_model.specs.Run.{Schedule, run}
use Rattle.mx_model.specs.State.{State, cache_at, flat}
use Rattle.mx_manifest.specs.declared.parts.InputPlan.{InputPlan}
use Rattle.mx_manifest.specs.declared.parts.ModulePlan.{ModulePlan}
use Rattle.mx_manifest.specs.Plan.{Said}
use Rattle.mx_coherence.specs.Coherence.{HasEmptyCaches}
use Rattle.mx_words.specs.KeptSpans.{IsEmpty}
use Rattle.mx_coherence.proofs.RunLaws.{coherent-run, stale-none}
use Rattle.mx_boot.specs.Boot.{boot_of, boot_state}
use Rattle.mx_boot.specs.Faults.{ram_words}
use Rattle.mx_boot.proofs.Booted.{booted, boots_valid}
use Rattle.mx_runs.proofs.DenialLaws.{denied-test}
use Rattle.mx_runs.proofs.TrapLaws.{fetch-exactly, load-exactly, store-exactly}
use Rattle.mx_audit.specs.Stays.{IsBoot}
use Rattle.mx_audit.proofs.StayLaws.{boots-keep, boots-live}
use Rattle.mx_snapshot.proofs.ResumedRuns.{run-valid}
use Rattle.mx_run.specs.Plainly.{HasFile, IsImage, AreImages, IsInput, AreInputs, Boots}
use Rattle.mx_promises.specs.Booted.{AreByteFiles, DeniesExactly, KeepsPromises}
use Rattle.mx_plan.proofs.Ranges.{judged_in_range}

one-of : (image : List ℕ) (others : List (List ℕ)) (k : ℕ) → slice_index image k < 256
    → ((j : ℕ) → slice_index (slice_index_or others j []) k < 256)
    → (i : ℕ) → slice_index (slice_index_or (image ∷ others) i []) k < 256
one-of image others k first rest zero = first
one-of image others k first rest (suc i) = rest i

module _ (files : FileMap) (bytes : AreByteFiles files) where
  image-bytes : (o : Option (List ℕ)) (image : List ℕ) → IsImage files o image → (k : ℕ) → slice_index image k < 256
  image-bytes None image is k = subst (λ (i : List ℕ). slice_index i k < 256) (sym is) (omega arith)
  image-bytes (Some name) image is k = bytes name image is.stands k

  images-bytes : (ms : List ModulePlan) (images : List (List ℕ)) → AreImages files ms images → (i k : ℕ)
      → slice_index (slice_index_or images i []) k < 256
  images-bytes [] images are i k = subst (λ (is : List (List ℕ)). slice_index (slice_index_or is i []) k < 256) (sym are) (omega arith)
  images-bytes (m ∷ ms) images are i k =
      subst (λ (is : List (List ℕ)). slice_index (slice_index_or is i []) k < 256) (sym are.2)
      (one-of are.0 are.1 k (image-bytes m.image are.0 are.3 k) (λ j. images-bytes ms are.1 are.4 j k) i)

  input-bytes : (left : ℕ) (o : Option InputPlan) (input : List ℕ) → IsInput files left o input → (k : ℕ) → slice_index input k < 256
  input-bytes left None input is k = subst (λ (i : List ℕ). slice_index i k < 256) (sym is) (omega arith)
  input-bytes left (Some plan) input is k = bytes plan.file input is.stands k

  inputs-bytes : (ms : List ModulePlan) (left : ℕ) (inputs : List (List ℕ)) → AreInputs files left ms inputs → (i k : ℕ)
      → slice_index (slice_index_or inputs i []) k < 256
  inputs-bytes [] left inputs are i k = subst (λ (is : List (List ℕ)). slice_index (slice_index_or is i []) k < 256) (sym are) (omega arith)
  inputs-bytes (m ∷ ms) left inputs are i k =
      subst (λ (is : List (List ℕ)). slice_index (slice_index_or is i []) k < 256) (sym are.2)
      (one-of are.0 are.1 k (input-bytes left m.input are.0 are.3 k) (λ j. inputs-bytes ms (left - length are.0) are.1 are.4 j k) i)

  boots-is : (name : List ℕ) (plan : Said) (s : State) → (b : Boots files name plan s) → IsBoot plan b.images b.inputs s
  boots-is name plan s b =
      record {
        range = judged_in_range b.bytes plan b.good;
        bytes = record { bytes = images-bytes plan.modules b.images b.taken };
        given = record { bytes = inputs-bytes plan.modules (4 * ram_words plan) b.inputs b.given };
        boots = b.boots;
      }

replicated : (n h : ℕ) → slice_index_or (replicate n no_cache) h no_cache ≡ no_cache
replicated zero h = refl
replicated (suc n) zero = refl
replicated (suc n) (suc h) = replicated n h

no-spans : IsEmpty no_cache
no-spans = record { places = refl; kept = refl }

empty-at-boot : (plan : Said) (images inputs : List (List ℕ)) (s : State) → boot_of plan images inputs ≡ Ok s → HasEmptyCaches s.core
empty-at-boot plan images inputs s e =
    subst (λ (t : State). HasEmptyCaches t.core) (booted plan images inputs s e).1
    (λ h. subst (λ (c : Cache). IsEmpty c) (sym (replicated (length plan.harts) h)) no-spans)

denies-exactly : (t : State) → DeniesExactly t
denies-exactly t = record { test = denied-test t; fetch = fetch-exactly t; load = load-exactly t; store = store-exactly t }

pub booted-keep : (files : FileMap) (name : List ℕ) (plan : Said) (s : State) → AreByteFiles files → Boots files name plan s
    → (p : Schedule) (n : ℕ) → KeepsPromises s (run p n s)
booted-keep files name plan s bytes b p n =
    let is = boots-is files bytes name plan s b in
    let valid = boots_valid plan b.images b.inputs s is.range is.bytes is.given is.boots in
    let coherent = coherent-run p n s valid.valid (empty-at-boot plan b.images b.inputs s b.boots) in
    record {
      valid = run-valid p n s valid;
      coherent = coherent;
      spans = λ h live. stale-none (flat (run p n s)) h coherent live;
      live = boots-live plan b.images b.inputs s is p n;
      sealed = boots-keep plan b.images b.inputs s is p n;
      denied = denies-exactly (run p n s);
    }

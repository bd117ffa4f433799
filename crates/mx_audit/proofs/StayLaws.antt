-- What an audit of the state at boot finds stays in every run.
use Rattle.std.proofs.Common.{◌↔◌, ℕ, List, sym, subst, arith, IsTrue}
use Rattle.mx_manifest.specs.Plan.{Said}
use Rattle.mx_model.specs.Reads.{Reads, flat_reads}
use Rattle.mx_model.specs.Run.{Schedule, run}
use Rattle.mx_model.specs.State.{State, flat}
use Rattle.mx_model.proofs.FlatLaws.{reads-flat}
use Rattle.mx_boot.proofs.Booted.{boots_own, boots_valid}
use Rattle.mx_audit.specs.Live.{IsLive}
use Rattle.mx_audit.specs.Sealed.{IsAudited, HasSealed, IsSealed, is_sealed}
use Rattle.mx_audit.specs.SealedRuns.{lies_in, sealed_runs}
use Rattle.mx_audit.specs.Stays.{IsBoot, KeepsWord}
use Rattle.mx_audit.proofs.AuditRuns.{live-run, sealed-run}
use Rattle.mx_audit.proofs.LiveLaws.{sealed-rounds}
use Rattle.mx_audit.proofs.RunLaws.{lies-from, lies-to}

-- just the sealed words lie in the runs that the flat state tells
runs-hold : (s : State) (word : ℕ) → IsTrue (lies_in (sealed_runs (flat_reads (flat s)) s.core) word) → HasSealed s word
runs-hold s word p =
    subst (λ (r : Reads). IsSealed r s.core word) (sym (reads-flat s))
    ((sealed-rounds (flat_reads (flat s)) s.core word).0 (lies-from (is_sealed (flat_reads (flat s)) s.core) 0 s.core.size word p))

held-runs : (s : State) (word : ℕ) → HasSealed s word → IsTrue (lies_in (sealed_runs (flat_reads (flat s)) s.core) word)
held-runs s word p =
    let within = p.in_ram in
    lies-to (is_sealed (flat_reads (flat s)) s.core) 0 s.core.size word (omega arith) (omega arith)
    ((sealed-rounds (flat_reads (flat s)) s.core word).1 (subst (λ (r : Reads). IsSealed r s.core word) (reads-flat s) p))

pub runs-sealed : (s : State) (word : ℕ) → IsTrue (lies_in (sealed_runs (flat_reads (flat s)) s.core) word) ↔ HasSealed s word
runs-sealed s word = (runs-hold s word, held-runs s word)

pub boots-audited : (plan : Said) (images inputs : List (List ℕ)) (s : State) → IsBoot plan images inputs s → IsAudited s
boots-audited plan images inputs s b = record {
  valid = (boots_valid plan images inputs s b.range b.bytes b.given b.boots).valid;
  heaps = boots_own plan images inputs s b.range b.boots;
}

pub boots-live : (plan : Said) (images inputs : List (List ℕ)) (s : State) → IsBoot plan images inputs s → (p : Schedule) (n d : ℕ)
    → IsLive (run p n s).core d → IsLive s.core d
boots-live plan images inputs s b p n d l = live-run p n s d (boots-audited plan images inputs s b) l

pub boots-keep : (plan : Said) (images inputs : List (List ℕ)) (s : State) → IsBoot plan images inputs s → (p : Schedule) (n word : ℕ) →
    IsTrue (lies_in (sealed_runs (flat_reads (flat s)) s.core) word) → KeepsWord s (run p n s) word
boots-keep plan images inputs s b p n word l =
    let f = sealed-run p n s word (boots-audited plan images inputs s b) (runs-hold s word l) in
    record { owner = f.owner; rights = f.rights; bytes = f.bytes }

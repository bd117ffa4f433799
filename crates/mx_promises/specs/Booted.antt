-- What holds of every state of a run that the files and words of a command line make.
use Rattle.std.specs.Prelude.{◌≡◌, ◌↔◌, ℕ, ◌<◌, true, false, List, IsTrue, slice_index, Some}
use Rattle.std.specs.FinMap.{get}
use Rattle.mx_words.specs.declared.perm.Access.{Access}
use Rattle.mx_words.specs.declared.perm.Access.TheVariants as A
use Rattle.mx_io.specs.Store.{FileMap}
use Rattle.mx_isa.specs.declared.inst.Inst.TheVariants.{Load, Store}
use Rattle.mx_isa.specs.declared.inst.LoadWidth.{LoadWidth}
use Rattle.mx_isa.specs.declared.inst.StoreWidth.{StoreWidth}
use Rattle.mx_model.specs.Checks.{is_halted}
use Rattle.mx_model.specs.Effect.{load_size, store_size}
use Rattle.mx_model.specs.Reads.{reads, flat_reads}
use Rattle.mx_model.specs.State.{State, flat, hart_at}
use Rattle.mx_model.specs.Turn.{is_denied}
use Rattle.mx_model.specs.Valid.{IsFlat}
use Rattle.mx_laws.specs.After.{domain_at}
use Rattle.mx_coherence.specs.Coherence.{flat_coherent, KeepsNoStaleSpan}
use Rattle.mx_runs.specs.Denials.{Executes, FaultsExactly, Fetches, IsDenied, address_by, traps_with}
use Rattle.mx_audit.specs.Live.{IsLive}
use Rattle.mx_audit.specs.SealedRuns.{lies_in, sealed_runs}
use Rattle.mx_audit.specs.Stays.{KeepsWord}

-- files hold bytes
abbrev pub AreByteFiles : FileMap → Type 0
AreByteFiles files =
    (name bytes : List ℕ) → get files name ≡ Some bytes → (k : ℕ) → slice_index bytes k < 256

-- an access is denied where the newest covering grant says so, or where there is none, and nowhere else; and a hart that fetches, loads or
-- stores traps exactly there
pub record DeniesExactly (t : State) : Type 0 where
  pub test : (d address : ℕ) (access : Access) →
      (is_denied (reads t) t.core d address access ≡ true) ↔ IsDenied t d address access
  pub fetch : (h : ℕ) → Fetches t h → traps_with t h 1 (hart_at t.core h).pc
      ↔ IsDenied t (domain_at t.core h) (hart_at t.core h).pc A.Execute
  pub load : (h rd base offset : ℕ) (width : LoadWidth) → Executes t h (Load width rd base offset) →
      FaultsExactly t h (address_by t h base offset) (load_size width) A.Read 5 4
  pub store : (h base from offset : ℕ) (width : StoreWidth) → Executes t h (Store width base from offset) →
      FaultsExactly t h (address_by t h base offset) (store_size width) A.Write 7 6

-- a state of a run from a state at boot: valid, with no stale span in a hart that isn't halted, no domain live that wasn't at boot, every
-- word
-- of the audit's sealed runs as it was, and denied exactly
pub record KeepsPromises (s t : State) : Type 0 where
  pub valid : IsFlat (flat t)
  pub coherent : flat_coherent (flat t)
  pub spans : (h : ℕ) → is_halted (hart_at t.core h).status ≡ false → KeepsNoStaleSpan (flat t) h
  pub live : (d : ℕ) → IsLive t.core d → IsLive s.core d
  pub sealed : (word : ℕ) → IsTrue (lies_in (sealed_runs (flat_reads (flat s)) s.core) word) →
      KeepsWord s t word
  pub denied : DeniesExactly t

use Rattle.std.proofs.Common.{◌≡◌, ℕ, ◌-◌, ◌<◌, ◌≤◌, ◌++◌, false, length}
use Rattle.mx_any.specs.Machines.{meaning}
use Rattle.mx_model.specs.Reads.{flat_reads}
use Rattle.mx_audit.specs.Sealed.{is_sealed}
use Rattle.mx_audit.specs.SealedRuns.{runs_where, sealed_runs}
use Rattle.mx_audit.specs.AlikeWords.{AllTell, is_exposed}
use Rattle.mx_audit.proofs.sealing.sealed_runs.Given as goal

-- what is still without a run are the words from `first` on, of which those up to `word` are known to be sealed
abbrev pub invariant-words : goal.invariant-words
invariant-words l =
    let f = meaning l.machine in
    let test = is_sealed (flat_reads f) f.core in
    record {
      order : l.first ≤ l.word;
      within : l.word ≤ f.core.size;
      few : length l.runs ≤ l.first;
      known : AllTell f l.live l.word l.known;
      closed : (w : ℕ) → l.first ≤ w → w < l.word → is_exposed f l.live w ≡ false;
      runs : l.runs ++ runs_where test l.first (f.core.size - l.first) ≡ sealed_runs (flat_reads f) f.core;
    }

abbrev pub decreases-words : goal.decreases-words
decreases-words l = (meaning l.machine).core.size - l.word

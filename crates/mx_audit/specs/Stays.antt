-- States at boot, and what a run keeps of a word.
use Rattle.std.specs.Prelude.{◌≡◌, ℕ, ◌+◌, ◌*◌, ◌<◌, List, slice_index, Ok}
use Rattle.mx_model.specs.Reads.{reads}
use Rattle.mx_model.specs.State.{State}
use Rattle.mx_manifest.specs.InRange.{IsInRange}
use Rattle.mx_manifest.specs.Plan.{Said}
use Rattle.mx_boot.specs.Boot.{boot_of}
use Rattle.mx_boot.specs.Bytes.{AreBytes}

-- the state at boot of a plan in range with its images and its inputs
pub record IsBoot (plan : Said) (images inputs : List (List ℕ)) (s : State) : Type 0 where
  pub range : IsInRange plan
  pub bytes : AreBytes images
  pub given : AreBytes inputs
  pub boots : boot_of plan images inputs ≡ Ok s

-- a word has in one state the owner, the permission in every domain and the four bytes that it has in the other
pub record KeepsWord (s t : State) (word : ℕ) : Type 0 where
  pub owner : (reads t).owner word ≡ (reads s).owner word
  pub rights : (d : ℕ) → (reads t).perm d word ≡ (reads s).perm d word
  pub bytes : (k : ℕ) → k < 4 →
      slice_index t.core.ram (4 * word + k) ≡ slice_index s.core.ram (4 * word + k)

-- What a line does, and one over an input and an output.
use Rattle.std.specs.Prelude.{◌≡◌, ℕ, ◌+◌, ◌<◌, ◌≤◌, List, [], ◌∷◌, length, take, Option, Result, Ok, Err, IsOk, OnOk, OnErr}
use Rattle.std.specs.List.{concat}
use Rattle.std.specs.Io.KnownBytes.{Consumes}
use Rattle.mx_io.specs.Real.{stdout_sink}
use Rattle.mx_io.specs.Texts.{AppendsWhole}
use Rattle.mx_packets.specs.declared.line.StdLine.{StdLine}

-- bytes were said whole on Ok, which is sure where the line has room for them, and on Err a prefix that lacks some
pub record Utters {L A E : Type 0} (says : L → List ℕ → L → Type 0) (room : L → ℕ) (before : L) (text : List ℕ)
    (now : L) (result : Result A E) : Type 0 where
  pub whole : OnOk result (says before text now)
  pub front : OnErr result ((n : ℕ) × (n < length text) × says before (take n text) now)
  pub sure : length text ≤ room before → IsOk result × (room before ≤ room now + length text)

-- a piece of the input was read, and the output is as it was
pub record hears_over {I O : Type 0} (remaining : I → Option (List ℕ)) (before : StdLine I O) (piece : List ℕ)
    (now : StdLine I O) : Type 0 where
  pub read : Consumes (remaining before.input) (remaining now.input) piece
  pub out : now.out ≡ before.out

-- bytes were appended to the output, and the input is as it was
pub record says_over {I O : Type 0} (contents : O → Option (List ℕ)) (room : O → ℕ) (before : StdLine I O)
    (text : List ℕ) (now : StdLine I O) : Type 0 where
  pub input : now.input ≡ before.input
  pub out : AppendsWhole (stdout_sink contents room before.out).written (stdout_sink contents room now.out).written text

-- texts were said, one after another
abbrev pub Chain : {L : Type 0} → (L → List ℕ → L → Type 0) → L → List (List ℕ) → L → Type 0
Chain says l [] m = m ≡ l
Chain {L} says l (text ∷ more) m = (k : L) × says l text k × Chain says k more m

-- bytes were said in some number of texts, and so much less can surely be said now
pub record Speaks {L : Type 0} (says : L → List ℕ → L → Type 0) (room : L → ℕ) (l : L) (text : List ℕ) (m : L)
    : Type 0 where
  pub texts : List (List ℕ)
  pub whole : concat texts ≡ text
  pub said : Chain says l texts m
  pub left : length text ≤ room l → room l ≤ room m + length text

-- a line failed: a prefix of the bytes was said that lacks some, and the line wasn't sure to say all of them
pub record Fails {L : Type 0} (says : L → List ℕ → L → Type 0) (room : L → ℕ) (l : L) (text : List ℕ) (m : L)
    : Type 0 where
  pub bytes : ℕ
  pub few : bytes < length text
  pub texts : List (List ℕ)
  pub front : concat texts ≡ take bytes text
  pub said : Chain says l texts m
  pub tight : length text ≤ room l → ⊥

-- one of the two
abbrev pub SpeaksOrFails : {L A E : Type 0} → (L → List ℕ → L → Type 0) → (L → ℕ) → L → List ℕ → L → Result A E → Type 0
SpeaksOrFails says room l text m (Ok a) = Speaks says room l text m
SpeaksOrFails says room l text m (Err e) = Fails says room l text m

-- Two runs side by side in which the harts of a set see the same.
-- The rules: docs/MACHINE.md, "Agreement".
use Rattle.std.specs.Prelude.{◌≡◌, ℕ, ◌%◌, ◌<◌, ◌≤◌, Bool, true, false, List, length, fold}
use Rattle.std.specs.List.{AllByRecursion}
use Rattle.mx_model.specs.Agreement.{Nothing, agree, border}
use Rattle.mx_model.specs.Reads.{reads}
use Rattle.mx_model.specs.Run.{Schedule, hart_of, is_over, run}
use Rattle.mx_model.specs.State.{State, hart_at}
use Rattle.mx_laws.specs.Twins.{IsRunning, Store, stored}

-- two states of as many words, bytes, harts and turns made that agree for each hart of a set, each at a multiple of 4
pub record AreTwinStates (set : ℕ → Bool) (s t : State) : Type 0 where
  pub words : s.core.size ≡ t.core.size
  pub bytes : length s.core.ram ≡ length t.core.ram
  pub harts : length s.core.harts ≡ length t.core.harts
  pub turns : s.core.turns ≡ t.core.turns
  pub aligned : (g : ℕ) → set g ≡ true → (hart_at s.core g).pc % 4 ≡ 0
  pub agreement : (g : ℕ) → set g ≡ true → agree s t g

-- the schedule's next turn is of a running hart of the set, whose border is nothing
pub record IsFreeTurn (set : ℕ → Bool) (schedule : Schedule) (s : State) : Type 0 where
  pub named : is_over schedule s.core.turns ≡ false
  pub inside : set (hart_of schedule s.core) ≡ true
  pub running : IsRunning s.core (hart_of schedule s.core)
  pub free : border (reads s) s.core (hart_of schedule s.core) ≡ Nothing

-- each of the first n turns of a run is so
abbrev pub AreFreeTurns : (ℕ → Bool) → Schedule → State → ℕ → Type 0
AreFreeTurns set schedule s n = (k : ℕ) → k < n → IsFreeTurn set schedule (run schedule k s)

-- what two runs of n turns come to: the states agree again for the set, each of its harts has one border in both, and
-- one list of n stores, each of at most four bytes, makes RAM in both
pub record GoAlike (set : ℕ → Bool) (s t : State) (n : ℕ) (u v : State) : Type 0 where
  pub twins : AreTwinStates set u v
  pub border : (g : ℕ) → set g ≡ true → border (reads u) u.core g ≡ border (reads v) v.core g
  pub stores : List Store
  pub count : length stores ≡ n
  pub few : AllByRecursion (λ (store : Store). store.size ≤ 4) stores
  pub first : u.core.ram ≡ fold stored s.core.ram stores
  pub second : v.core.ram ≡ fold stored t.core.ram stores

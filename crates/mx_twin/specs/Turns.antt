-- A turn of one hart in two machines side by side.
-- The rules: docs/MACHINE.md, "Agreement".
use Rattle.std.specs.Prelude.{◌≡◌, ◌≢◌, ℕ, length}
use Rattle.mx_model.specs.declared.values.TurnKind.{TurnKind}
use Rattle.mx_model.specs.declared.values.TurnKind.TheVariants as T
use Rattle.mx_model.specs.Agreement.{Nothing, border}
use Rattle.mx_model.specs.Reads.{reads}
use Rattle.mx_model.specs.State.{Flat, State}
use Rattle.mx_laws.specs.Twins.{MakeOneStore, agree_after}

-- two flat states of as many harts, modules and words
pub record AreAlike (f g : Flat) : Type 0 where
  pub harts : length f.core.harts ≡ length g.core.harts
  pub modules : length f.core.modules ≡ length g.core.modules
  pub words : f.core.size ≡ g.core.size

-- turns of hart h that meet no border: both just carry out an instruction, one and the same store is made in both, and the states after
-- agree for h
pub record MakeOneTurn (s t : State) (h : ℕ) (first second : TurnKind) : Type 0 where
  pub ran : (first ≡ T.Ran) × (second ≡ T.Ran)
  pub store : MakeOneStore (reads s) s.core (reads t) t.core h
  pub agreement : agree_after s t h h

-- turns of hart h, for which the states agree, by what they were: the border is the same in both; where it is nothing the turns are one,
-- and
-- else neither just carries out an instruction
pub record AreTwinTurns (s t : State) (h : ℕ) (first second : TurnKind) : Type 0 where
  pub same : border (reads s) s.core h ≡ border (reads t) t.core h
  pub free : border (reads s) s.core h ≡ Nothing → MakeOneTurn s t h first second
  pub stopped : border (reads s) s.core h ≢ Nothing → (first ≢ T.Ran) × (second ≢ T.Ran)

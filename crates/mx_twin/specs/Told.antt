-- What was touched, as the code keeps it.
use Rattle.std.specs.Prelude.{◌≡◌, ℕ, Bool, ◌==◌}
use Rattle.mx_heap.specs.declared.block.Block.{Block}
use Rattle.mx_heap.specs.HeapState.{area_of}
use Rattle.mx_machine.specs.declared.views.HartStatus.{HartStatus}
use Rattle.mx_machine.specs.declared.views.HartStatus.TheVariants as V
use Rattle.mx_model.specs.declared.values.Call.{Call}
use Rattle.mx_model.specs.Checks.{arg}
use Rattle.mx_model.specs.Serve.{arg_range}
use Rattle.mx_model.specs.State.{Core, module_at}
use Rattle.mx_touched.specs.Touched.{Touched, range_area, word_area}
use Rattle.mx_twin.specs.declared.reach.Touched.{Touched as Kept}

-- as its definition
abbrev pub told : Kept → Touched
told t = record {
  bytes = area_of t.bytes;
  rights = area_of t.rights;
  gates = area_of t.gates;
  death = t.death;
}

-- the words that a call names: the range of its a0 and a1, its caller's heap area, and the word of a0
pub record Names (c : Core) (call : Call) (named area place : Block) : Type 0 where
  pub range : area_of named ≡ range_area (arg_range c call)
  pub heap : area_of area ≡ (module_at c call.domain).heap
  pub word : area_of place ≡ word_area (arg call 0) c.size

-- the number of what is told of a status, and whether two are the same
abbrev pub told_number : HartStatus → ℕ
told_number V.Running = 0
told_number V.Waiting = 1
told_number V.Halted = 2

abbrev pub same_told : HartStatus → HartStatus → Bool
same_told x y = told_number x == told_number y

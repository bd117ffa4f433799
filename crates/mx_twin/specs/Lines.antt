-- The line of a twin run's report, as docs/COMMANDS.md shows it.
use Rattle.std.specs.Prelude.{ℕ, List, [], ◌∷◌, codes, decimal}
use Rattle.std.specs.List.{concat}
use Rattle.mx_trace.specs.Lines.{kind_name}
use Rattle.mx_twin.specs.declared.twin.TwinEnd.{TwinEnd}
use Rattle.mx_twin.specs.declared.twin.TwinEnd.TheVariants as E

-- the answer to so many steps: agreed, with the number asked, or ended at a step, with its hart and what its turn was
unfoldable pub twin_line : ℕ → TwinEnd → List ℕ
twin_line steps E.Agreed = concat (codes "twin agreed steps=" ∷ decimal steps ∷ codes "\n" ∷ [])
twin_line steps (E.Ended step hart kind) =
    concat (codes "twin ended step=" ∷ decimal step ∷ codes " hart=" ∷ decimal hart
    ∷ codes " kind=" ∷ kind_name kind ∷ codes "\n" ∷ [])

use Rattle.std.proofs.Common.{List, ℕ, [], ◌∷◌, ap, codes}
use Rattle.std.specs.List.{concat}
use Rattle.mx_io.proofs.Puts.{puts_same}
use Rattle.mx_commands.specs.Refusal.{unlike_line}
use Rattle.mx_commands.proofs.refusal.put_unlike.Goals as goal

pub returns : goal.returns
unfolding unlike_line
returns g c = puts_same (ap (λ (name : List ℕ). concat (codes "twin unlike key=" ∷ name ∷ codes "\n" ∷ [])) c.name.ensures)
    c.put_line.ensures

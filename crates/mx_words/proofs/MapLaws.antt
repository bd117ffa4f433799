-- One map after a change, and the starts of its runs.
use Rattle.std.proofs.Common.{◌≡◌, ℕ, ◌+◌, ◌-◌, ◌<◌, not, List, length, Option, Some, None, refl, sym, ap, ◌∙◌, arith}
use Rattle.mx_words.specs.declared.perm.Perm.{Perm}
use Rattle.mx_words.specs.Rights.{same, perm_at}
use Rattle.mx_words.specs.Starts.{is_start}
use Rattle.mx_words.specs.Changes.{grant_of, changed_map}
use Rattle.mx_words.proofs.OverlayLaws.{length-laid}
use Rattle.mx_words.proofs.RunLaws.{is_start-behind}

pub length-changed_map : (first count : ℕ) (given : Option Perm) (m : List Perm) → length (changed_map first count given m) ≡ length m
length-changed_map first count None m = refl
length-changed_map first count (Some p) m = length-laid (grant_of first count p) m

-- after word 0 a run starts where the permission differs from the one before
pub start_step : (m : List Perm) (i : ℕ) → 0 < i → is_start m i ≡ not (same (perm_at m (i - 1)) (perm_at m i))
start_step m i some =
    let e : i - 1 + 1 ≡ i = omega arith in
    ap (is_start m) (sym e) ∙ is_start-behind m (i - 1) ∙ ap (λ j. not (same (perm_at m (i - 1)) (perm_at m j))) e

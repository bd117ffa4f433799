use Rattle.std.proofs.Common.{◌≡◌, ℕ, ◌-◌, ◌<◌, ◌≤◌}
use Rattle.mx_words.specs.declared.perm.Perm.TheVariants as P
use Rattle.mx_words.specs.Rights.{perm_at}
use Rattle.mx_model.specs.Reads.{map_in}
use Rattle.mx_report.proofs.tables.has_rights.Given as goal

-- none of the words so far has a permission
abbrev pub invariant-spans : goal.invariant-spans
invariant-spans g l =
    let f = l.machine in
    record {
      low : l.first ≤ l.word;
      none : (w : ℕ) → l.first ≤ w → w < l.word → perm_at (map_in f.core.size f.maps l.domain) w ≡ P.None;
    }

abbrev pub decreases-spans : goal.decreases-spans
decreases-spans g l = l.end - l.word

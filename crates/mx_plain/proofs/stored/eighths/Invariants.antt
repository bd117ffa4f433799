use Rattle.std.proofs.Common.{◌≡◌, ℕ, ◌+◌, ◌*◌, ◌/◌, ◌<◌, length}
use Rattle.mx_words.specs.Rights.{perm_at}
use Rattle.mx_plain.proofs.stored.eighths.Given as goal

abbrev pub invariant-loop-e : goal.invariant-loop-e
invariant-loop-e l = (length l.perms ≡ 8) × ((k : ℕ) → k < l.e → perm_at l.perms k ≡ perm_at l.map (l.first + l.size / 8 * k))

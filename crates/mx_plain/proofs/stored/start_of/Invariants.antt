use Rattle.std.proofs.Common.{◌≡◌}
use Rattle.mx_plain.proofs.StoredWords.{words_before}
use Rattle.mx_plain.proofs.stored.start_of.Given as goal

abbrev pub invariant-loop-place : goal.invariant-loop-place
invariant-loop-place l = l.start ≡ words_before l.runs l.place

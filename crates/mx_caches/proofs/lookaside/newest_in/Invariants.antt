use Rattle.std.proofs.Common.{◌≡◌, drop}
use Rattle.mx_words.specs.Caches.{found_kept}
use Rattle.mx_caches.proofs.lookaside.newest_in.Given as goal

abbrev pub invariant-loop-entry : goal.invariant-loop-entry
invariant-loop-entry l =
    found_kept (drop l.entry-index l.entries) l.domain l.word ≡ found_kept l.entries l.domain l.word

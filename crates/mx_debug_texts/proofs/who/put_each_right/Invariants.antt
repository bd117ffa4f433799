use Rattle.std.proofs.Common.{◌≡◌, drop, flat_map}
use Rattle.std.specs.List.{range_with_len}
use Rattle.mx_any.specs.Machines.{meaning}
use Rattle.mx_model.specs.Reads.{flat_reads}
use Rattle.mx_debug_texts.specs.Documents.{right_text}
use Rattle.mx_debug_texts.specs.Window.{further}
use Rattle.mx_debug_texts.proofs.RightLaws.{AreAny}
use Rattle.mx_debug_texts.proofs.who.put_each_right.Given as goal

abbrev pub invariant-loop-i : goal.invariant-loop-i
invariant-loop-i l =
    let rights = flat_map (λ d. right_text l.plan d ((flat_reads (meaning l.machine)).perm d l.word)) (range_with_len 1 l.i) in
    record { text : l.window ≡ further l.initial.window (drop 2 rights); some : AreAny l.some rights }

use Rattle.std.proofs.Common.{◌≡◌, flat_map, length, ap, ◌∙◌, arith}
use Rattle.std.specs.List.{range_with_len}
use Rattle.mx_debug_texts.specs.Documents.{known_by, library_text}
use Rattle.mx_debug_texts.specs.Window.{further}
use Rattle.mx_debug_texts.proofs.WindowLaws.{further_none, puts_number}
use Rattle.mx_debug_texts.proofs.images.put_each.Goals as goal

pub loop-i-init : goal.loop-i-init
loop-i-init c = further_none c.args.window.now

pub loop-i-preserved : goal.loop-i-preserved
loop-i-preserved c =
    puts_number (library_text (known_by c.args.named.now)) c.args.window.now c.loop-i.window c.put_library.new.window 0 c.loop-i.i
    c.loop-i.i (omega arith) c.loop-i.invariant c.put_library.ensures

pub returns : goal.returns
returns c =
    let all : c.loop-i.i ≡ length c.args.named.now.plan.now.modules = omega arith in
    c.loop-i.invariant ∙ ap (λ n. further c.args.window.now (flat_map (library_text (known_by c.args.named.now)) (range_with_len 0 n))) all

use Rattle.std.proofs.Common.{◌++◌, codes, refl, flat_map, length}
use Rattle.std.specs.List.{range_with_len}
use Rattle.mx_debug_texts.specs.Documents.{known_by, libraries_text, library_text}
use Rattle.mx_debug_texts.proofs.WindowLaws.{puts_more}
use Rattle.mx_debug_texts.proofs.images.put_libraries.Goals as goal

pub returns : goal.returns
returns c =
    let w = c.args.window.now in
    let k = known_by c.args.named.now in
    let all = flat_map (library_text k) (range_with_len 0 (length k.plan.modules)) in
    let one = puts_more w c.put.new.self c.put_each.new.window (codes "<library-list>") all (codes "<library-list>" ++ all) c.put.ensures
    c.put_each.ensures refl in
    puts_more w c.put_each.new.window c.put-2.new.self (codes "<library-list>" ++ all) (codes "</library-list>") (libraries_text k) one
    c.put-2.ensures refl

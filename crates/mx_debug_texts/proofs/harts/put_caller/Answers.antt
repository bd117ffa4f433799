use Rattle.std.proofs.Common.{◌++◌, refl}
use Rattle.mx_debug_texts.specs.Documents.{name_of}
use Rattle.mx_debug_texts.proofs.WindowLaws.{puts_more}
use Rattle.mx_debug_texts.proofs.harts.put_caller.Goals as goal

pub returns : goal.returns
returns c =
    let name = name_of c.args.plan.now c.args.caller in
    puts_more c.args.window.now c.put_name.new.window c.put.new.self name c.args.arrow.now (name ++ c.args.arrow.now) c.put_name.ensures
    c.put.ensures refl

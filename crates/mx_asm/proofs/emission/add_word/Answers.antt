use Rattle.std.proofs.Common.{◌≡◌, length, rules}
use Rattle.std.proofs.lemmas.Result.{on_ok_weaker}
use Rattle.mx_asm.proofs.ProgramLaws.{grown}
use Rattle.mx_asm.proofs.emission.add_word.Goals as goal

pub returns-clause-grown : goal.returns-clause-grown
returns-clause-grown c =
    let size : length c.to_le_bytes.result ≡ 4 = search rules in
    on_ok_weaker c.add_bytes.result (λ is. rw is (rw size at (grown c.to_le_bytes.result c.args.program.now c.requires.begun)))
    c.add_bytes.ensures.ok

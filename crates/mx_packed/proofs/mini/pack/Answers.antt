use Rattle.std.proofs.Common.{◌≡◌, ◌≤◌, ◌+◌, ◌*◌, Some, sym, ap, ◌∙◌, arith}
use Rattle.mx_words.specs.Rights.{same}
use Rattle.mx_words.specs.Runs.{runs, runs_of}
use Rattle.mx_words.specs.Reach.{mini_entry}
use Rattle.mx_trie.proofs.RunCodes.{mini-codes}
use Rattle.mx_packed.proofs.Entries.{pack_of-few}
use Rattle.mx_packed.proofs.mini.pack.Goals as goal

pub returns : goal.returns
returns c =
    let few : runs c.args.perms.now ≤ 4 = omega arith in
    let is = mini-codes c.args.perms.now c.args.left c.args.right few in
    let v = c.codes-values.ensures.values in
    let s = c.codes-values.ensures.starts in
    let sum : 2 + 4 * c.codes-values.result.0 + 1024 * c.codes-values.result.1 + 4194304 * c.args.right + 134217728 * c.args.left
    ≡ mini_entry (runs_of same c.args.perms.now) c.args.left c.args.right = omega (arith, is, v, s) in
    ap Some sum ∙ sym (pack_of-few c.args.perms.now c.args.left c.args.right few)

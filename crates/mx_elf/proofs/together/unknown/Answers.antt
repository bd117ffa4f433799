use Rattle.std.proofs.Common.{ℕ, List, ◌∙◌, ap, cond, [], Some, None, bytes_eq}
use Rattle.std.proofs.lemmas.Map.Text.{hash_map_updates_str}
use Rattle.std.specs.Borrow.{Bor}
use Rattle.mx_elf.specs.Known.{known_in}
use Rattle.mx_elf.proofs.Several.{asked-more}
use Rattle.mx_elf.proofs.together.unknown.Goals as goal

pub names-preserved : goal.names-preserved
names-preserved c = λ q.
    let d : Bor (List ℕ) = record { ref_ptr = (0, 0); now = [] } in
    asked-more c.args.names.now c.names.name-index d q (known_in c.names.values q) _ c.names-test.true (c.names.invariant q)
    (hash_map_updates_str c.as_bytes.result.now c.names.values c.insert.new.self (Some None) c.in_ok-insert.ensures.updates q
    ∙ ap (λ name. cond (bytes_eq name q) (Some None) (known_in c.names.values q)) c.as_bytes.ensures.value)

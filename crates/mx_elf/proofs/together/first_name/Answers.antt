use Rattle.std.proofs.Common.{◌≡◌, ◌+◌, ◌≤◌, ◌⊎◌, inl, inr, ◌∙◌, ap, length, take, arith, bytes_eq, false}
use Rattle.std.specs.Option.{option_map_or}
use Rattle.mx_elf.proofs.Several.{found-name}
use Rattle.mx_elf.proofs.together.first_name.Goals as goal
use Rattle.mx_elf.proofs.together.first_name.Goals.{then-longest-strings, else-longest-strings}

pub returns-in-Some : goal.returns-in-Some
returns-in-Some c = λ name le.
    let strings = c.args.strings.now in
    let most = c.if-longest-strings.most in
    let parts : (most ≤ length strings) × ((most ≡ c.args.longest + 1) ⊎ (most ≡ length strings)) = elim c.if-longest-strings.branch [
      | then-longest-strings w ↦ (omega (arith, w.if-longest-strings.true, w.most-is), inl w.most-is)
      | else-longest-strings w ↦ (omega (arith, w.most-is), inr w.most-is)
    ] in
    found-name strings name most c.args.longest parts.0 le parts.1 c.memchr.result c.memchr.ensures
    ∙ ap (λ r. option_map_or (λ end. bytes_eq (take end strings) name) r false) c.in-Some.is

pub returns-in-None : goal.returns-in-None
returns-in-None c = λ name le.
    let strings = c.args.strings.now in
    let most = c.if-longest-strings.most in
    let parts : (most ≤ length strings) × ((most ≡ c.args.longest + 1) ⊎ (most ≡ length strings)) = elim c.if-longest-strings.branch [
      | then-longest-strings w ↦ (omega (arith, w.if-longest-strings.true, w.most-is), inl w.most-is)
      | else-longest-strings w ↦ (omega (arith, w.most-is), inr w.most-is)
    ] in
    found-name strings name most c.args.longest parts.0 le parts.1 c.memchr.result c.memchr.ensures
    ∙ ap (λ r. option_map_or (λ end. bytes_eq (take end strings) name) r false) c.in-None.is

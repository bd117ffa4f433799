use Rattle.std.proofs.Common.{◌+◌, ◌-◌, ◌*◌, ℕ, List, nat_eq, slice_range, ◌∙◌, ap, arith}
use Rattle.std.specs.Cmp.Lexicographic.{pointwise}
use Rattle.mx_any.specs.Machines.{meaning}
use Rattle.mx_twin.proofs.SeenRuns.{slices-decide}
use Rattle.mx_twin.proofs.words.same_bytes.Goals as goal

pub returns : goal.returns
returns c =
    let f = meaning c.args.a.now in
    let g = meaning c.args.b.now in
    let n = c.args.end - c.args.at in
    let some = c.requires.some in
    let inside = c.requires.inside in
    let words = c.requires.alike.words in
    let first = c.any_machine_is_valid.ensures.valid.ram_count in
    let second = c.any_machine_is_valid-2.ensures.valid.ram_count in
    c.same_slices.ensures
    ∙ ap (λ (xs : List ℕ). pointwise nat_eq xs c.bytes-2.result.now) c.bytes.ensures
    ∙ ap (λ (xs : List ℕ). pointwise nat_eq (slice_range f.core.ram (4 * c.args.at) (4 * c.args.at + 4 * n)) xs) c.bytes-2.ensures
    ∙ slices-decide f.core g.core c.args.at n (omega (arith, some, inside, first)) (omega (arith, some, inside, words, second))

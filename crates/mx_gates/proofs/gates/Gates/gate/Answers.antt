use Rattle.std.proofs.Common.{◌≡◌, List, slice_get, get_or, sym, ap, ◌∙◌}
use Rattle.std.specs.List.{position_or_len}
use Rattle.std.proofs.lemmas.List.Folds.{find_at}
use Rattle.mx_model.specs.declared.values.Gate.{Gate}
use Rattle.mx_model.specs.Gates.{is_at, gate_at}
use Rattle.mx_gates.specs.Index.{bucket, lying}
use Rattle.mx_gates.proofs.Indexing.{lying-none}
use Rattle.mx_gates.proofs.gates.Gates.gate.Goals as goal

pub returns-then-self-bucket-eq0 : goal.returns-then-self-bucket-eq0
returns-then-self-bucket-eq0 c =
    let s = c.self.inside in
    let d = c.args.domain in
    let w = c.args.word in
    let b = c.bucket.ensures.value in
    let none : lying (bucket d w) s.gates.items ≡ 0 = sym (c.self.invariant.1.counted (bucket d w) (rw (sym b) c.bucket.ensures.bounded))
    ∙ ap (λ k. get_or s.counts k 0) (sym b) ∙ c.if-self-bucket-eq0.true in
    sym (ap (λ (xs : List Gate). gate_at xs d w) (sym c.self.view_is) ∙ lying-none s.gates.items d w none)

pub returns : goal.returns
returns c =
    let s = c.self.inside in
    let p = is_at c.args.domain c.args.word in
    c.gate_in.ensures
    ∙ ap (slice_get c.as_slice-sorted.result.now) c.sorted_place.ensures
    ∙ ap (λ (xs : List Gate). slice_get xs (position_or_len p xs)) c.as_slice-sorted.ensures.value
    ∙ sym (find_at p s.sorted.items)
    ∙ c.self.invariant.1.same c.args.domain c.args.word
    ∙ ap (λ (xs : List Gate). gate_at xs c.args.domain c.args.word) c.self.view_is

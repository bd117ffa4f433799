use Rattle.std.proofs.Common.{List, ap, ◌∙◌}
use Rattle.mx_model.specs.declared.values.Gate.{Gate}
use Rattle.mx_model.specs.Gates.{gate_at}
use Rattle.mx_gates.specs.Index.{place_of}
use Rattle.mx_gates.proofs.Apart.{pushed-single}
use Rattle.mx_gates.proofs.Indexing.{Indexes-with}
use Rattle.mx_gates.proofs.gates.Gates.append.Goals as goal

pub invariant_of-self : goal.invariant_of-self
invariant_of-self c =
    let s = c.self.inside in
    let g = c.args.gate in
    let none = ap (λ (xs : List Gate). gate_at xs g.domain g.word) c.self.view_is ∙ c.requires.none in
    let at = c.place-at.ensures.place ∙ ap (place_of g.domain g.word) c.as_slice.ensures.value in
    rw (c.push.ensures.items, c.insert.ensures.items, at, c.bucket.ensures.value)
    (pushed-single s.gates.items g none c.self.invariant.0, Indexes-with s.gates.items s.sorted.items s.counts c.self.invariant.1 g none)

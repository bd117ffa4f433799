use Rattle.std.proofs.Common.{◌≡◌, true, List, get_or, sym, ap, refl, ◌∙◌, arith}
use Rattle.std.specs.List.{position_or_len}
use Rattle.mx_model.specs.declared.values.Gate.{Gate}
use Rattle.mx_model.specs.Gates.{is_at, has_gate}
use Rattle.mx_gates.specs.Index.{bucket, lying}
use Rattle.mx_model.proofs.ApartLaws.{single-filter}
use Rattle.mx_gates.proofs.Apart.{place_in, removed}
use Rattle.mx_gates.proofs.Indexing.{Indexes-has, Indexes-without, lying-some}
use Rattle.mx_gates.proofs.gates.Gates.take_out.Goals as goal

pub remove-requires : goal.remove-requires
remove-requires c =
    let s = c.self.inside in
    let d = c.args.domain in
    let w = c.args.word in
    let has : has_gate s.gates.items d w ≡ true = ap (λ (xs : List Gate). has_gate xs d w) c.self.view_is ∙ c.requires.stands in
    let at = c.sorted_place-at.ensures ∙ ap (position_or_len (is_at d w)) c.as_slice.ensures.value in
    (omega arith, rw at (place_in d w s.sorted.items (Indexes-has s.gates.items s.sorted.items s.counts c.self.invariant.1 d w has)))

pub remove-requires-2 : goal.remove-requires-2
remove-requires-2 c =
    let s = c.self.inside in
    let d = c.args.domain in
    let w = c.args.word in
    let has : has_gate s.gates.items d w ≡ true = ap (λ (xs : List Gate). has_gate xs d w) c.self.view_is ∙ c.requires.stands in
    let at = c.first_place-at.ensures ∙ ap (position_or_len (is_at d w)) c.as_slice-2.ensures.value in
    (omega arith, rw at (place_in d w s.gates.items has))

pub overflow_sub-self : goal.overflow_sub-self
overflow_sub-self c =
    let s = c.self.inside in
    let d = c.args.domain in
    let w = c.args.word in
    let has : has_gate s.gates.items d w ≡ true = ap (λ (xs : List Gate). has_gate xs d w) c.self.view_is ∙ c.requires.stands in
    let b = c.bucket.ensures.value in
    let count : get_or s.counts c.bucket.result 0 ≡ lying (bucket d w) s.gates.items = ap (λ k. get_or s.counts k 0) b
    ∙ c.self.invariant.1.counted (bucket d w) (rw (sym b) c.bucket.ensures.bounded) in
    omega (arith, count, lying-some s.gates.items d w has)

pub invariant_of-self : goal.invariant_of-self
invariant_of-self c =
    let s = c.self.inside in
    let d = c.args.domain in
    let w = c.args.word in
    let has : has_gate s.gates.items d w ≡ true = ap (λ (xs : List Gate). has_gate xs d w) c.self.view_is ∙ c.requires.stands in
    let at = c.sorted_place-at.ensures ∙ ap (position_or_len (is_at d w)) c.as_slice.ensures.value in
    let at2 = c.first_place-at.ensures ∙ ap (position_or_len (is_at d w)) c.as_slice-2.ensures.value in
    let fewer = removed d w s.gates.items c.self.invariant.0 has in
    rw (c.remove-2.ensures.items, c.remove.ensures.items, at2, at, c.bucket.ensures.value, fewer) (
      single-filter _ s.gates.items c.self.invariant.0,
      Indexes-without s.gates.items s.sorted.items s.counts c.self.invariant.1 d w
          c.self.invariant.0 has,
    )

pub returns : goal.returns
returns c =
    let s = c.self.inside in
    let d = c.args.domain in
    let w = c.args.word in
    let has : has_gate s.gates.items d w ≡ true = ap (λ (xs : List Gate). has_gate xs d w) c.self.view_is ∙ c.requires.stands in
    let at2 = c.first_place-at.ensures ∙ ap (position_or_len (is_at d w)) c.as_slice-2.ensures.value in
    rw (c.remove-2.ensures.items, at2, removed d w s.gates.items c.self.invariant.0 has, c.self.view_is) refl

use Rattle.std.proofs.Common.{◌≡◌, ◌+◌, ◌∙◌, ap, sym, length, drop, arith, ◌++◌, ◌∷◌, [], refl}
use Rattle.std.proofs.lemmas.Iterator.Consumers.{YieldsList-turn, YieldsList-end}
use Rattle.std.proofs.lemmas.Iterator.Splits.{YieldsList-from_lines}
use Rattle.std.proofs.lemmas.List.{length_push, at_drop_all}
use Rattle.std.specs.Option.{option_or}
use Rattle.std.specs.Str.Lines.{lines}
use Rattle.mx_source.specs.Lines.{line_of}
use Rattle.mx_source.specs.LineViews.{line_view}
use Rattle.mx_asm.specs.Faults.{fault_from, offset_from}
use Rattle.mx_asm.specs.LabelViews.{labels_view}
use Rattle.mx_asm.proofs.LineLaws.{line_at}
use Rattle.mx_asm.proofs.Walks.{faults_more, offsets_more, fault_here, first_told, offset_told, option_or-none}
use Rattle.mx_asm.proofs.faults.first_fault.Goals as goal

pub lines-preserved : goal.lines-preserved
lines-preserved c =
    let source = c.args.source.now in
    let labels = labels_view c.args.labels.now in
    let n = length c.lines.yielded in
    let t = line_at source n c.in-Some.text.now (YieldsList-turn (YieldsList-from_lines source cc) c.lines.yielded _ c.lines.yielded_by _ _
    c.in-Some.text c.in-Some.is c.next.ensures.steps) in
    let k : length (c.lines.yielded ++ c.in-Some.text ∷ []) ≡ n + 1 = length_push c.lines.yielded c.in-Some.text in
    let is = c.read_line-line.ensures.line ∙ ap line_of c.as_bytes.ensures.value in
    record {
      faults = rw k (faults_more labels c.lines.place c.lines.line_number c.in-Some.text.now (line_view c.read_line-line.result)
          (drop (n + 1) (lines source)) is c.place_after-place.result c.place_after-place.ensures.after (sym c.line_fault.ensures
          ∙ c.in_default.is)
          ∙ ap (fault_from labels c.lines.place c.lines.line_number) (sym t.next) ∙ c.lines.invariant.faults);
      offsets = rw (c.first_offset-offset.ensures, c.offset_fault.ensures, k)
          (offsets_more labels c.lines.place c.lines.line_number c.in-Some.text.now (line_view c.read_line-line.result)
          (drop (n + 1) (lines source)) is c.place_after-place.result c.place_after-place.ensures.after c.lines.offset
          ∙ ap (λ l. option_or c.lines.offset (offset_from labels c.lines.place c.lines.line_number l)) (sym t.next)
          ∙ c.lines.invariant.offsets);
      number = omega arith;
      bound = record { segments = omega arith; here = omega arith; total = omega arith };
      few = omega (arith, t.few);
    }

pub returns-in-Some-line_fault : goal.returns-in-Some-line_fault
returns-in-Some-line_fault c =
    let source = c.args.source.now in
    let labels = labels_view c.args.labels.now in
    let n = length c.lines.yielded in
    let t = line_at source n c.in-Some.text.now (YieldsList-turn (YieldsList-from_lines source cc) c.lines.yielded _ c.lines.yielded_by _ _
    c.in-Some.text c.in-Some.is c.next.ensures.steps) in
    let is = c.read_line-line.ensures.line ∙ ap line_of c.as_bytes.ensures.value in
    let here = fault_here labels c.lines.place c.lines.line_number c.in-Some.text.now (line_view c.read_line-line.result)
    (drop (n + 1) (lines source)) is _ refl c.in-Some-line_fault.number (sym c.line_fault.ensures ∙ c.in-Some-line_fault.is) in
    sym (first_told source labels _ c.requires.labels (sym c.lines.invariant.faults
    ∙ ap (fault_from labels c.lines.place c.lines.line_number) t.next ∙ here))

pub returns : goal.returns
unfolding fault_from offset_from
returns c =
    let source = c.args.source.now in
    let labels = labels_view c.args.labels.now in
    let n = length c.lines.yielded in
    let e = YieldsList-end (YieldsList-from_lines source cc) c.lines.yielded _ c.lines.yielded_by _ _ c.in-None.is c.next.ensures.steps in
    let none = sym c.lines.invariant.faults ∙ at_drop_all (fault_from labels c.lines.place c.lines.line_number) (lines source) n
    (omega (arith, e.1)) in
    let offset = sym c.lines.invariant.offsets ∙ ap (option_or c.lines.offset)
    (at_drop_all (offset_from labels c.lines.place c.lines.line_number) (lines source) n (omega (arith, e.1)))
    ∙ option_or-none c.lines.offset in
    sym (offset_told source labels c.lines.offset c.requires.labels none offset)

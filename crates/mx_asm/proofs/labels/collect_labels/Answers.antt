use Rattle.std.proofs.Common.{◌≡◌, ◌+◌, ◌∙◌, ap, sym, length, drop, arith, ◌++◌, ◌∷◌, []}
use Rattle.std.proofs.lemmas.Iterator.Consumers.{YieldsList-turn, YieldsList-end}
use Rattle.std.proofs.lemmas.Iterator.Splits.{YieldsList-from_lines}
use Rattle.std.proofs.lemmas.List.{length_push, at_drop_all}
use Rattle.std.specs.Str.Lines.{lines}
use Rattle.mx_source.specs.Lines.{line_of}
use Rattle.mx_source.specs.LineViews.{line_view}
use Rattle.mx_asm.specs.Labels.{labels_from}
use Rattle.mx_asm.specs.LabelViews.{labels_view}
use Rattle.mx_asm.proofs.LineLaws.{line_at}
use Rattle.mx_asm.proofs.Walks.{labels_more}
use Rattle.mx_asm.proofs.labels.collect_labels.Goals as goal

pub lines-preserved : goal.lines-preserved
lines-preserved c =
    let source = c.args.source.now in
    let t = line_at source (length c.lines.yielded) c.in-Some.text.now
    (YieldsList-turn (YieldsList-from_lines source cc) c.lines.yielded _ c.lines.yielded_by _ _ c.in-Some.text c.in-Some.is
    c.next.ensures.steps) in
    let k : length (c.lines.yielded ++ c.in-Some.text ∷ []) ≡ length c.lines.yielded + 1 = length_push c.lines.yielded c.in-Some.text in
    let step = labels_more (labels_view c.lines.labels) c.lines.place c.lines.number c.in-Some.text.now (line_view c.read_line-line.result)
    (drop (length c.lines.yielded + 1) (lines source))
    (c.read_line-line.ensures.line ∙ ap line_of c.as_bytes.ensures.value) c.place_after-place.result c.place_after-place.ensures.after
    (labels_view c.define.new.labels) c.in_ok-define.ensures in
    record {
      labels = rw k (step ∙ ap (labels_from c.lines.place c.lines.number (labels_view c.lines.labels)) (sym t.next)
          ∙ c.lines.invariant.labels);
      number = omega arith;
      bound = record { segments = omega arith; here = omega arith; total = omega arith };
      few = omega (arith, t.few);
    }

pub returns : goal.returns
unfolding labels_from
returns c =
    let source = c.args.source.now in
    let e = YieldsList-end (YieldsList-from_lines source cc) c.lines.yielded _ c.lines.yielded_by _ _ c.in-None.is c.next.ensures.steps in
    sym (at_drop_all (labels_from c.lines.place c.lines.number (labels_view c.lines.labels)) (lines source) (length c.lines.yielded)
    (omega (arith, e.1))) ∙ c.lines.invariant.labels

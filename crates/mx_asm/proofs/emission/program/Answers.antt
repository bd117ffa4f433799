use Rattle.std.proofs.Common.{◌≡◌, ◌+◌, ◌∙◌, ap, sym, length, arith, ◌++◌, ◌∷◌, [], refl, codes}
use Rattle.std.proofs.lemmas.Iterator.Consumers.{YieldsList-turn, YieldsList-end}
use Rattle.std.proofs.lemmas.Iterator.Splits.{YieldsList-from_lines}
use Rattle.std.proofs.lemmas.List.{length_push, at_drop_all}
use Rattle.std.specs.Str.Lines.{lines}
use Rattle.mx_source.specs.Lines.{line_of}
use Rattle.mx_source.specs.LineViews.{line_view}
use Rattle.mx_asm.specs.Denoted.{program_from}
use Rattle.mx_asm.specs.LabelViews.{labels_view}
use Rattle.mx_words.proofs.OptionLaws.{is_some-map}
use Rattle.mx_asm.proofs.LineLaws.{line_at}
use Rattle.mx_asm.proofs.Placed.{start_placed}
use Rattle.mx_asm.proofs.Sources.{next_at, program_at, first_none, definition_below, found_place, program_done}
use Rattle.mx_asm.proofs.emission.program.Goals as goal

pub lines-init : goal.lines-init
lines-init c =
    let f = first_none c.args.source.now (labels_view c.args.labels.now) c.requires.labels c.requires.faultless in
    rw (c.new-program.ensures, c.start-place.ensures)
    (record { program = refl; faults = f.0; offsets = f.1; placed = start_placed })

pub add_label-requires : goal.add_label-requires
add_label-requires c =
    let source = c.args.source.now in
    let labels = labels_view c.args.labels.now in
    let n = length c.lines.yielded in
    let t = line_at source n c.in-Some.text.now (YieldsList-turn (YieldsList-from_lines source cc) c.lines.yielded _ c.lines.yielded_by _ _
    c.in-Some.text c.in-Some.is c.next.ensures.steps) in
    let is = c.read_line-line.ensures.line ∙ ap line_of c.as_bytes.ensures.value in
    let next = next_at source labels c.lines.place n c.in-Some.text.now (line_view c.read_line-line.result) c.lines.program t is
    c.lines.invariant.faults c.lines.invariant.offsets c.lines.invariant.placed in
    λ some. next.below (is_some-map (λ name. name.now) c.read_line-line.result.label ∙ some)

pub add_statement-requires-clause-ready : goal.add_statement-requires-clause-ready
add_statement-requires-clause-ready c =
    let source = c.args.source.now in
    let labels = labels_view c.args.labels.now in
    let n = length c.lines.yielded in
    let t = line_at source n c.in-Some.text.now (YieldsList-turn (YieldsList-from_lines source cc) c.lines.yielded _ c.lines.yielded_by _ _
    c.in-Some.text c.in-Some.is c.next.ensures.steps) in
    let is = c.read_line-line.ensures.line ∙ ap line_of c.as_bytes.ensures.value in
    let next = next_at source labels c.lines.place n c.in-Some.text.now (line_view c.read_line-line.result) c.lines.program t is
    c.lines.invariant.faults c.lines.invariant.offsets c.lines.invariant.placed in
    rw c.in_ok-add_label.ensures next.step.ready

pub lines-preserved : goal.lines-preserved
lines-preserved c =
    let source = c.args.source.now in
    let labels = labels_view c.args.labels.now in
    let n = length c.lines.yielded in
    let t = line_at source n c.in-Some.text.now (YieldsList-turn (YieldsList-from_lines source cc) c.lines.yielded _ c.lines.yielded_by _ _
    c.in-Some.text c.in-Some.is c.next.ensures.steps) in
    let is = c.read_line-line.ensures.line ∙ ap line_of c.as_bytes.ensures.value in
    let next = next_at source labels c.lines.place n c.in-Some.text.now (line_view c.read_line-line.result) c.lines.program t is
    c.lines.invariant.faults c.lines.invariant.offsets c.lines.invariant.placed in
    let k : length (c.lines.yielded ++ c.in-Some.text ∷ []) ≡ n + 1 = length_push c.lines.yielded c.in-Some.text in
    rw (k, c.place_after-place.ensures.after, c.in_ok-add_statement.ensures, c.in_ok-add_label.ensures)
    (record {
      program = sym (program_at source labels c.lines.place n c.in-Some.text.now (line_view c.read_line-line.result) c.lines.program t is)
          ∙ c.lines.invariant.program;
      faults = next.faults;
      offsets = next.offsets;
      placed = next.step.after;
    })

pub set_start-requires : goal.set_start-requires
set_start-requires c =
    found_place _ c.definition.result _ c.definition.ensures (rw (← c.requires.labels) at
    (definition_below c.args.source.now (codes "start") c.requires.faultless))

pub returns : goal.returns
unfolding program_from
returns c =
    let source = c.args.source.now in
    let labels = labels_view c.args.labels.now in
    let e = YieldsList-end (YieldsList-from_lines source cc) c.lines.yielded _ c.lines.yielded_by _ _ c.in-None.is c.next.ensures.steps in
    let all = at_drop_all (λ rest. program_from labels c.lines.place rest c.lines.program) (lines source) (length c.lines.yielded)
    (omega (arith, e.1)) in
    program_done source labels c.lines.program c.set_start.new.program c.definition.result c.requires.labels (sym all
    ∙ c.lines.invariant.program) c.definition.ensures c.set_start.ensures

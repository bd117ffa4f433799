use Rattle.std.proofs.Common.{◌∙◌, ap, None, Ok, Err, ◌++◌, map}
use Rattle.mx_boot.specs.Laid.{start_of}
use Rattle.mx_boot.proofs.Steps.{at_images, at_areas, at_gates, at_harts, nowhere, images_are, areas_are, asked_are, gates_are, gates_tell}
use Rattle.mx_boot.proofs.Steps.{harts_are, harts_tell}
use Rattle.mx_boot.proofs.layout.lay_out_files.Goals as goal

pub returns-in-Some : goal.returns-in-Some
returns-in-Some c = at_images c.args.plan.now c.args.images.now c.in-Some.fault
    (images_are c.args.plan.now c.args.images.now _ c.in-Some.ensures)

pub returns-in-Some-areas_fault : goal.returns-in-Some-areas_fault
returns-in-Some-areas_fault c =
    let p = c.args.plan.now in
    let i = c.args.images.now in
    let all = c.as_slice.ensures.value ∙ c.in-Ok.ensures in
    at_areas p i c.in-Some-areas_fault.fault (images_are p i _ c.images_fault.ensures ∙ c.in_default.is)
    (areas_are p i _ _ _ c.ram_words.ensures all c.in-Some-areas_fault.ensures)

pub returns-in-Err : goal.returns-in-Err
returns-in-Err c =
    let p = c.args.plan.now in
    let i = c.args.images.now in
    let all = c.as_slice.ensures.value ∙ c.in-Ok.ensures in
    let asked = asked_are p i _ _ c.ask_gates.new.gates.items (Err c.in-Err.refused) (c.as_slice-2.ensures.value ∙ c.in-Ok.ensures)
    c.new-gates.ensures.items c.in-Err.ensures in
    at_gates p i c.in-Err.refused (images_are p i _ c.images_fault.ensures ∙ c.in_default.is)
    (areas_are p i _ _ _ c.ram_words.ensures all c.areas_fault.ensures ∙ c.in_default-areas_fault.is)
    (gates_tell p i c.in-Err.refused asked)

pub returns-in-Err-add_starts : goal.returns-in-Err-add_starts
returns-in-Err-add_starts c =
    let p = c.args.plan.now in
    let i = c.args.images.now in
    let all = c.as_slice.ensures.value ∙ c.in-Ok.ensures in
    let asked = asked_are p i _ _ c.ask_gates.new.gates.items (Ok tt) (c.as_slice-2.ensures.value ∙ c.in-Ok.ensures)
    c.new-gates.ensures.items (rw c.in_default-ask_gates.is at c.ask_gates.ensures) in
    at_harts p i c.in-Err-add_starts.refused (images_are p i _ c.images_fault.ensures ∙ c.in_default.is)
    (areas_are p i _ _ _ c.ram_words.ensures all c.areas_fault.ensures ∙ c.in_default-areas_fault.is) (gates_are p i None asked.0)
    (harts_tell p i c.in-Err-add_starts.refused c.in-Err-add_starts.ensures)

pub returns-in-Ok-add_starts : goal.returns-in-Ok-add_starts
returns-in-Ok-add_starts c =
    let p = c.args.plan.now in
    let i = c.args.images.now in
    let all = c.as_slice.ensures.value ∙ c.in-Ok.ensures in
    let asked = asked_are p i _ _ c.ask_gates.new.gates.items (Ok tt) (c.as_slice-2.ensures.value ∙ c.in-Ok.ensures)
    c.new-gates.ensures.items (rw c.in_default-ask_gates.is at c.ask_gates.ensures) in
    record {
      faultless = nowhere p i (images_are p i _ c.images_fault.ensures ∙ c.in_default.is)
          (areas_are p i _ _ _ c.ram_words.ensures all c.areas_fault.ensures ∙ c.in_default-areas_fault.is)
          (gates_are p i None asked.0) (harts_are p i None c.in-Ok-add_starts.ensures.0);
      areas = c.in-Ok.ensures;
      gates = asked.1;
      starts = c.in-Ok-add_starts.ensures.1 ∙ ap (λ e. e ++ map (start_of p i) p.harts) c.new-starts.ensures.items;
    }

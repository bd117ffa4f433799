use Rattle.std.proofs.Common.{List, refl, ap, ◌∙◌}
use Rattle.mx_heap.specs.HeapState.{HeapState}
use Rattle.mx_resume.specs.Parts.{harts_in_code, head_seen}
use Rattle.mx_resume.proofs.AllFields.{fields-taken, stored_with}
use Rattle.mx_resume.proofs.fields.read_fields.Goals as goal

pub returns : goal.returns
returns c = (
  stored_with (head_seen c.in_ok-head.head) c.in_ok-read_modules.ensures.0 c.in_ok-owners.ensures.0 c.in_ok-gates.gates
      c.in_ok-harts.ensures.0 c.in_ok-ram.ram,
  fields-taken c.args.bytes.now c.args.at.now (head_seen c.in_ok-head.head) c.read_head.new.at c.in_ok-read_modules.ensures.0
      c.read_modules.new.at c.in_ok-runs.runs _ c.in_ok-owners.ensures.0 c.read_owners.new.at c.in_ok-count.count _ c.in_ok-gates.gates
      c.read_gates.new.at c.in_ok-harts.ensures.0 c.read_harts.new.at c.in_ok-ram.ram c.ram.new.at
      c.in_ok-head.ensures.taken c.in_ok-read_modules.ensures.1 c.in_ok-runs.ensures.taken c.in_ok-owners.ensures.1
      c.in_ok-count.ensures.taken c.in_ok-gates.ensures c.in_ok-harts.ensures.1 c.in_ok-ram.ensures,
  record {
    head = refl;
    modules = c.in_ok-read_modules.ensures.2;
    owners = c.in_ok-owners.ensures.2;
    gates = refl;
    harts = c.in_ok-harts.ensures.2 ∙ ap (λ (hs : List HeapState). harts_in_code c.in_ok-head.head.words hs c.in_ok-harts.ensures.0)
        c.in_ok-read_modules.ensures.2.heaps;
    ram = refl;
  },
)

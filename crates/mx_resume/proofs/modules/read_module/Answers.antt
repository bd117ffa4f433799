use Rattle.std.proofs.Common.{[], ap, ◌∙◌, sym}
use Rattle.mx_words.specs.FirstFit.{Area}
use Rattle.mx_heap.specs.HeapState.{HeapState}
use Rattle.mx_snapshot.specs.Fields.{block_in}
use Rattle.mx_snapshot.specs.Reader.{list_of}
use Rattle.mx_resume.specs.Parts.{head_seen}
use Rattle.mx_resume.proofs.AddedModules.{module_is}
use Rattle.mx_resume.proofs.ModuleFields.{module_made, module_took}
use Rattle.mx_resume.proofs.modules.read_module.Goals as goal

pub returns-clause-taken : goal.returns-clause-taken
returns-clause-taken c = λ before names.
    let row = c.in_ok-row.ensures in
    let heap = c.restore_blocks.new.heap in
    let made = ap (λ (h : HeapState). h.area) c.in_ok-heap.ensures.heap in
    let blocks = ap (λ (a : Area). list_of c.in_ok-count.count (block_in a) [] c.args.bytes.now c.between-2.new.at) (sym made)
    ∙ c.in_ok-restore_blocks.ensures.taken in
    let stored = module_made c.in_ok-spelled.spelled.now c.in_ok-heap_first.heap_first c.in_ok-heap_count.heap_count c.in_ok-first.first
    c.in_ok-words.words c.in_ok-kills.kills c.in_ok-dead.dead heap.blocks row.0 in (
      stored,
      module_took (head_seen c.args.head.now) before c.args.bytes.now c.args.at.now _ _ _ _ _ _ _ _ _ _ _ _ _ _ _ _ _ _ _ _ _ _ _ _
          c.in_ok-size.ensures.taken (c.in_ok-spelled.ensures.taken before names) c.in_ok-heap_first.ensures
          c.in_ok-heap_count.ensures.taken c.in_ok-first.ensures c.in_ok-words.ensures c.in_ok-kills.ensures c.in_ok-dead.ensures
          c.in_ok-count.ensures.taken blocks c.in_ok-runs.ensures row.1,
      module_is stored c.in_ok-name.name heap c.in_ok-row.row c.in_ok-name.ensures.text (c.in_ok-restore_blocks.ensures.area ∙ made) row.2,
    )

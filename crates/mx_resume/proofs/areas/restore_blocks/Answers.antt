use Rattle.std.proofs.Common.{ℕ, ◌+◌, List, length, sym, ap, ◌∙◌, subst, arith}
use Rattle.std.proofs.lemmas.Result.{err_from_is_err_and}
use Rattle.mx_words.specs.FirstFit.{Area, AreApart}
use Rattle.mx_heap.specs.HeapState.{HeapState, area_of}
use Rattle.mx_snapshot.specs.Fields.{block_in}
use Rattle.mx_snapshot.specs.Rules.{behind}
use Rattle.mx_resume.proofs.Blocks.{on_true, apart_more, block_last, block_lives}
use Rattle.mx_resume.proofs.Lists.{Left, left_misses, left_next}
use Rattle.mx_resume.proofs.Places.{behind_more, count_more}
use Rattle.mx_resume.proofs.areas.restore_blocks.Goals as goal

pub returns-in_err-block-clause-taken : goal.returns-in_err-block-clause-taken
returns-in_err-block-clause-taken c =
    let inv = c.live.invariant in
    let p = err_from_is_err_and c.from_residual.result c.from_residual.ensures.1 in
    let from = ap (λ (a : Area). behind a c.live.heap.blocks) (sym inv.area) ∙ inv.from in
    let end = ap (λ (a : Area). a.first + a.count) (sym inv.area) ∙ inv.end in
    rw (p.1, p.2) (left_misses _ c.live-test.true inv.left (c.in_err-block.ensures.taken c.args.heap.now.area c.live.heap.blocks from end))

pub live-preserved : goal.live-preserved
live-preserved c =
    let inv = c.live.invariant in
    let heap = c.live.heap in
    let b = area_of c.in_ok-block.block in
    let place = c.in_ok-block.ensures.place in
    let from = ap (λ (a : Area). behind a heap.blocks) (sym inv.area) ∙ inv.from in
    let end = ap (λ (a : Area). a.first + a.count) (sym inv.area) ∙ inv.end in
    let lives = block_lives heap c.live.from b inv.apart place.1 place.0 (omega (arith, place.2, inv.end))
    (omega (arith, inv.long, c.live-test.true, c.requires.few)) in
    let new = on_true _ _ (c.restore.ensures.restored ∙ lives) c.restore.ensures.live in
    let blocks = ap (λ (h : HeapState). h.blocks) new ∙ block_last heap.area.first c.live.from b heap.blocks inv.apart place.1 place.0 in
    let area = ap (λ (h : HeapState). h.area) new in
    record {
      area = area ∙ inv.area;
      long = ap length blocks ∙ count_more heap.blocks b ∙ ap (λ (k : ℕ). k + 1) inv.long;
      end = ap (λ (a : Area). a.first + a.count) area ∙ inv.end;
      from = ap (λ (a : Area). behind a c.restore.new.self.blocks) area ∙ ap (behind heap.area) blocks
          ∙ behind_more heap.area heap.blocks b;
      apart = subst (λ (a : Area). AreApart a.first (b.first + b.count) c.restore.new.self.blocks) (sym area)
          (subst (λ (bs : List Area). AreApart heap.area.first (b.first + b.count) bs) (sym blocks)
          (apart_more heap.area.first c.live.from b heap.blocks inv.apart place.1 place.0));
      left = subst (λ (bs : List Area). Left (block_in c.args.heap.now.area) c.args.bytes.now c.args.count c.args.at.now
          (c.live.counter + 1) bs c.block.new.at) (sym blocks)
          (left_next c.live-test.true inv.left (c.in_ok-block.ensures.taken c.args.heap.now.area heap.blocks from end));
    }

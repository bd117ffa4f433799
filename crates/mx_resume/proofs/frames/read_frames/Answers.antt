use Rattle.std.proofs.Common.{ap, ◌∙◌, ◌+◌, ℕ, List, length, sym, subst}
use Rattle.std.proofs.lemmas.Result.{err_from_is_err_and}
use Rattle.mx_model.specs.declared.values.Frame.{Frame}
use Rattle.mx_snapshot.specs.Fields.{frame_in}
use Rattle.mx_resume.specs.Parts.{head_seen}
use Rattle.mx_resume.proofs.Lists.{Left, left_misses, left_next}
use Rattle.mx_resume.proofs.Places.{count_more}
use Rattle.mx_resume.proofs.frames.read_frames.Goals as goal

pub returns-in_err-frame : goal.returns-in_err-frame
returns-in_err-frame c =
    let p = err_from_is_err_and c.from_residual.result c.from_residual.ensures.1 in
    rw (p.1, p.2) (left_misses _ c.frames-test.true c.frames.invariant.left (c.in_err-frame.ensures c.frames.frames))

pub frames-preserved : goal.frames-preserved
frames-preserved c = record {
  long = ap length c.in-Ok.ensures.ok ∙ count_more c.frames.frames c.in_ok-frame.frame ∙ ap (λ (k : ℕ). k + 1) c.frames.invariant.long;
  left = subst (λ (fs : List Frame). Left (frame_in (head_seen c.args.head.now)) c.args.bytes.now c.args.count c.args.at.now
      (c.frames.counter + 1) fs c.frame.new.at) (sym c.in-Ok.ensures.ok)
      (left_next c.frames-test.true c.frames.invariant.left (c.in_ok-frame.ensures c.frames.frames));
}

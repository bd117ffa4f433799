use Rattle.std.proofs.Common.{refl, inl, inr}
use Rattle.mx_model.specs.Run.{ByBytes, ByQuantum}
use Rattle.mx_commands.specs.Asked.{order_of}
use Rattle.mx_debugger.specs.Looking.{looked_at}
use Rattle.mx_debugger.proofs.debugger.debug_loaded.Goals as goal

pub returns-in-Ok-Some : goal.returns-in-Ok-Some
returns-in-Ok-Some g c =
    let takes = rw c.in-Ok-Some.field-0-is at c.in-Ok-Some.ensures in
    let course = c.course_of-course.ensures in
    let images = c.as_slice-in-Ok-Some.ensures.value in
    let inputs = c.as_slice-in-Ok-Some-2.ensures.value in
    λ s boots means.
    let run = looked_at (order_of c.args.order.now) c.args.loaded.plan c.args.loaded.images.items s (ByBytes c.in-Ok-Some.bytes.items) in
    inl (
      ByBytes c.in-Ok-Some.bytes.items,
      takes.1 c.args.loaded.plan.quantum,
      c.talk_by-status.ensures run
          (record {
            schedule = rw (course.schedule, c.as_slice.ensures.value) refl;
            most = rw course.most refl;
            known = rw (course.plan, course.images, images) refl;
            boots = rw (course.plan, course.images, course.inputs, images, inputs) boots;
          }) means,
      takes.0,
    )

pub returns-in-Ok-None : goal.returns-in-Ok-None
returns-in-Ok-None g c =
    let takes = rw c.in-Ok-None.field-0-is at c.in-Ok-None.ensures in
    let course = c.course_of-course-in-Ok-None.ensures in
    let images = c.as_slice-in-Ok-None.ensures.value in
    let inputs = c.as_slice-in-Ok-None-2.ensures.value in
    λ s boots means.
    let run = looked_at (order_of c.args.order.now) c.args.loaded.plan c.args.loaded.images.items s (ByQuantum c.args.loaded.plan.quantum)
    in
    inl (
      ByQuantum c.args.loaded.plan.quantum,
      takes.1 c.args.loaded.plan.quantum,
      c.talk_by-status-in-Ok-None.ensures run
          (record {
            schedule = rw (course.schedule, c.quantum.ensures.value) refl;
            most = rw course.most refl;
            known = rw (course.plan, course.images, images) refl;
            boots = rw (course.plan, course.images, course.inputs, images, inputs) boots;
          }) means,
      takes.0,
    )

pub returns : goal.returns
returns g c = λ s boots means. inr (refl, λ made console dump. c.in-Err.ensures c.args.loaded.plan.quantum made console dump)

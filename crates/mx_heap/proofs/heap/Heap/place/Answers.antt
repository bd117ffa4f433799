use Rattle.std.proofs.Common.{◌≡◌, sym, arith, length, Ok, Err, Result, ℕ}
use Rattle.std.specs.List.{position}
use Rattle.std.proofs.lemmas.List.{get_or_read}
use Rattle.mx_words.specs.FirstFit.{Area, place}
use Rattle.mx_heap.specs.declared.block.HeapError.{HeapError}
use Rattle.mx_heap.specs.Places.{fitting, is_hole_for, part_at, wall, blocks_of}
use Rattle.mx_heap.proofs.Answering.{Answers, Found, answers_ok, answers_err, found}
use Rattle.mx_heap.proofs.KeptParts.{is_heap}
use Rattle.mx_heap.proofs.heap.Heap.place.Goals as goal

pub returns-in-Ok : goal.returns-in-Ok
returns-in-Ok c =
    let area : Area = record { first = c.self.inside.first; count = c.self.inside.count } in
    let told : ◌≡◌ {A = Result ℕ HeapError} (Ok c.in-Ok.i) (fitting (position (is_hole_for c.args.words) c.deref.result.now)
    c.self.inside.live) = c.in-Ok.ensures in
    let e : fitting (position (is_hole_for c.args.words) c.self.inside.parts.items) c.self.inside.live ≡ Ok c.in-Ok.i =
    sym (rw c.deref.ensures.value at told) in
    let at : Found area _ c.self.invariant.are.fill c.self.inside.live c.self.invariant.are.counted c.args.words c.requires c.in-Ok.i =
    found area _ c.self.invariant.are.fill c.self.inside.live c.self.invariant.are.counted c.args.words c.requires c.in-Ok.i e in
    let part : c.index.result.now ≡ part_at c.self.inside.parts.items c.in-Ok.i =
    get_or_read c.self.inside.parts.items c.in-Ok.i c.index.result.now at.within c.index.ensures wall in
    let a : Answers (place area (blocks_of c.self.inside.parts.items) c.args.words) (length (blocks_of c.self.inside.parts.items))
    (Ok (part_at c.self.inside.parts.items c.in-Ok.i).first) =
    answers_ok area _ c.self.invariant.are.fill c.self.inside.live c.self.invariant.are.counted c.args.words c.requires c.in-Ok.i e in
    rw (← c.self.view_is, part) (record {
      ok = a.ok;
      no_room = a.no_room;
      full = a.full;
      inside = (at.low, omega (arith, at.long, at.high));
      heap = is_heap _ _ _ _ _ c.self.invariant.are;
    })

pub returns-in-Err : goal.returns-in-Err
returns-in-Err c =
    let area : Area = record { first = c.self.inside.first; count = c.self.inside.count } in
    let told : ◌≡◌ {A = Result ℕ HeapError} (Err c.in-Err.refusal)
    (fitting (position (is_hole_for c.args.words) c.deref.result.now) c.self.inside.live) = c.in-Err.ensures in
    let e : fitting (position (is_hole_for c.args.words) c.self.inside.parts.items) c.self.inside.live ≡ Err c.in-Err.refusal =
    sym (rw c.deref.ensures.value at told) in
    let a : Answers (place area (blocks_of c.self.inside.parts.items) c.args.words) (length (blocks_of c.self.inside.parts.items))
    (Err c.in-Err.refusal) =
    answers_err area _ c.self.invariant.are.fill c.self.inside.live c.self.invariant.are.counted c.args.words c.requires c.in-Err.refusal e
    in
    rw (← c.self.view_is) (record {
      ok = tt;
      no_room = a.no_room;
      full = a.full;
      inside = tt;
      heap =
          is_heap _ _ _ _ _ c.self.invariant.are;
    })

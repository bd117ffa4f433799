use Rattle.std.proofs.Common.{◌+◌, ◌*◌, refl, arith, length-set}
use Rattle.mx_pool.proofs.StoredFrames.{set_outside}
use Rattle.mx_pool.proofs.FreeList.{frame_room, pool_written}
use Rattle.mx_pool.proofs.Changes.{elsewhere, total, written_frame, written_here, written_others, written_free}
use Rattle.mx_pool.proofs.Pool.set.Goals as goal

pub overflow_mul-frame : goal.overflow_mul-frame
overflow_mul-frame g c = omega (arith, frame_room g.row.WORDS _ _ _ _ c.self.invariant _ c.self.view_is c.args.frame c.requires.taken)

pub overflow_add-frame : goal.overflow_add-frame
overflow_add-frame g c = omega (arith, frame_room g.row.WORDS _ _ _ _ c.self.invariant _ c.self.view_is c.args.frame c.requires.taken)

pub index_mut-requires : goal.index_mut-requires
index_mut-requires g c = omega (arith, frame_room g.row.WORDS _ _ _ _ c.self.invariant _ c.self.view_is c.args.frame c.requires.taken)

pub invariant_of-self : goal.invariant_of-self
invariant_of-self g c = pool_written g.row.WORDS _ _ _ _ c.self.invariant _
    (length-set c.self.inside.words.items (c.args.frame * g.row.WORDS + c.args.at) c.args.value)

pub returns : goal.returns
returns g c = record {
  frame = written_frame g.row.WORDS _ _ _ _ c.self.invariant _ c.self.view_is c.args.frame c.args.at c.args.value c.requires.taken;
  elsewhere = λ f ne. elsewhere g.row.WORDS _ _ _ _ c.self.invariant _ c.self.view_is c.args.frame f _ _
      (set_outside g.row.WORDS c.args.frame c.args.at c.args.value c.self.inside.words.items c.requires.within) ne refl;
  here = written_here g.row.WORDS _ _ _ _ c.self.invariant _ c.self.view_is c.args.frame c.args.at c.args.value c.requires.taken
      c.requires.within;
  others = λ k ne. written_others g.row.WORDS _ _ _ _ c.self.invariant _ c.self.view_is c.args.frame c.args.at c.args.value k
      c.requires.taken ne;
  free = written_free g.row.WORDS _ _ _ _ c.self.invariant _ c.self.view_is _;
  total = total g.row.WORDS _ _ _ _ c.self.invariant _ c.self.view_is _ _ refl;
}

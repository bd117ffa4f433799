use Rattle.std.proofs.Common.{◌≡◌, ◌<◌, get_or, length, true, false, arith, length-set, get_or-set_other}
use Rattle.mx_pool.proofs.StoredFrames.{same_outside, is_marked, marked_below}
use Rattle.mx_pool.proofs.FreeList.{room_left, pool_given}
use Rattle.mx_pool.proofs.Changes.{elsewhere, total, given_here, given_free}
use Rattle.mx_pool.proofs.Pool.give.Goals as goal

pub index_mut-requires : goal.index_mut-requires
index_mut-requires g c =
    let mark : get_or c.self.inside.taken.items c.args.frame false ≡ true =
    is_marked g.row.WORDS _ _ _ c.self.view_is c.args.frame c.requires in
    let within : c.args.frame < length c.self.inside.taken.items = marked_below _ c.args.frame mark in
    omega arith

pub index_mut-requires-2 : goal.index_mut-requires-2
index_mut-requires-2 g c =
    let mark : get_or c.self.inside.taken.items c.args.frame false ≡ true =
    is_marked g.row.WORDS _ _ _ c.self.view_is c.args.frame c.requires in
    omega (arith, room_left g.row.WORDS _ _ _ _ c.self.invariant c.args.frame mark)

pub invariant_of-self : goal.invariant_of-self
invariant_of-self g c =
    let mark : get_or c.self.inside.taken.items c.args.frame false ≡ true =
    is_marked g.row.WORDS _ _ _ c.self.view_is c.args.frame c.requires in
    pool_given g.row.WORDS _ _ _ _ c.self.invariant c.args.frame mark

pub returns : goal.returns
returns g c = record {
  here = given_here g.row.WORDS _ _ _ _ c.self.invariant _ c.self.view_is c.args.frame c.requires;
  elsewhere = λ f ne. elsewhere g.row.WORDS _ _ _ _ c.self.invariant _ c.self.view_is c.args.frame f _ _
      (same_outside g.row.WORDS c.args.frame c.self.inside.words.items) ne
      (get_or-set_other c.self.inside.taken.items c.args.frame f false false ne);
  more = given_free g.row.WORDS _ _ _ _ c.self.invariant _ c.self.view_is c.args.frame c.requires;
  total = total g.row.WORDS _ _ _ _ c.self.invariant _ c.self.view_is _ _ (length-set c.self.inside.taken.items c.args.frame false);
}

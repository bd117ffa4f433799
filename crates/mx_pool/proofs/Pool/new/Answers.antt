use Rattle.std.proofs.Common.{◌≡◌, ◌*◌, replicate, false}
use Rattle.mx_pool.proofs.StoredFrames.{frames_of-unmarked}
use Rattle.mx_pool.proofs.FreeList.{pool_made}
use Rattle.mx_pool.proofs.Pool.new.Goals as goal

pub returns : goal.returns
returns g c =
    let e : c.in_ok-taken.taken.items ≡ replicate c.args.frames false = c.in_ok-taken.ensures in
    rw e (frames_of-unmarked g.row.WORDS c.args.frames c.in_ok-words.words.items)

pub invariant_of-result : goal.invariant_of-result
invariant_of-result g c =
    let e : c.in_ok-taken.taken.items ≡ replicate c.args.frames false = c.in_ok-taken.ensures in
    let w : c.in_ok-words.words.items ≡ replicate c.in-Some.size 0 = c.in_ok-words.ensures in
    let s : c.in-Some.size ≡ c.args.frames * g.row.WORDS = c.in-Some.ensures.1 in
    rw (e, w, s) (pool_made g.row.WORDS c.args.frames c.in_ok-free.free.items c.requires c.in_ok-free.ensures.len c.in_ok-free.ensures.each)

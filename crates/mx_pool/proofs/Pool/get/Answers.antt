use Rattle.std.proofs.Common.{◌+◌, ◌*◌, ◌<◌, length, arith, sym, ◌∙◌}
use Rattle.std.proofs.lemmas.List.{get_or_read}
use Rattle.mx_pool.proofs.StoredFrames.{word_shown}
use Rattle.mx_pool.proofs.FreeList.{frame_room}
use Rattle.mx_pool.proofs.Pool.get.Goals as goal

pub overflow_mul-frame : goal.overflow_mul-frame
overflow_mul-frame g c = omega (arith, frame_room g.row.WORDS _ _ _ _ c.self.invariant _ c.self.view_is c.args.frame c.requires.taken)

pub overflow_add-frame : goal.overflow_add-frame
overflow_add-frame g c = omega (arith, frame_room g.row.WORDS _ _ _ _ c.self.invariant _ c.self.view_is c.args.frame c.requires.taken)

pub index-requires : goal.index-requires
index-requires g c = omega (arith, frame_room g.row.WORDS _ _ _ _ c.self.invariant _ c.self.view_is c.args.frame c.requires.taken)

pub returns : goal.returns
returns g c =
    let place : c.args.frame * g.row.WORDS + c.args.at < length c.self.inside.words.items =
    omega (arith, frame_room g.row.WORDS _ _ _ _ c.self.invariant _ c.self.view_is c.args.frame c.requires.taken) in
    get_or_read c.self.inside.words.items (c.args.frame * g.row.WORDS + c.args.at) c.index.result.now place c.index.ensures 0
    ∙ sym (word_shown g.row.WORDS _ _ _ c.self.view_is c.args.frame c.args.at c.requires.taken c.requires.within)

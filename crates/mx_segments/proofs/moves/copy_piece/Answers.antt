use Rattle.std.proofs.Common.{◌≡◌, ◌≢◌, ℕ, ◌+◌, ◌/◌, ◌%◌, sym, ap, ◌∙◌, subst, arith}
use Rattle.mx_pool.specs.Frames.{word_at, frame_at, IsTaken}
use Rattle.mx_segments.specs.Store.{frame_in}
use Rattle.mx_segments.proofs.StoreLaws.{put_store, put_others}
use Rattle.mx_segments.proofs.PieceMoves.{piece-is}
use Rattle.mx_segments.proofs.moves.copy_piece.Goals as goal
use Rattle.mx_segments.proofs.moves.copy_piece.Goals.{After-copy}

elsewhere : (c : After-copy) (g : ℕ) → g ≢ frame_in c.args.chains.now.lists c.args.row (c.args.to / 64)
    → frame_at c.copy.new.self g ≡ frame_at c.args.leaf.now g
elsewhere c g ne = c.copy.ensures.elsewhere g (λ e. ne (e ∙ c.frame_at-target.ensures))

pub returns-clause-rewritten : goal.returns-clause-rewritten
returns-clause-rewritten c =
    let T : ℕ → Type 0 = λ f. IsTaken c.copy.new.self f in
    record {
      store = put_store c.args.leaf.now c.copy.new.self c.args.chains.now.lists c.requires.store c.args.row c.args.to (omega arith)
          (elsewhere c)
          (subst T c.frame_at-target.ensures c.copy.ensures.taken) c.copy.ensures.free c.copy.ensures.total;
      others = put_others c.args.leaf.now c.copy.new.self c.args.chains.now.lists c.requires.store c.args.row c.args.to (omega arith)
          (elsewhere c) c.copy.ensures.total;
      free = c.copy.ensures.free;
    }

pub returns-clause-piece : goal.returns-clause-piece
returns-clause-piece c =
    piece-is c.args.leaf.now c.copy.new.self c.args.chains.now.lists c.requires.store c.args.row c.args.from c.args.to c.args.count
    c.requires.from c.requires.to c.requires.one_source c.requires.one_target c.requires.some
    (λ k lt. ap (λ f. word_at c.copy.new.self f (c.args.to % 64 + k)) (sym c.frame_at-target.ensures) ∙ c.copy.ensures.copied k lt
    ∙ ap (λ f. word_at c.args.leaf.now f (c.args.from % 64 + k)) c.frame_at-source.ensures)
    (λ k lt. ap (λ f. word_at c.copy.new.self f k) (sym c.frame_at-target.ensures) ∙ c.copy.ensures.below k lt
    ∙ ap (λ f. word_at c.args.leaf.now f k) c.frame_at-target.ensures)
    (λ k le lt. ap (λ f. word_at c.copy.new.self f k) (sym c.frame_at-target.ensures) ∙ c.copy.ensures.behind k le lt
    ∙ ap (λ f. word_at c.args.leaf.now f k) c.frame_at-target.ensures)
    (elsewhere c)

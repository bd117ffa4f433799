use Rattle.std.proofs.Common.{ℕ, ◌+◌, ◌*◌, List, [], length, replicate, sum_by, ◌∙◌, ap, sym, subst, arith}
use Rattle.std.proofs.lemmas.List.{length-replicate}
use Rattle.mx_words.specs.declared.perm.Perm.{Perm}
use Rattle.mx_words.specs.Need.{segment_frames}
use Rattle.mx_pool.specs.Frames.{Frames, free_in}
use Rattle.mx_segments.specs.Store.{IsStore, frames_in}
use Rattle.mx_segments.specs.Kept.{maps_in}
use Rattle.mx_segments.specs.Shape.{within_is}
use Rattle.mx_segments.proofs.BuildLaws.{maps_of_rows, need_of_rows, empty_store, all_free, list_at-empty}
use Rattle.mx_segments.proofs.segments.SegmentsPermTables.build.Goals as goal

pub returns-clause-maps : goal.returns-clause-maps
returns-clause-maps c =
    let rows = c.lay_rows.ensures.count ∙ ap (λ (l : List (List ℕ)). length l) c.in-Ok-empty_chains.ensures.lists ∙ length-replicate _ _ in
    maps_of_rows c.args.words c.lay_rows.new.leaf c.lay_rows.new.chains.lists c.args.rows.now rows c.lay_rows.ensures.maps

pub returns-clause-fits : goal.returns-clause-fits
returns-clause-fits c =
    let rows = c.lay_rows.ensures.count ∙ ap (λ (l : List (List ℕ)). length l) c.in-Ok-empty_chains.ensures.lists ∙ length-replicate _ _ in
    let maps = maps_of_rows c.args.words c.lay_rows.new.leaf c.lay_rows.new.chains.lists c.args.rows.now rows c.lay_rows.ensures.maps in
    let need = ap (λ (ms : List (List Perm)). sum_by segment_frames ms) maps ∙ need_of_rows c.args.words c.args.rows.now in
    within_is (sum_by segment_frames (maps_in c.args.words c.lay_rows.new.leaf c.lay_rows.new.chains.lists)) c.args.limit
    (omega (arith, need, c.frames_of_all-needed.ensures, c.if-limit-needed.false))

pub lay_rows-requires-clause-store : goal.lay_rows-requires-clause-store
lay_rows-requires-clause-store c =
    let S : List (List ℕ) → Type 0 = λ ls. IsStore c.in-Ok.leaf ls in
    let F : Frames → Type 0 = λ fs. IsStore fs (replicate (length c.args.rows.now) []) in
    subst S (sym c.in-Ok-empty_chains.ensures.lists) (subst F (sym c.in-Ok.ensures) (empty_store _ (length c.args.rows.now)))

pub lay_rows-requires-clause-empty : goal.lay_rows-requires-clause-empty
lay_rows-requires-clause-empty c = λ q.
    ap (λ (ls : List (List ℕ)). frames_in ls q) c.in-Ok-empty_chains.ensures.lists
    ∙ ap (λ (l : List ℕ). length l) (list_at-empty (length c.args.rows.now) q)

pub lay_rows-requires-clause-spare : goal.lay_rows-requires-clause-spare
lay_rows-requires-clause-spare c =
    let free = ap (λ (fs : Frames). free_in fs) c.in-Ok.ensures ∙ all_free (c.args.limit.leaf + 2 * length c.args.rows.now) in
    omega arith

pub lay_rows-requires-clause-memory : goal.lay_rows-requires-clause-memory
lay_rows-requires-clause-memory c =
    let len = ap (λ (fs : Frames). length fs) c.in-Ok.ensures ∙ length-replicate _ _ in
    record { enough = omega (arith, c.in-Ok-empty_chains.ensures.room) }

pub invariant_of-result : goal.invariant_of-result
invariant_of-result c =
    let rows = c.lay_rows.ensures.count ∙ ap (λ (l : List (List ℕ)). length l) c.in-Ok-empty_chains.ensures.lists ∙ length-replicate _ _ in
    let len = c.lay_rows.ensures.total ∙ ap (λ (fs : Frames). length fs) c.in-Ok.ensures ∙ length-replicate _ _ in
    let free = ap (λ (fs : Frames). free_in fs) c.in-Ok.ensures ∙ all_free (c.args.limit.leaf + 2 * length c.args.rows.now) in
    record {
      kept = record {
        store = search;
        some_words = search;
        few_words = search;
        some_rows = rw rows c.requires.some_rows;
        few_rows = rw rows c.requires.few_rows;
        sound = search;
        room = rw rows len;
        memory_for = record { enough = omega (arith, c.in-Ok-empty_chains.ensures.room) };
        limited = search;
        fit = omega (arith, c.lay_rows.ensures.store.counted);
      };
    }

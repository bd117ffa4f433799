use Rattle.std.proofs.Common.{ℕ, ◌≡◌, ◌+◌, ◌<◌, length, inl, inr, sym, ◌∙◌, ap, subst, arith}
use Rattle.std.proofs.lemmas.Bool.{cases_eq}
use Rattle.mx_words.specs.Changes.{changed_map}
use Rattle.mx_table.specs.Change.{given}
use Rattle.mx_segments.specs.Sound.{map_in, IsSound}
use Rattle.mx_segments.proofs.KeptLaws.{kept_map, kept_sound}
use Rattle.mx_segments.proofs.rows.change_all.Goals as goal

pub loop-row-preserved : goal.loop-row-preserved
loop-row-preserved c =
    let words = c.args.words in
    let row = c.loop-row.row in
    let change = c.args.change.now in
    let inv = c.loop-row.invariant in
    let one = c.change_one.ensures in
    let fs = c.loop-row.leaf in
    let ls = c.loop-row.chains.lists in
    let fs' = c.change_one.new.leaf in
    let ls' = c.change_one.new.chains.lists in
    let within : row < length c.args.chains.now.lists = omega (arith, c.loop-row-test.true, c.count-rows.ensures.count) in
    record {
      store = one.store;
      rows = one.others.rows ∙ inv.rows;
      total = one.others.total ∙ inv.total;
      sound = λ q lt. elim (cases_eq q row) [
        | inl e ↦ (let S : ℕ → Type 0 = λ x. IsSound words fs' ls' x in subst S (sym e) one.sound)
        | inr ne ↦ kept_sound words fs ls fs' ls' row one.others q ne (inv.sound q lt)
      ];
      done = λ q lt. elim (cases_eq q row) [
        | inl e ↦ (let D : ℕ → Type 0 = λ x. map_in words fs' ls' x
            ≡ changed_map change.first change.count (given change (x + 1)) (map_in words c.args.leaf.now c.args.chains.now.lists x) in
            subst D (sym e) (one.changed ∙ ap (changed_map change.first change.count (given change (row + 1)))
            (inv.left row (omega arith) within)))
        | inr ne ↦ (kept_map words fs ls fs' ls' row one.others q ne (inv.sound q (omega arith)) ∙ inv.done q (omega arith))
      ];
      left = λ q from lt. (let ne : q ≡ row → ⊥ = λ e. omega arith in kept_map words fs ls fs' ls' row one.others q ne (inv.sound q lt)
          ∙ inv.left q (omega arith) lt);
      free = (let f = one.free in let g = inv.free in omega arith);
      same_room = one.same_room ∙ inv.same_room;
    }

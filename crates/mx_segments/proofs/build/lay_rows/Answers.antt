use Rattle.std.proofs.Common.{ℕ, ◌≡◌, ◌+◌, ◌<◌, List, [], length, get_or, inl, inr, sym, ◌∙◌, ap, subst, arith}
use Rattle.std.proofs.lemmas.Bool.{cases_eq}
use Rattle.std.proofs.lemmas.List.{get_or_read}
use Rattle.std.proofs.lemmas.List.Sums.{sum_by_more}
use Rattle.mx_words.specs.declared.perm.Span.{Span}
use Rattle.mx_words.specs.Need.{segment_frames}
use Rattle.mx_table.specs.Tables.{row_map}
use Rattle.mx_segments.specs.Sound.{map_in, IsSound}
use Rattle.mx_segments.proofs.KeptLaws.{kept_map, kept_sound}
use Rattle.mx_segments.proofs.build.lay_rows.Goals as goal

free_step : (a a' o s s' g h : ℕ) → a' + g ≡ a → a + s ≡ o → s' ≡ s + h → g ≡ h → a' + s' ≡ o
free_step a a' o s s' g h one inv more same = omega arith

pub loop-row-preserved : goal.loop-row-preserved
loop-row-preserved c =
    let words = c.args.words in
    let row = c.loop-row.row in
    let rows = c.args.rows.now in
    let inv = c.loop-row.invariant in
    let one = c.lay_row.ensures in
    let fs = c.loop-row.leaf in
    let ls = c.loop-row.chains.lists in
    let fs' = c.lay_row.new.leaf in
    let ls' = c.lay_row.new.chains.lists in
    let within : row < length rows = c.loop-row-test.true in
    let here : c.index-rows-row.result ≡ get_or rows row [] = get_or_read rows row c.index-rows-row.result within c.index-rows-row.is [] in
    record {
      store = one.store;
      count = one.others.rows ∙ inv.count;
      total = one.others.total ∙ inv.total;
      sound = λ q lt. elim (cases_eq q row) [
        | inl e ↦ (let S : ℕ → Type 0 = λ x. IsSound words fs' ls' x in subst S (sym e) one.sound)
        | inr ne ↦ kept_sound words fs ls fs' ls' row one.others q ne (inv.sound q (omega arith))
      ];
      maps = λ q lt. elim (cases_eq q row) [
        | inl e ↦ (let M : ℕ → Type 0 = λ x. map_in words fs' ls' x ≡ row_map words (get_or rows x []) in
            subst M (sym e) (one.map ∙ ap (row_map words) here))
        | inr ne ↦ (kept_map words fs ls fs' ls' row one.others q ne (inv.sound q (omega arith)) ∙ inv.maps q (omega arith))
      ];
      same_room = one.same_room ∙ inv.same_room;
      empty = λ q from. (let ne : q ≡ row → ⊥ = λ e. omega arith in ap (λ (l : List ℕ). length l) (one.others.chains q ne)
          ∙ inv.empty q (omega arith));
      free = free_step _ _ _ _ _ _ _ one.free inv.free (sum_by_more (λ (r : List Span). segment_frames (row_map words r)) rows row []
          within)
          (ap (λ (r : List Span). segment_frames (row_map words r)) here);
    }

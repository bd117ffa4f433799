-- Lists that are filled row by row.
use Rattle.std.proofs.Common.{◌≡◌, ℕ, zero, suc, ◌+◌, ◌<◌, ◌≤◌, true, false, cond, List, [], ◌∷◌, Option, None, is_none, length, get_or}
use Rattle.std.proofs.Common.{set, replicate, sum_by, refl, sym, ◌∙◌, ap, subst, arith, inl, inr, length-set, get_or-set_same}
use Rattle.std.proofs.Common.{get_or-set_other}
use Rattle.std.proofs.Common.{map as list_map}
use Rattle.std.proofs.lemmas.Bool.{cases_eq}
use Rattle.std.proofs.lemmas.List.{same_lists, get_or_default, length-replicate, length-map, get_or-map}
use Rattle.std.proofs.lemmas.List.Sums.{sum_by-set, sum_by-cons}
use Rattle.mx_words.specs.declared.perm.Perm.TheVariants as P
use Rattle.mx_words.specs.declared.perm.Span.{Span}
use Rattle.mx_words.specs.Rights.{perm_at}
use Rattle.mx_words.specs.Counting.{count_below}
use Rattle.mx_words.specs.Newest.{map}
use Rattle.mx_words.specs.Runs.{runs}
use Rattle.mx_words.specs.Need.{segment_frames}
use Rattle.mx_words.specs.Starts.{is_start}
use Rattle.mx_words.proofs.CountingLaws.{count_below-zero}
use Rattle.mx_table.specs.Tables.{row_map, IsRow}
use Rattle.mx_table.specs.Rows.{first_spans}
use Rattle.mx_table.proofs.RowLaws.{length-first, tail_none}
use Rattle.mx_table.proofs.RowsBuilt.{no_row}
use Rattle.mx_pool.specs.Frames.{Frames, free_in}
use Rattle.mx_segments.specs.Lists.{list_at}
use Rattle.mx_segments.specs.Store.{frames_in, IsStore, KeepsOthers}
use Rattle.mx_segments.specs.Entries.{IsChain, entry_word}
use Rattle.mx_segments.specs.Sound.{map_in}
use Rattle.mx_segments.specs.Kept.{maps_in}
use Rattle.mx_segments.specs.Shape.{sum_by_same, length-maps_in, maps_in-at}
use Rattle.mx_segments.proofs.SpanLaws.{runs_first}
use Rattle.mx_segments.proofs.TallyLaws.{none_started, one_run}

-- the free frames after a change of one row
pub free_moved : (fs : Frames) (ls : List (List ℕ)) (fs' : Frames) (ls' : List (List ℕ)) (row : ℕ) → IsStore fs ls → IsStore fs' ls' →
    KeepsOthers fs ls fs' ls' row → row < length ls → free_in fs' + frames_in ls' row ≡ free_in fs + frames_in ls row
free_moved fs ls fs' ls' row st st' keeps within =
    let same : ls' ≡ set ls row (list_at ls' row) = same_lists ls' (set ls row (list_at ls' row))
    (keeps.rows ∙ sym (length-set ls row (list_at ls' row)))
    (λ k d lt. let below : k < length ls = omega (arith, keeps.rows) in elim (cases_eq k row) [
      | inl e ↦ (let G : ℕ → Type 0 = λ x. get_or ls' x d ≡ get_or (set ls row (list_at ls' row)) x d in
          let row_lt : row < length ls' = omega (arith, keeps.rows) in
          subst G (sym e) (get_or_default ls' row d [] row_lt ∙ sym (get_or-set_same ls row (list_at ls' row) d within)))
      | inr ne ↦ (get_or_default ls' k d [] lt ∙ keeps.chains k ne ∙ get_or_default ls k [] d below
          ∙ sym (get_or-set_other ls row k (list_at ls' row) d ne))
    ]) in
    let sums = sum_by-set length ls row (list_at ls' row) [] within in
    let whole : sum_by length ls' ≡ sum_by length (set ls row (list_at ls' row)) = ap (λ (x : List (List ℕ)). sum_by length x) same in
    let total = keeps.total in
    let c = st.counted in
    let c' = st'.counted in
    omega (arith, sums, whole)

-- one entry and zeros after it are the chain of a map without permissions
pub start_chain : (words frames : ℕ) (stored : ℕ → ℕ) → 1 ≤ words → frames ≡ 1 → stored 0 ≡ 2147483648
    → ((k : ℕ) → 0 < k → k < 64 → stored k ≡ 0) →
    IsChain words frames stored (map [] words)
start_chain words frames stored pos one first zeros =
    let m = first_spans words [] 0 in
    let runs_one : runs m ≡ 1 = one_run words [] (no_row words) pos in
    record {
      length_is = length-first words [] (no_row words) 0;
      frames_are = omega (arith, one, runs_one);
      entries = λ i lt start. elim (cases_eq i 0) [
        | inl e ↦ (let none : perm_at m 0 ≡ P.None = tail_none words [] (no_row words) 0 0 (omega arith) (omega arith) in
            let E : ℕ → Type 0 = λ x. stored (count_below x (is_start m)) ≡ entry_word x (perm_at m x) in
            subst E (sym e) (ap stored (count_below-zero (is_start m)) ∙ first ∙ ap (entry_word 0) (sym none)))
        | inr ne ↦ (let both : true ≡ false = sym start ∙ none_started words [] (no_row words) pos i (omega arith) in cc)
      ];
      rest = λ k from lt. zeros k (omega (arith, runs_one)) (omega (arith, one));
    }

-- a frame is left while the spans of a row are laid
pub spare_left : (words : ℕ) (row : List Span) (n : ℕ) → IsRow words row → n ≤ length row → (free frames old : ℕ) →
    free + frames ≡ old → frames ≡ segment_frames (first_spans words row n) → segment_frames (row_map words row) + 2 ≤ old → 0 < free
spare_left words row n is le free frames old moved frames_are enough =
    let most = runs_first words row is n le in
    omega (arith, most)

-- empty lists and free frames
pub list_at-empty : (n row : ℕ) → list_at (replicate n []) row ≡ []
list_at-empty zero row = refl
list_at-empty (suc n) zero = refl
list_at-empty (suc n) (suc row) = list_at-empty n row

none_longer : (n : ℕ) → sum_by (λ (l : List ℕ). length l) (replicate n []) ≡ 0
none_longer zero = refl
none_longer (suc n) =
    let more : sum_by (λ (l : List ℕ). length l) ([] ∷ replicate n []) ≡ 0 + sum_by (λ (l : List ℕ). length l) (replicate n []) =
    sum_by-cons (λ (l : List ℕ). length l) [] (replicate n []) in
    omega (arith, more, none_longer n)

pub all_free : (n : ℕ) → free_in (replicate n None) ≡ n
all_free zero = refl
all_free (suc n) =
    let more : free_in (None ∷ replicate n None) ≡ 1 + free_in (replicate n None) =
    sum_by-cons (λ (o : Option (List ℕ)). cond (is_none o) 1 0) None (replicate n None) in
    omega (arith, more, all_free n)

pub empty_store : (frames rows : ℕ) → IsStore (replicate frames None) (replicate rows [])
empty_store frames rows =
    let none : (row : ℕ) → frames_in (replicate rows []) row ≡ 0 = λ row. ap (λ (l : List ℕ). length l) (list_at-empty rows row) in
    record {
      taken = λ row i lt. absurd (omega (arith, none row));
      apart = λ row i other j lt lt' e. absurd (omega (arith, none row));
      counted = (let nothing : Option (List ℕ) = None in omega (arith, all_free frames, none_longer rows, length-replicate frames nothing));
    }

-- the maps of the rows
pub maps_of_rows : (words : ℕ) (fs : Frames) (ls : List (List ℕ)) (rows : List (List Span)) → length ls ≡ length rows →
    ((q : ℕ) → q < length ls → map_in words fs ls q ≡ row_map words (get_or rows q []))
    → maps_in words fs ls ≡ list_map (row_map words) rows
maps_of_rows words fs ls rows len each =
    same_lists (maps_in words fs ls) (list_map (row_map words) rows) (length-maps_in words fs ls ∙ len
    ∙ sym (length-map rows (row_map words)))
    (λ k d lt. let below : k < length ls = omega (arith, length-maps_in words fs ls) in
    maps_in-at words fs ls k d below ∙ each k below ∙ sym (get_or-map (row_map words) rows k [] d (omega (arith, len))))

pub need_of_rows : (words : ℕ) (rows : List (List Span)) → sum_by segment_frames (list_map (row_map words) rows)
    ≡ sum_by (λ row. segment_frames (row_map words row)) rows
need_of_rows words rows =
    sum_by_same segment_frames (λ row. segment_frames (row_map words row)) (list_map (row_map words) rows) rows [] []
    (length-map rows (row_map words))
    (λ i lt. ap segment_frames (get_or-map (row_map words) rows i [] [] (omega (arith, length-map rows (row_map words)))))

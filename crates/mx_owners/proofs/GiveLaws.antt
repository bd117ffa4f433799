-- The runs after a give are those of the owners with the give laid over them.
use Rattle.std.proofs.Common.{ℕ, zero, suc, ◌≡◌, ◌≢◌, ◌+◌, ◌-◌, ◌<◌, ◌≤◌, ⊎_elim, true, false, List, [], ◌∷◌, ◌++◌, length, take, drop}
use Rattle.std.proofs.Common.{replicate, refl, sym, ◌∙◌, ap, subst, arith, length-append, length-drop}
use Rattle.std.specs.Prelude.{◌==◌, nat_lt}
use Rattle.std.proofs.lemmas.Bool.{cases_lt, cases_Bool, ne_eqb, eqb-true, eqb-false, lt-ltb, le-ltb}
use Rattle.std.proofs.lemmas.List.{drop_more, drop_all, length_push, length-replicate, get_or-replicate}
use Rattle.mx_words.specs.Newest.{Laid, laid, laid_at}
use Rattle.mx_words.proofs.CountingLaws.{length-list_below, list_below-at, list_below_is}
use Rattle.mx_words.proofs.OverlayLaws.{laid_at_in, laid_at_below, laid_at_behind, length-laid, laid-at}
use Rattle.mx_owners.specs.declared.runs.Run.{Run}
use Rattle.mx_owners.specs.OwnerRuns.{Fill, owner_in, owners_in, run_at, no_run, place_of, runs_before, goes_on, end_behind, place_behind}
use Rattle.mx_owners.specs.OwnerRuns.{given}
use Rattle.mx_owners.proofs.FillLaws.{end_of, last_owner, Fill-append, Around, around, owner_in-left, owner_in-right, owner_before}
use Rattle.mx_owners.proofs.FillLaws.{owner_from, owner_within, owner_behind}
use Rattle.mx_owners.proofs.PlaceLaws.{place-le, ends_behind, place_within, begins_before, place-mono}

end_of-push : (low : ℕ) (xs : List Run) (r : Run) → end_of low (xs ++ r ∷ []) ≡ r.end
end_of-push low [] r = refl
end_of-push low (x ∷ xs) r = end_of-push x.end xs r

last_owner-push : (before : ℕ) (xs : List Run) (r : Run) → last_owner before (xs ++ r ∷ []) ≡ r.owner
last_owner-push before [] r = refl
last_owner-push before (x ∷ xs) r = last_owner-push x.owner xs r

-- runs that stay before a give of the words from `first` on
pub record Before (rs : List Run) (owner first : ℕ) (xs : List Run) : Type 0 where
  pub fill : Fill 0 (end_of 0 xs) 0 xs
  pub reach : end_of 0 xs ≤ first
  pub same : (w : ℕ) → w < end_of 0 xs → owner_in xs w ≡ owner_in rs w
  pub rest : (w : ℕ) → end_of 0 xs ≤ w → w < first → owner_in rs w ≡ owner
  pub differs : 0 < end_of 0 xs → owner ≢ last_owner 0 xs
  pub few : length xs ≤ place_of rs first + 1

-- runs that stay after a give of the words to before `behind`, whose run ends at `end`
pub record Behind (rs : List Run) (high owner behind end : ℕ) (ys : List Run) : Type 0 where
  pub fill : Fill end high owner ys
  pub reach : behind ≤ end
  pub same : (w : ℕ) → end ≤ w → w < high → owner_in ys w ≡ owner_in rs w
  pub rest : (w : ℕ) → behind ≤ w → w < end → owner_in rs w ≡ owner
  pub few : length ys + place_of rs behind ≤ length rs

module _ (rs : List Run) (high : ℕ) (fill : Fill 0 high 0 rs) (owner : ℕ) where
  pub before_give : (first : ℕ) → first < high → Before rs owner first (runs_before rs owner first)
  before_give zero lt = record {
    fill = refl;
    reach = omega arith;
    same = λ w l. absurd (omega arith);
    rest = λ w l g. absurd (omega arith);
    differs = λ some. absurd (omega arith);
    few = omega arith;
  }
  before_give (suc n) lt =
      let back : suc n - 1 ≡ n = omega arith in
      let far : (suc n == 0) ≡ false = ne_eqb (suc n) 0 (λ e. omega arith) in
      let i : ℕ = place_of rs n in
      let within : i < length rs = place_within 0 high 0 rs n fill (omega arith) (omega arith) in
      let a : Around 0 high 0 rs i = around 0 high 0 rs i fill within in
      let xs : List Run = take i rs in
      let r : Run = run_at rs i in
      let start : end_of 0 xs ≤ n = begins_before 0 high 0 rs n fill (omega arith) within in
      let end : n < r.end = ends_behind rs n within in
      let order : i ≤ place_of rs (suc n) = place-mono 0 high 0 rs n (suc n) (omega arith) in
      let told : (w : ℕ) → w < end_of 0 xs → owner_in xs w ≡ owner_in rs w = λ w l. sym (owner_before 0 high 0 rs i a w (omega arith) l) in
      ⊎_elim
      (λ (t : (r.owner == owner) ≡ true).
      let is : runs_before rs owner (suc n) ≡ xs = rw (far, back, t) refl in
      let same : r.owner ≡ owner = eqb-true r.owner owner t in
      rw is (record {
        fill = a.left;
        reach = omega arith;
        same = told;
        rest = λ w l g. owner_within 0 high 0 rs i a w l (omega arith) ∙ same;
        differs = λ some e. a.differs some (same ∙ e);
        few = omega (arith, a.len);
      }))
      (λ (f : (r.owner == owner) ≡ false).
      let cut : Run = record { end = suc n; owner = r.owner } in
      let is : runs_before rs owner (suc n) ≡ xs ++ cut ∷ [] = rw (far, back, f) refl in
      let reach : end_of 0 (xs ++ cut ∷ []) ≡ suc n = end_of-push 0 xs cut in
      let tail : Fill (end_of 0 xs) (suc n) (last_owner 0 xs) (cut ∷ []) = (omega arith, a.differs, refl) in
      let all : Fill 0 (suc n) 0 (xs ++ cut ∷ []) = Fill-append 0 (suc n) 0 xs (cut ∷ []) a.left tail in
      rw is (record {
        fill = rw reach all;
        reach = omega (arith, reach);
        same = λ w l. ⊎_elim
            (λ (low : w < end_of 0 xs). owner_in-left 0 0 xs (cut ∷ []) w a.left low (omega arith) ∙ told w low)
            (λ (up : end_of 0 xs ≤ w).
            let lw : w < suc n = omega (arith, reach) in
            owner_in-right 0 0 xs (cut ∷ []) w a.left up ∙ (rw (lt-ltb w (suc n) lw) refl)
            ∙ sym (owner_within 0 high 0 rs i a w up (omega arith)))
            (cases_lt w (end_of 0 xs));
        rest = λ w l g. absurd (omega (arith, reach));
        differs = λ some e. eqb-false r.owner owner f (sym (e ∙ last_owner-push 0 xs cut));
        few = omega (arith, length_push xs cut, a.len);
      }))
      (cases_Bool (r.owner == owner))

  pub behind_give : (behind : ℕ) → behind ≤ high → Behind rs high owner behind (end_behind rs owner behind)
      (drop (place_behind rs owner behind) rs)
  behind_give behind le = ⊎_elim
      (λ (within : place_of rs behind < length rs).
      let i : ℕ = place_of rs behind in
      let a : Around 0 high 0 rs i = around 0 high 0 rs i fill within in
      let r : Run = run_at rs i in
      let start : end_of 0 (take i rs) ≤ behind = begins_before 0 high 0 rs behind fill (omega arith) within in
      let end : behind < r.end = ends_behind rs behind within in
      let there : nat_lt i (length rs) ≡ true = lt-ltb i (length rs) within in
      ⊎_elim
      (λ (t : (r.owner == owner) ≡ true).
      let on : goes_on rs owner behind ≡ true = rw (there, t) refl in
      let same : r.owner ≡ owner = eqb-true r.owner owner t in
      rw on (record {
        fill = subst (λ z. Fill r.end high z (drop (i + 1) rs)) same a.right;
        reach = omega arith;
        same = λ w l g. sym (owner_behind 0 high 0 rs i a w l);
        rest = λ w l g. owner_within 0 high 0 rs i a w (omega arith) g ∙ same;
        few = omega (arith, length-drop (i + 1) rs);
      }))
      (λ (f : (r.owner == owner) ≡ false).
      let on : goes_on rs owner behind ≡ false = rw (there, f) refl in
      let cut : drop i rs ≡ r ∷ drop (i + 1) rs = drop_more rs i no_run within in
      let tail : Fill behind high owner (r ∷ drop (i + 1) rs) = (end, (λ _. eqb-false r.owner owner f), a.right) in
      rw on (record {
        fill = rw cut tail;
        reach = omega arith;
        same = λ w l g. rw cut (sym (owner_from 0 high 0 rs i a w (omega arith)));
        rest = λ w l g. absurd (omega arith);
        few = omega (arith, length-drop i rs);
      }))
      (cases_Bool (r.owner == owner)))
      (λ (past : length rs ≤ place_of rs behind).
      let i : ℕ = place_of rs behind in
      let there : nat_lt i (length rs) ≡ false = le-ltb i (length rs) past in
      let on : goes_on rs owner behind ≡ false = rw there refl in
      let none : drop i rs ≡ [] = drop_all i rs past in
      let whole : behind ≡ high = ⊎_elim
      (λ (lt : behind < high). let within : i < length rs = place_within 0 high 0 rs behind fill (omega arith) lt in absurd (omega arith))
      (λ (ge : high ≤ behind). omega arith)
      (cases_lt behind high) in
      rw on (record {
        fill = rw none whole;
        reach = omega arith;
        same = λ w l g. absurd (omega arith);
        rest = λ w l g. absurd (omega arith);
        few = omega (arith, length-drop i rs, place-le rs behind);
      }))
      (cases_lt (place_of rs behind) (length rs))

  -- the runs after a give
  pub given_fill : (first behind : ℕ) → first < behind → behind ≤ high → Fill 0 high 0 (given rs owner first behind)
  given_fill first behind some le =
      let b : Before rs owner first (runs_before rs owner first) = before_give first (omega arith) in
      let e : Behind rs high owner behind (end_behind rs owner behind) (drop (place_behind rs owner behind) rs) = behind_give behind le in
      Fill-append 0 high 0 (runs_before rs owner first) (record { end = end_behind rs owner behind; owner = owner }
      ∷ drop (place_behind rs owner behind) rs) b.fill
      (omega (arith, b.reach, e.reach), b.differs, e.fill)

  pub given_few : (first behind : ℕ) → first < behind → behind ≤ high → length (given rs owner first behind) ≤ length rs + 2
  given_few first behind some le =
      let b : Before rs owner first (runs_before rs owner first) = before_give first (omega arith) in
      let e : Behind rs high owner behind (end_behind rs owner behind) (drop (place_behind rs owner behind) rs) = behind_give behind le in
      omega (
        arith,
        b.few,
        e.few,
        place-mono 0 high 0 rs first behind (omega arith),
        length-append (runs_before rs owner first) (record { end = end_behind rs owner behind; owner = owner }
            ∷ drop (place_behind rs owner behind) rs),
      )

  given_at : (first count w : ℕ) → 0 < count → first + count ≤ high → w < high →
      owner_in (given rs owner first (first + count)) w ≡ laid_at w (owner_in rs w) (record { first = first; count = count; value = owner })
  given_at first count w some le lt =
      let behind : ℕ = first + count in
      let b : Before rs owner first (runs_before rs owner first) = before_give first (omega arith) in
      let e : Behind rs high owner behind (end_behind rs owner behind) (drop (place_behind rs owner behind) rs) = behind_give behind le in
      let entry : Laid ℕ = record { first = first; count = count; value = owner } in
      let xs : List Run = runs_before rs owner first in
      let end : ℕ = end_behind rs owner behind in
      let ys : List Run = drop (place_behind rs owner behind) rs in
      let r : Run = record { end = end; owner = owner } in
      ⊎_elim
      (λ (left : w < end_of 0 xs).
      owner_in-left 0 0 xs (r ∷ ys) w b.fill left (omega arith) ∙ b.same w left
      ∙ sym (laid_at_below w (owner_in rs w) entry (omega (arith, b.reach))))
      (λ (from : end_of 0 xs ≤ w). owner_in-right 0 0 xs (r ∷ ys) w b.fill from ∙ ⊎_elim
      (λ (within : w < end).
      let here : owner_in (r ∷ ys) w ≡ owner = rw (lt-ltb w end within) refl in
      here ∙ ⊎_elim
      (λ (low : w < first). sym (b.rest w from low) ∙ sym (laid_at_below w (owner_in rs w) entry low))
      (λ (up : first ≤ w). ⊎_elim
      (λ (in_give : w < behind). sym (laid_at_in w (owner_in rs w) entry up in_give))
      (λ (past : behind ≤ w). sym (e.rest w past within) ∙ sym (laid_at_behind w (owner_in rs w) entry past))
      (cases_lt w behind))
      (cases_lt w first))
      (λ (beyond : end ≤ w).
      let there : owner_in (r ∷ ys) w ≡ owner_in ys w = rw (le-ltb w end beyond) refl in
      there ∙ e.same w beyond lt ∙ sym (laid_at_behind w (owner_in rs w) entry (omega (arith, e.reach))))
      (cases_lt w end))
      (cases_lt w (end_of 0 xs))

  -- the owners after a give
  pub given_owners : (first count : ℕ) → 0 < count → first + count ≤ high →
      owners_in high (given rs owner first (first + count)) ≡ laid (record { first = first; count = count; value = owner })
      (owners_in high rs)
  given_owners first count some le =
      let entry : Laid ℕ = record { first = first; count = count; value = owner } in
      let old : length (owners_in high rs) ≡ high = length-list_below high (owner_in rs) in
      list_below_is high (owner_in (given rs owner first (first + count))) (laid entry (owners_in high rs))
      (length-laid entry (owners_in high rs) ∙ old)
      (λ w d lt. laid-at entry (owners_in high rs) w d (omega (arith, old))
      ∙ ap (λ z. laid_at w z entry) (list_below-at high w (owner_in rs) d lt) ∙ sym (given_at first count w some le lt))

-- one run of the supervisor's
pub new_owners : (words : ℕ) → owners_in words (record { end = words; owner = 0 } ∷ []) ≡ replicate words 0
new_owners words = list_below_is words (owner_in (record { end = words; owner = 0 } ∷ [])) (replicate words 0)
    (length-replicate {A = ℕ} words 0)
    (λ w d lt. let one : owner_in (record { end = words; owner = 0 } ∷ []) w ≡ 0 = rw (lt-ltb w words lt) refl in
    get_or-replicate {A = ℕ} words w 0 d lt ∙ sym one)

-- The steps of a change, one after the other, lay the planned entries down.
use Rattle.std.proofs.Common.{◌≡◌, ◌≢◌, ℕ, ◌+◌, ◌-◌, ◌*◌, ◌/◌, ◌<◌, ◌≤◌, Bool, true, List, sym, ◌∙◌, ap, subst, arith, inl, inr}
use Rattle.std.proofs.lemmas.Bool.{cases_lt}
use Rattle.mx_words.specs.declared.perm.Perm.{Perm}
use Rattle.mx_words.specs.Counting.{bit}
use Rattle.mx_segments.specs.declared.plan.Plan.{Plan}
use Rattle.mx_segments.specs.Entries.{entry_word, read_map, IsChain}
use Rattle.mx_segments.specs.Plan.{IsLaid, kept, total}
use Rattle.mx_segments.proofs.EntryLaws.{read_map_is}

-- words that are the entries of a map mean that map
pub means : (words frames : ℕ) (stored : ℕ → ℕ) (m : List Perm) → IsChain words frames stored m → read_map words frames stored ≡ m
means words frames stored m chain = read_map_is words frames stored m chain

pub means_itself : (words frames : ℕ) (stored : ℕ → ℕ) (m : List Perm) → IsChain words frames stored m
    → IsChain words frames stored (read_map words frames stored)
means_itself words frames stored m chain =
    let C : List Perm → Type 0 = λ x. IsChain words frames stored x in
    subst C (sym (means words frames stored m chain)) chain

-- the words before, with room, with the moved entries, with the first entry, with the second, with zeros after, and trimmed
module _ (w0 w1 w2 w3 w4 w5 w6 : ℕ → ℕ) (f0 f1 f6 : ℕ) (first count : ℕ) (perm : Perm) (plan : Plan)
    (b1 : plan.before ≤ plan.behind) (b2 : plan.behind ≤ plan.all)
    (held : plan.all ≤ 64 * f0) (enough : total plan ≤ 64 * f1) (more : f0 ≤ f1) (frames_are : f6 ≡ (total plan + 63) / 64)
    (rest0 : (k : ℕ) → plan.all ≤ k → k < 64 * f0 → w0 k ≡ 0)
    (room_words : (j : ℕ) → j < 64 * f0 → w1 j ≡ w0 j)
    (room_zeros : (j : ℕ) → 64 * f0 ≤ j → j < 64 * f1 → w1 j ≡ 0)
    (shift_moved : (k : ℕ) → plan.behind ≤ k → k < plan.all → w2 (k + kept plan - plan.behind) ≡ w1 k)
    (shift_same : (k : ℕ) → k < plan.before → w2 k ≡ w1 k)
    (shift_rest : (k : ℕ) → plan.all ≤ k → total plan ≤ k → k < 64 * f1 → w2 k ≡ w1 k)
    (starts_here : plan.starts ≡ true → w3 plan.before ≡ entry_word first perm)
    (starts_elsewhere : (j : ℕ) → (plan.starts ≡ true → j ≢ plan.before) → j < 64 * f1 → w3 j ≡ w2 j)
    (at : ℕ) (at_is : at ≡ plan.before + bit plan.starts)
    (ends_here : plan.ends ≡ true → w4 at ≡ entry_word (first + count) plan.next)
    (ends_elsewhere : (j : ℕ) → (plan.ends ≡ true → j ≢ at) → j < 64 * f1 → w4 j ≡ w3 j)
    (t : ℕ) (t_is : t ≡ total plan)
    (clear_zeros : (j : ℕ) → t ≤ j → j < plan.all → w5 j ≡ 0)
    (clear_below : (j : ℕ) → j < t → j < 64 * f1 → w5 j ≡ w4 j)
    (clear_behind : (j : ℕ) → plan.all ≤ j → j < 64 * f1 → w5 j ≡ w4 j)
    (trim_words : (j : ℕ) → j < 64 * f6 → w6 j ≡ w5 j) where
  one_if : (b : Bool) → b ≡ true → bit b ≡ 1
  one_if b e = ap bit e

  held_at_end : (j : ℕ) → j < total plan → w6 j ≡ w4 j
  held_at_end j lt =
      trim_words j (omega (arith, frames_are)) ∙ clear_below j (omega (arith, t_is)) (omega arith)

  kept-le : kept plan ≤ total plan
  kept-le = omega arith

  same : (k : ℕ) → k < plan.before → w6 k ≡ w0 k
  same k lt =
      held_at_end k (omega (arith, kept-le))
      ∙ ends_elsewhere k (λ e. omega (arith, at_is)) (omega (arith, kept-le))
      ∙ starts_elsewhere k (λ e. omega arith) (omega (arith, kept-le))
      ∙ shift_same k lt ∙ room_words k (omega arith)

  begins : plan.starts ≡ true → w6 plan.before ≡ entry_word first perm
  begins e =
      let one = one_if plan.starts e in
      held_at_end plan.before (omega (arith, one, kept-le))
      ∙ ends_elsewhere plan.before (λ _. omega (arith, at_is, one)) (omega (arith, one, kept-le))
      ∙ starts_here e

  ends : plan.ends ≡ true → w6 (plan.before + bit plan.starts) ≡ entry_word (first + count) plan.next
  ends e =
      let one = one_if plan.ends e in
      held_at_end (plan.before + bit plan.starts) (omega (arith, one, kept-le)) ∙ ap w4 (sym at_is) ∙ ends_here e

  moved : (k : ℕ) → plan.behind ≤ k → k < plan.all → w6 (k + kept plan - plan.behind) ≡ w0 k
  moved k from lt =
      let place : k + kept plan - plan.behind < total plan = omega arith in
      let least : kept plan ≤ k + kept plan - plan.behind = omega arith in
      held_at_end (k + kept plan - plan.behind) place
      ∙ ends_elsewhere (k + kept plan - plan.behind) (λ e. let one = one_if plan.ends e in omega (arith, at_is, one, least)) (omega arith)
      ∙ starts_elsewhere (k + kept plan - plan.behind) (λ e. let one = one_if plan.starts e in omega (arith, one, least)) (omega arith)
      ∙ shift_moved k from lt ∙ room_words k (omega arith)

  behind_all : (k : ℕ) → total plan ≤ k → plan.all ≤ k → k < 64 * f1 → w5 k ≡ w1 k
  behind_all k from from' lt =
      clear_behind k from' lt
      ∙ ends_elsewhere k (λ e. let one = one_if plan.ends e in omega (arith, at_is, one, kept-le)) lt
      ∙ starts_elsewhere k (λ e. let one = one_if plan.starts e in omega (arith, one, kept-le)) lt
      ∙ shift_rest k from' from lt

  rest : (k : ℕ) → total plan ≤ k → k < 64 * f6 → w6 k ≡ 0
  rest k from lt =
      let within : k < 64 * f1 = omega (arith, frames_are) in
      trim_words k lt ∙ elim (cases_lt k plan.all) [
        | inl h ↦ clear_zeros k (omega (arith, t_is)) h
        | inr h ↦ (behind_all k from h within ∙ elim (cases_lt k (64 * f0)) [
          | inl o ↦ (room_words k o ∙ rest0 k h o)
          | inr z ↦ room_zeros k z within
        ])
      ]

  pub laid_steps : IsLaid w0 f6 w6 first count perm plan
  laid_steps = record {
    frames_are = frames_are;
    same = same;
    begins = begins;
    ends = ends;
    moved = moved;
    rest = rest;
  }

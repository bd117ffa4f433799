-- The harts of the state, one by one, and with one of them changed.
use Rattle.std.proofs.Common.{◌≡◌, ◌≢◌, ℕ, zero, suc, ◌+◌, ◌≤◌, List, [], ◌∷◌, length, get_or, set, refl, sym, ap, ◌∙◌, arith, zero-add}
use Rattle.std.proofs.Common.{Option}
use Rattle.mx_check.specs.declared.flight.Flight.{Flight}
use Rattle.mx_check.specs.Harts.{Kept, kept_at}
use Rattle.mx_model.specs.State.{Hart as Seen}
use Rattle.mx_model.specs.State.{no_hart as nobody_seen}
use Rattle.mx_machine.specs.declared.hart.Hart.{Hart}
use Rattle.mx_machine.specs.Harts.{no_held_hart, hart_among, own_call, seen, seen_with, seen_from, status_by}
use Rattle.mx_machine.specs.Held.{Held}
use Rattle.mx_machine.specs.Made.{hart_in}

pub length-seen : (h : ℕ) (xs : List Hart) (kept : List Kept) → length (seen_from h xs kept) ≡ length xs
length-seen h [] kept = refl
length-seen h (x ∷ xs) kept = ap suc (length-seen (h + 1) xs kept)

seen-at : (n i : ℕ) (xs : List Hart) (kept : List Kept) → get_or (seen_from n xs kept) i nobody_seen
    ≡ seen (n + i) (get_or xs i no_held_hart) (kept_at kept (n + i))
seen-at n i [] kept = refl
seen-at n zero (x ∷ xs) kept = let e : n ≡ n + 0 = omega arith in ap (λ k. seen k x (kept_at kept k)) e
seen-at n (suc i) (x ∷ xs) kept = let e : (n + 1) + i ≡ n + suc i = omega arith in
    seen-at (n + 1) i xs kept ∙ ap (λ k. seen k (get_or xs i no_held_hart) (kept_at kept k)) e

-- hart h of the state
pub hart-seen : (xs : List Hart) (kept : List Kept) (h : ℕ) → get_or (seen_from 0 xs kept) h nobody_seen
    ≡ seen h (hart_among xs h) (kept_at kept h)
hart-seen xs kept h = seen-at 0 h xs kept ∙ ap (λ k. seen k (get_or xs h no_held_hart) (kept_at kept k)) (zero-add h)

pub hart-in : (m : Held) (h : ℕ) → hart_in m h ≡ seen h (hart_among m.harts h) (kept_at m.parts.harts h)
hart-in m h = hart-seen m.harts m.parts.harts h

-- of what the checker keeps of a hart, its call in flight alone is seen
seen-alike : (h : ℕ) (x : Hart) (k l : Kept) → k.flight ≡ l.flight → seen h x k ≡ seen h x l
seen-alike h x k l e = ap (λ (f : Option Flight). seen_with (status_by (own_call h x) f x.progress) x) e

pub seen-same : (n : ℕ) (xs : List Hart) (kept other : List Kept) → ((i : ℕ) → n ≤ i → (kept_at kept i).flight ≡ (kept_at other i).flight) →
    seen_from n xs kept ≡ seen_from n xs other
seen-same n [] kept other e = refl
seen-same n (x ∷ xs) kept other e =
    ap (λ (y : Seen). y ∷ seen_from (n + 1) xs kept) (seen-alike n x (kept_at kept n) (kept_at other n) (e n (omega arith)))
    ∙ ap (λ (ys : List Seen). seen n x (kept_at other n) ∷ ys) (seen-same (n + 1) xs kept other (λ i l. e i (omega arith)))

seen-set : (n i : ℕ) (xs : List Hart) (x : Hart) (kept other : List Kept)
    → ((j : ℕ) → j ≢ n + i → (kept_at kept j).flight ≡ (kept_at other j).flight) →
    seen_from n (set xs i x) kept ≡ set (seen_from n xs other) i (seen (n + i) x (kept_at kept (n + i)))
seen-set n i [] x kept other e = refl
seen-set n zero (y ∷ ys) x kept other e =
    let k : n ≡ n + 0 = omega arith in
    ap (λ (z : Seen). z ∷ seen_from (n + 1) ys kept) (ap (λ j. seen j x (kept_at kept j)) k)
    ∙ ap (λ (zs : List Seen). seen (n + 0) x (kept_at kept (n + 0)) ∷ zs)
    (seen-same (n + 1) ys kept other (λ j l. e j (λ q. absurd (omega arith))))
seen-set n (suc i) (y ∷ ys) x kept other e =
    let k : (n + 1) + i ≡ n + suc i = omega arith in
    ap (λ (z : Seen). z ∷ seen_from (n + 1) (set ys i x) kept)
    (seen-alike n y (kept_at kept n) (kept_at other n) (e n (λ q. absurd (omega arith))))
    ∙ ap (λ (zs : List Seen). seen n y (kept_at other n) ∷ zs)
    (seen-set (n + 1) i ys x kept other (λ j q. e j (λ p. q (p ∙ sym k)))
    ∙ ap (λ j. set (seen_from (n + 1) ys other) i (seen j x (kept_at kept j))) k)

-- another hart h, where the other harts' calls in flight stay
pub harts-set : (xs : List Hart) (h : ℕ) (x : Hart) (kept other : List Kept)
    → ((j : ℕ) → j ≢ h → (kept_at kept j).flight ≡ (kept_at other j).flight) →
    seen_from 0 (set xs h x) kept ≡ set (seen_from 0 xs other) h (seen h x (kept_at kept h))
harts-set xs h x kept other e =
    seen-set 0 h xs x kept other (λ j q. e j (λ p. q (p ∙ sym (zero-add h))))
    ∙ ap (λ j. set (seen_from 0 xs other) h (seen j x (kept_at kept j))) (zero-add h)

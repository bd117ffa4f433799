-- What a snapshot stores of a valid flat state, of a plan in its ranges, is a valid snapshot.
use Rattle.std.proofs.Common.{◌≡◌, ℕ, zero, suc, ◌+◌, ◌*◌, ◌%◌, ◌^◌, ◌<◌, ◌≤◌, ◌==◌, Bool, true, false, cond, not, nat_lt, nat_le, ◌&&◌}
use Rattle.std.proofs.Common.{if◌then◌else◌, List, [], ◌∷◌, ◌++◌, length, get_or, take, Option, None, refl, sym, ap, ◌∙◌, subst, arith}
use Rattle.std.proofs.Common.{append_assoc, length-append, length-take-le}
use Rattle.std.specs.List.{AllByRecursion}
use Rattle.std.specs.Option.{option_map_or}
use Rattle.std.proofs.lemmas.Bool.{and_from, eq-eqb, eqb-true, false_from_ne_true, le-leb, lt-ltb, not_from_false}
use Rattle.std.proofs.lemmas.List.{append-nil, get_or_default, nil_from_length}
use Rattle.std.proofs.lemmas.List.Elements.{All-from_get_or, recursion_from_All}
use Rattle.std.proofs.lemmas.List.FromFn.{get_or-map-range_with_len}
use Rattle.std.proofs.lemmas.Nat.{pow_pos}
use Rattle.std.proofs.Math.Nat.{pow-suc}
use Rattle.mx_words.specs.Announced.{is_announced}
use Rattle.mx_words.specs.Counting.{bit}
use Rattle.mx_words.specs.FirstFit.{AreApart, Area}
use Rattle.mx_words.specs.Hearing.{is_in, most_harts}
use Rattle.mx_words.specs.Runs.{Run, run_before, runs_of}
use Rattle.mx_words.proofs.AreaLaws.{apart_ordered}
use Rattle.mx_words.proofs.CountingLaws.{bit-le}
use Rattle.mx_words.proofs.MaximalRuns.{AreMaximal}
use Rattle.mx_model.specs.declared.values.Frame.{Frame}
use Rattle.mx_model.specs.State.{Hart, Status}
use Rattle.mx_model.specs.Valid.{IsFrame, IsHart, IsStatus}
use Rattle.mx_model.proofs.JoinLaws.{all-weaker}
use Rattle.mx_machine.specs.declared.views.HartStatus.{HartStatus}
use Rattle.mx_machine.specs.Readings.{status_told}
use Rattle.mx_snapshot.proofs.ValidAgain.{four-bits}
use Rattle.mx_snapshot.proofs.ValidLists.{behind-push, last-push}
use Rattle.mx_snapshot.proofs.ValidRuns.{run_words-cons, run_words-more}
use Rattle.mx_snapshot.specs.Fits.{EachFits, IsStoredFrame, IsStoredHart}
use Rattle.mx_snapshot.specs.Rules.{behind, has_bit, has_place, is_heard, is_next_block, is_other, is_register, is_waiting, run_words}
use Rattle.mx_snapshot.specs.Stored.{Head, StoredHart, bits_of, heard_of, stored_hart}

-- what holds at each place by what stands before it
pub each-from : {A : Type 0} (fits : List A → A → Type 0) (xs before : List A)
    → ((i : ℕ) (d : A) → i < length xs → fits (before ++ take i xs) (get_or xs i d)) → EachFits fits before xs
each-from fits [] before each = tt
each-from {A} fits (x ∷ xs) before each = (
  subst (λ (ys : List A). fits ys x) (append-nil before) (each 0 x (omega arith)),
  each-from fits xs (before ++ x ∷ []) (λ i d lt. subst (λ (ys : List A). fits ys (get_or xs i d))
      (sym (append_assoc before (x ∷ []) (take i xs))) (each (suc i) d (omega (arith, lt)))),
)

three_from : (x y z : Bool) → x ≡ true → y ≡ true → z ≡ true → (x && y && z) ≡ true
three_from x y z a b c = grind arith

-- blocks that lie apart in their area
pub blocks-from : (heap : Area) (bs before : List Area) → AreApart (behind heap before) (heap.first + heap.count) bs
    → EachFits (λ others b. is_next_block heap others b ≡ true) before bs
blocks-from heap [] before apart = tt
blocks-from heap (b ∷ bs) before apart =
    let end = heap.first + heap.count in (
      three_from (nat_lt 0 b.count) (nat_le (behind heap before) b.first) (nat_le (b.first + b.count) end)
          (lt-ltb 0 b.count apart.1) (le-leb (behind heap before) b.first apart.0)
          (le-leb (b.first + b.count) end (apart_ordered (b.first + b.count) end bs apart.2)),
      blocks-from heap bs (before ++ b ∷ []) (subst (λ low. AreApart low end bs) (sym (behind-push heap before b)) apart.2),
    )

-- maximal runs
abbrev pub Other : {A : Type 0} → (A → A → Bool) → List (Run A) → List (Run A) → Type 0
Other eq before [] = Unit {0}
Other eq before (x ∷ xs) = is_other eq before x.value ≡ true

abbrev pub FitsAsRun : {A : Type 0} → (A → A → Bool) → ℕ → ℕ → List (Run A) → Run A → Type 0
FitsAsRun eq words runs before r = (has_place words runs before r.count ≡ true) × (is_other eq before r.value ≡ true)

place-from : (end words : ℕ) (some b : Bool) → some ≡ true → (b ≡ true → end ≡ words) → end ≤ words
    → (some && (if b then end == words else nat_le end words)) ≡ true
place-from end words some x is last le = grind (arith, and_from, eq-eqb, le-leb)

other-next : {A : Type 0} (eq : A → A → Bool) (before : List (Run A)) (x : Run A) (xs : List (Run A)) → AreMaximal eq (x ∷ xs)
    → Other eq (before ++ x ∷ []) xs
other-next eq before x [] p = tt
other-next {A} eq before x (y ∷ ys) p =
    ap (λ (o : Option (Run A)). option_map_or (λ (r : Run A). not (eq r.value y.value)) o true) (last-push None before x)
    ∙ not_from_false (eq x.value y.value) p.0

maximal-rest : {A : Type 0} (eq : A → A → Bool) (r : Run A) (rs : List (Run A)) → AreMaximal eq (r ∷ rs) → AreMaximal eq rs
maximal-rest eq r [] p = tt
maximal-rest eq r (q ∷ rs) p = p.1

no-words : {A : Type 0} (xs : List (Run A)) → length xs ≡ 0 → run_words xs ≡ 0
no-words xs e = ap run_words (nil_from_length xs e)

pub runs-from : {A : Type 0} (eq : A → A → Bool) (words runs : ℕ) (xs before : List (Run A))
    → AllByRecursion (λ (r : Run A). 0 < r.count) xs → AreMaximal eq xs → Other eq before xs
    → run_words before + run_words xs ≡ words → length before + length xs ≡ runs → EachFits (FitsAsRun eq words runs) before xs
runs-from eq words runs [] before some maximal other total count = tt
runs-from eq words runs (x ∷ xs) before some maximal other total count =
    let all = run_words-cons x xs in
    let more = run_words-more before x in
    let long = length-append before (x ∷ []) in
    let last : (length before + 1 == runs) ≡ true → run_words before + x.count ≡ words =
    λ e.
    let here = eqb-true (length before + 1) runs e in
    let none = no-words xs (omega (arith, here, count)) in
    omega (arith, none, all, total) in (
      (
        place-from (run_words before + x.count) words (nat_lt 0 x.count) (length before + 1 == runs) (lt-ltb 0 x.count some.0) last
            (omega (arith, all, total)),
        other,
      ),
      runs-from eq words runs xs (before ++ x ∷ []) some.1 (maximal-rest eq x xs maximal) (other-next eq before x xs maximal)
          (omega (arith, all, more, total)) (omega (arith, long, count)),
    )

-- the values of maximal runs are values of the list
value-before : {A : Type 0} (eq : A → A → Bool) (P : A → Type 0) (x : A) (rs : List (Run A)) → P x
    → AllByRecursion (λ (r : Run A). P r.value) rs → AllByRecursion (λ (r : Run A). P r.value) (run_before eq x rs)
value-before eq P x [] p all = (p, tt)
value-before {A} eq P x (r ∷ rs) p all = elim (eq x r.value) as
    (λ b. AllByRecursion (λ (q : Run A). P q.value) (cond b (record { count = r.count + 1; value = x } ∷ rs)
    (record { count = 1; value = x } ∷ r ∷ rs))) [
      | true ↦ (p, all.1)
      | false ↦ (p, all)
    ]

pub values-in : {A : Type 0} (eq : A → A → Bool) (P : A → Type 0) (xs : List A) → AllByRecursion P xs
    → AllByRecursion (λ (r : Run A). P r.value) (runs_of eq xs)
values-in eq P [] all = tt
values-in eq P (x ∷ xs) all = value-before eq P x (runs_of eq xs) all.0 (values-in eq P xs all.1)

-- who has heard a call
bits-small : (heard : List Bool) (harts : ℕ) → ((i : ℕ) → is_in heard i ≡ true → i < harts) → bits_of heard < 2 ^ harts
bits-small [] harts others = pow_pos harts
bits-small (b ∷ bs) zero others =
    let rest = bits-small bs zero (λ i e. let lt = others (suc i) e in absurd (let q : ⊥ = omega (arith, lt) in q)) in
    none b (others 0) rest
  where
    none : (b : Bool) → (b ≡ true → 0 < 0) → bits_of bs < 2 ^ 0 → bit b + 2 * bits_of bs < 2 ^ 0
    none true first rest = let lt = first refl in absurd (let q : ⊥ = omega (arith, lt) in q)
    none false first rest = omega (arith, rest)
bits-small (b ∷ bs) (suc harts) others =
    let rest = bits-small bs harts (λ i e. let lt = others (suc i) e in omega (arith, lt)) in
    let one = bit-le b in
    let twice = pow-suc 2 harts in
    omega (arith, rest, one, twice)

own-bit : (heard : List Bool) (n : ℕ) → length heard ≡ 4 → n < 4 → has_bit (bits_of heard) n ≡ is_in heard n
own-bit heard n places lt =
    sym (get_or-map-range_with_len (has_bit (bits_of heard)) 0 most_harts n n false lt (omega arith))
    ∙ ap (λ (bs : List Bool). get_or bs n false) (four-bits heard places)

heard-fits : (harts n : ℕ) (hart : Hart) (status : Status) → n < 4 → IsStatus harts n hart status
    → is_heard harts n (status_told status) (heard_of status) ≡ true
heard-fits harts n hart x lt is =
    grind (arith, bits-small, false_from_ne_true, and_from, lt-ltb, not_from_false, own-bit)

-- a register
register-rule : (status : HartStatus) (r value : ℕ) → (r ≡ 0 → value ≡ 0) → (r ≡ 17 → is_waiting status ≡ true → is_announced value ≡ true)
    → is_register status r value ≡ true
register-rule status r value first number = search (arith, eq-eqb, eqb-true)

call-number : (harts n : ℕ) (hart : Hart) (status : Status) → IsStatus harts n hart status → is_waiting (status_told status) ≡ true
    → is_announced (get_or hart.regs 17 0) ≡ true
call-number harts n hart x is e = grind arith

all-small : (ns : List ℕ) (most : ℕ) → ((i : ℕ) → get_or ns i 0 < most) → AllByRecursion (λ (n : ℕ). n < most) ns
all-small ns most each = recursion_from_All (λ (n : ℕ). n < most) ns (All-from_get_or (λ (n : ℕ). n < most) ns 0 (λ i lt. each i))

frame-stored : (h : Head) (f : Frame) → IsFrame h.modules f → IsStoredFrame h f
frame-stored h f is = search (arith, eq-eqb, f.back, all-small, f.kept)

pub hart-stored : (h : Head) (n : ℕ) (x : Hart) (others : List StoredHart) → length others ≡ n → n < 4 → IsHart h.modules h.harts n x
    → IsStoredHart h others (stored_hart x)
hart-stored h n x others count lt is =
    let status = status_told x.status in
    record {
      domain = (is.domain.first, is.domain.last);
      pc = eq-eqb (x.pc % 4) 0 is.pc.aligned;
      small = is.pc.small;
      count = is.regs.count;
      words = all-small x.regs (2 ^ 32) is.regs.small;
      regs = each-from (λ before value. is_register status (length before) value ≡ true) x.regs []
          (λ i d within.
          let at : length (take i x.regs) ≡ i = length-take-le i x.regs (omega (arith, within)) in
          let value : get_or x.regs i d ≡ get_or x.regs i 0 = get_or_default x.regs i d 0 within in
          subst (λ (k : ℕ). is_register status k (get_or x.regs i d) ≡ true) (sym at)
          (register-rule status i (get_or x.regs i d)
          (λ e. value ∙ ap (λ (k : ℕ). get_or x.regs k 0) e ∙ is.regs.x0)
          (λ e waits. ap is_announced (value ∙ ap (λ (k : ℕ). get_or x.regs k 0) e) ∙ call-number h.harts n x x.status is.status waits)));
      few_frames = is.few_frames;
      frames = all-weaker (IsFrame h.modules) (IsStoredFrame h) x.frames (λ f fits. frame-stored h f fits) is.frames;
      heard = subst (λ (k : ℕ). is_heard h.harts k status (heard_of x.status) ≡ true) (sym count)
          (heard-fits h.harts n x x.status lt is.status);
    }

-- Lists of which each item fits by those before it: what holds of each item, and of runs, blocks and gates in such a list.
use Rattle.std.proofs.Common.{◌≡◌, ℕ, zero, suc, ◌+◌, ◌<◌, ◌≤◌, ◌==◌, Bool, true, false, not, nat_lt, nat_le, ◌&&◌, if◌then◌else◌, List, []}
use Rattle.std.proofs.Common.{◌∷◌, ◌++◌, length, get_or, replicate, Option, Some, None, refl, sym, ap, ◌∙◌, subst, arith, length-append}
use Rattle.std.proofs.Common.{append_assoc}
use Rattle.std.specs.List.{AllByRecursion, last_or}
use Rattle.std.specs.Option.{option_map_or}
use Rattle.std.proofs.lemmas.Bool.{and_parts, eq-eqb, eqb-true, leb-true, ltb-true, not-true, or_cases}
use Rattle.std.proofs.lemmas.List.{append-nil}
use Rattle.mx_words.specs.FirstFit.{AreApart, Area}
use Rattle.mx_words.specs.Runs.{Run}
use Rattle.mx_words.proofs.MaximalRuns.{AreMaximal, covered}
use Rattle.mx_model.specs.declared.values.Gate.{Gate}
use Rattle.mx_model.specs.Gates.{AreSingle, has_gate, is_at}
use Rattle.mx_model.proofs.ApartLaws.{at-flipped, single-append}
use Rattle.mx_model.proofs.JoinLaws.{all-join, all-weaker}
use Rattle.mx_model.proofs.EachLaws.{any_none}
use Rattle.mx_snapshot.proofs.ValidRuns.{run_words-cons, run_words-more}
use Rattle.mx_snapshot.specs.Fits.{EachFits}
use Rattle.mx_snapshot.specs.Rules.{behind, has_place, is_area, is_next_block, is_other, run_words}

pub three_parts : (x y z : Bool) → (x && y && z) ≡ true → (x ≡ true) × (y ≡ true) × (z ≡ true)
three_parts x y z e = grind arith

-- what holds of each item, whatever stands before it
pub each_holds : {A : Type 0} (fits : List A → A → Type 0) (P : A → Type 0) → ((before : List A) (x : A) → fits before x → P x)
    → (xs before : List A) → EachFits fits before xs → AllByRecursion P xs
each_holds fits P turn [] before f = tt
each_holds fits P turn (x ∷ xs) before f = (turn before x f.0, each_holds fits P turn xs (before ++ x ∷ []) f.1)

pub each_turned : {A : Type 0} (fits other : List A → A → Type 0) → ((before : List A) (x : A) → fits before x → other before x)
    → (xs before : List A) → EachFits fits before xs → EachFits other before xs
each_turned fits other turn [] before f = tt
each_turned fits other turn (x ∷ xs) before f = (turn before x f.0, each_turned fits other turn xs (before ++ x ∷ []) f.1)

-- the item at a place, by as many before it
pub each_at : {A : Type 0} (fits : List A → A → Type 0) (xs before : List A) → EachFits fits before xs → (i : ℕ) (d : A) → i < length xs
    → (others : List A) × (length others ≡ length before + i) × fits others (get_or xs i d)
each_at fits [] before f i d lt = absurd (let q : ⊥ = omega (arith, lt) in q)
each_at fits (x ∷ xs) before f zero d lt = (before, omega arith, f.0)
each_at fits (x ∷ xs) before f (suc i) d lt =
    let r = each_at fits xs (before ++ x ∷ []) f.1 i d (omega (arith, lt)) in
    let long = length-append before (x ∷ []) in
    let count = r.1 in
    (r.0, omega (arith, count, long), r.2)

-- the last item of a list
pub last-push : {A : Type 0} (o : Option A) (xs : List A) (x : A) → last_or o (xs ++ x ∷ []) ≡ Some x
last-push o [] x = refl
last-push o (y ∷ ys) x = last-push (Some y) ys x

-- blocks of which each lies behind the block before it lie apart
pub behind-push : (heap : Area) (before : List Area) (b : Area) → behind heap (before ++ b ∷ []) ≡ b.first + b.count
behind-push heap before b = ap (λ (o : Option Area). option_map_or (λ (x : Area). x.first + x.count) o heap.first) (last-push None before b)

apart-from : (heap : Area) (bs before : List Area) → behind heap before ≤ heap.first + heap.count
    → EachFits (λ others b. is_next_block heap others b ≡ true) before bs
    → AreApart (behind heap before) (heap.first + heap.count) bs
apart-from heap [] before le f = le
apart-from heap (b ∷ bs) before le f =
    let t = three_parts (nat_lt 0 b.count) (nat_le (behind heap before) b.first) (nat_le (b.first + b.count) (heap.first + heap.count)) f.0
    in
    let push = behind-push heap before b in
    let inside : b.first + b.count ≤ heap.first + heap.count = leb-true (b.first + b.count) (heap.first + heap.count) t.2 in
    let rest = apart-from heap bs (before ++ b ∷ []) (omega (arith, push, inside)) f.1 in
    (leb-true (behind heap before) b.first t.1, ltb-true 0 b.count t.0, subst (λ low. AreApart low (heap.first + heap.count) bs) push rest)

pub blocks-apart : (heap : Area) (bs : List Area) → EachFits (λ others b. is_next_block heap others b ≡ true) [] bs
    → AreApart heap.first (heap.first + heap.count) bs
blocks-apart heap bs f = apart-from heap bs [] (let le : heap.first ≤ heap.first + heap.count = omega arith in le) f

-- an area of no words is at word 0
pub area-none : (words first count : ℕ) → is_area words first count ≡ true → count ≡ 0 → first ≡ 0
area-none words first count e none = search (arith, ltb-true, eqb-true, or_cases, and_parts)

-- runs, so many in all, of which the last ends with the words
place-last : (words : ℕ) (end : ℕ) (some b : Bool) → b ≡ true → (some && (if b then end == words else nat_le end words)) ≡ true
    → end ≡ words
place-last words end some x last e = grind (arith, eqb-true, and_parts)

words-from : {A : Type 0} (words runs : ℕ) (fits : List (Run A) → Run A → Type 0)
    → ((before : List (Run A)) (r : Run A) → fits before r → has_place words runs before r.count ≡ true)
    → (xs before : List (Run A)) → 1 ≤ length xs → length before + length xs ≡ runs → EachFits fits before xs
    → run_words before + run_words xs ≡ words
words-from words runs fits turn [] before some count f = absurd (let q : ⊥ = omega (arith, some) in q)
words-from words runs fits turn (x ∷ []) before some count f =
    let one = run_words-cons x [] in
    let ends : run_words before + x.count ≡ words = place-last words (run_words before + x.count) (nat_lt 0 x.count)
    (length before + 1 == runs) (eq-eqb (length before + 1) runs (omega (arith, count))) (turn before x f.0) in
    omega (arith, one, ends)
words-from words runs fits turn (x ∷ y ∷ ys) before some count f =
    let long = length-append before (x ∷ []) in
    let more = run_words-more before x in
    let all = run_words-cons x (y ∷ ys) in
    let rest = words-from words runs fits turn (y ∷ ys) (before ++ x ∷ []) (omega arith) (omega (arith, long, count)) f.1 in
    omega (arith, more, all, rest)

pub words-covered : {A : Type 0} (words : ℕ) (fits : List (Run A) → Run A → Type 0) (xs : List (Run A))
    → ((before : List (Run A)) (r : Run A) → fits before r → has_place words (length xs) before r.count ≡ true)
    → 1 ≤ length xs → EachFits fits [] xs → run_words xs ≡ words
words-covered words fits xs turn some f = let e = words-from words (length xs) fits turn xs [] some (omega arith) f in omega (arith, e)

-- neighbouring runs differ
other-last : {A : Type 0} (eq : A → A → Bool) (before : List (Run A)) (x y : Run A) → is_other eq (before ++ x ∷ []) y.value ≡ true
    → eq x.value y.value ≡ false
other-last {A} eq before x y e =
    let at : is_other eq (before ++ x ∷ []) y.value ≡ not (eq x.value y.value) =
    ap (λ (o : Option (Run A)). option_map_or (λ (r : Run A). not (eq r.value y.value)) o true) (last-push None before x) in
    not-true (eq x.value y.value) (sym at ∙ e)

pub maximal-from : {A : Type 0} (eq : A → A → Bool) (xs before : List (Run A))
    → EachFits (λ others (r : Run A). is_other eq others r.value ≡ true) before xs → AreMaximal eq xs
maximal-from eq [] before f = tt
maximal-from eq (x ∷ []) before f = tt
maximal-from eq (x ∷ y ∷ ys) before f = (other-last eq before x y f.1.0, maximal-from eq (y ∷ ys) (before ++ x ∷ []) f.1)

-- of each value that runs cover holds what holds of each run's value
all-replicate : {A : Type 0} (P : A → Type 0) (n : ℕ) (x : A) → P x → AllByRecursion P (replicate n x)
all-replicate P zero x p = tt
all-replicate P (suc n) x p = (p, all-replicate P n x p)

pub all-covered : {A : Type 0} (P : A → Type 0) (rs : List (Run A)) → AllByRecursion (λ (r : Run A). P r.value) rs
    → AllByRecursion P (covered rs)
all-covered P [] all = tt
all-covered P (r ∷ rs) all = all-join P (replicate r.count r.value) (covered rs) (all-replicate P r.count r.value all.0)
    (all-covered P rs all.1)

-- gates of which none stands where one before it does
single-from : (gs before : List Gate) → AreSingle before → EachFits (λ others (g : Gate). has_gate others g.domain g.word ≡ false) before gs
    → AreSingle (before ++ gs)
single-from [] before single f = subst AreSingle (sym (append-nil before)) single
single-from (g ∷ gs) before single f =
    let others = any_none (is_at g.domain g.word) before f.0 in
    let flipped = all-weaker (λ h. is_at g.domain g.word h ≡ false) (λ h. is_at h.domain h.word g ≡ false) before (λ h e. at-flipped g h e)
    others in
    subst AreSingle (append_assoc before (g ∷ []) gs) (single-from gs (before ++ g ∷ []) (single-append g before flipped single) f.1)

pub gates-single : (gs : List Gate) → EachFits (λ others (g : Gate). has_gate others g.domain g.word ≡ false) [] gs → AreSingle gs
gates-single gs f = single-from gs [] (λ i j d lt below. absurd (let q : ⊥ = omega (arith, below) in q)) f

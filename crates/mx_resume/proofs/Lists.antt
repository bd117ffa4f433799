-- Lists of items that are read one after another: what is left of one is read as the whole.
use Rattle.std.proofs.Common.{◌≡◌, ℕ, suc, ◌+◌, ◌-◌, ◌<◌, ◌≤◌, List, [], ◌∷◌, ◌++◌, length, take, set, sym, ap, ◌∙◌, subst, arith}
use Rattle.std.proofs.lemmas.List.{take_more_set}
use Rattle.mx_snapshot.specs.Reader.{Taken, Took, Reader, goes_on, list_of}
use Rattle.mx_resume.specs.declared.refused.SnapshotRefused.{SnapshotRefused}
use Rattle.mx_resume.specs.Taking.{Misses}
use Rattle.mx_resume.proofs.Chains.{misses_first}

-- with n - i items left, behind those before, the list is read as from its start
pub record Left {A : Type 0} (item : List A → Reader A) (bytes : List ℕ) (n start i : ℕ) (before : List A) (at : ℕ) : Type 0 where
  pub same : list_of (n - i) item before bytes at ≡ list_of n item [] bytes start

pub left_all : {A : Type 0} (item : List A → Reader A) (bytes : List ℕ) (n start : ℕ) → Left item bytes n start 0 [] start
left_all item bytes n start = let all : n - 0 ≡ n = omega arith in record { same = ap (λ (k : ℕ). list_of k item [] bytes start) all }

-- one item more is left
one_more : (n i : ℕ) → i < n → n - i ≡ suc (n - (i + 1))
one_more n i lt = omega (arith, lt)

pub left_here : {A : Type 0} (item : List A → Reader A) (bytes : List ℕ) (n start i : ℕ) (before : List A) (at : ℕ) → i < n
    → Left item bytes n start i before at →
    goes_on (λ a. list_of (n - (i + 1)) item (before ++ a ∷ [])) bytes (item before bytes at) ≡ list_of n item [] bytes start
left_here item bytes n start i before at lt l = sym (ap (λ (k : ℕ). list_of k item before bytes at) (one_more n i lt)) ∙ l.same

pub left_next : {A : Type 0} {item : List A → Reader A} {bytes : List ℕ} {n start i : ℕ} {before : List A} {at now : ℕ} {a : A} → i < n
    → Left item bytes n start i before at → item before bytes at ≡ Took a now →
    Left item bytes n start (i + 1) (before ++ a ∷ []) now
left_next {item = item} {bytes = bytes} {n = n} {start = start} {i = i} {before = before} {at = at} lt l e = record {
  same = sym (ap (goes_on (λ a. list_of (n - (i + 1)) item (before ++ a ∷ [])) bytes) e) ∙ left_here item bytes n start i before at lt l;
}

pub left_misses : {A : Type 0} {item : List A → Reader A} {bytes : List ℕ} {n start i : ℕ} {before : List A} {at : ℕ}
    (refused : SnapshotRefused) → i < n → Left item bytes n start i before at → Misses (item before bytes at) refused →
    Misses (list_of n item [] bytes start) refused
left_misses {item = item} {bytes = bytes} {n = n} {start = start} {i = i} {before = before} {at = at} refused lt l m =
    subst (λ (t : Taken _). Misses t refused) (left_here item bytes n start i before at lt l)
    (misses_first (λ a. list_of (n - (i + 1)) item (before ++ a ∷ [])) bytes (item before bytes at) refused m)

pub left_none : {A : Type 0} {item : List A → Reader A} {bytes : List ℕ} {n start i : ℕ} {before : List A} {at : ℕ} → n ≤ i
    → Left item bytes n start i before at → list_of n item [] bytes start ≡ Took before at
left_none {item = item} {bytes = bytes} {n = n} {i = i} {before = before} {at = at} le l =
    let none : n - i ≡ 0 = omega (arith, le) in
    sym l.same ∙ ap (λ (k : ℕ). list_of k item before bytes at) none

-- items that are put into an array
pub left_set : {A : Type 0} {item : List A → Reader A} {bytes : List ℕ} {n start i : ℕ} (xs : List A) {at now : ℕ} {a : A} → i < n
    → i < length xs → Left item bytes n start i (take i xs) at → item (take i xs) bytes at ≡ Took a now →
    Left item bytes n start (i + 1) (take (i + 1) (set xs i a)) now
left_set {item = item} {bytes = bytes} {n = n} {start = start} {i = i} xs {now = now} {a = a} lt long l e =
    subst (λ (ys : List _). Left item bytes n start (i + 1) ys now) (sym (take_more_set xs i a long)) (left_next lt l e)

-- The runs of a map and of owners from edge to edge: how many there are, and what is put of each.
use Rattle.std.proofs.Common.{◌≡◌, ◌≢◌, Bool, ℕ, suc, ◌+◌, ◌-◌, ◌<◌, ◌≤◌, ◌==◌, List, [], ◌∷◌, ◌++◌, length, get_or, drop, flat_map, refl}
use Rattle.std.proofs.Common.{sym, ap, ◌∙◌, arith}
use Rattle.std.proofs.lemmas.List.{drop_all}
use Rattle.mx_words.specs.declared.perm.Perm.{Perm}
use Rattle.mx_words.specs.Rights.{same, perm_at}
use Rattle.mx_words.specs.Runs.{Run, runs_of}
use Rattle.mx_report.specs.Runs.{run_texts}
use Rattle.mx_report.proofs.RunTexts.{map_from, owners_from}
use Rattle.mx_snapshot.specs.Stored.{run_with}

-- what is put of a run by its first word and the word behind it
abbrev pub by_edges : {A : Type 0} → (Run A → List ℕ) → ℕ → ℕ → A → List ℕ
by_edges spelled first end value = spelled (run_with (end - first) value)

pub by_edges_all : {A : Type 0} (spelled : Run A → List ℕ) (first : ℕ) (rs : List (Run A))
    → flat_map spelled rs ≡ run_texts (by_edges spelled) first rs
by_edges_all spelled first [] = refl
by_edges_all spelled first (r ∷ rs) =
    let e : r.count ≡ first + r.count - first = omega arith in
    ap (λ n. spelled (run_with n r.value) ++ flat_map spelled rs) e
    ∙ ap (λ xs. by_edges spelled first (first + r.count) r.value ++ xs) (by_edges_all spelled (first + r.count) rs)

-- one for each run
abbrev once : {A : Type 0} → ℕ → ℕ → A → List ℕ
once first end value = 0 ∷ []

once_all : {A : Type 0} (first : ℕ) (rs : List (Run A)) → length (run_texts once first rs) ≡ length rs
once_all first [] = refl
once_all first (r ∷ rs) = ap suc (once_all (first + r.count) rs)

-- the runs from a word on are one more than those from the end of its run on; behind RAM there are none
pub map_count : (m : List Perm) (size a b : ℕ) → length m ≡ size → a < b → b ≤ size → ((w : ℕ) → a ≤ w → w < b → perm_at m w ≡ perm_at m a)
    → (b < size → perm_at m b ≢ perm_at m a) →
    length (runs_of same (drop a m)) ≡ suc (length (runs_of same (drop b m)))
map_count m size a b whole behind within alike ends =
    sym (once_all a (runs_of same (drop a m))) ∙ ap length (map_from once m size a b whole behind within alike ends)
    ∙ ap suc (once_all b (runs_of same (drop b m)))

pub owner_count : (m : List ℕ) (a b : ℕ) → a < b → b ≤ length m → ((w : ℕ) → a ≤ w → w < b → get_or m w 0 ≡ get_or m a 0)
    → (b < length m → get_or m b 0 ≢ get_or m a 0) →
    length (runs_of (λ x y. x == y) (drop a m)) ≡ suc (length (runs_of (λ x y. x == y) (drop b m)))
owner_count m a b behind within alike ends =
    sym (once_all a (runs_of (λ x y. x == y) (drop a m))) ∙ ap length (owners_from once m a b behind within alike ends)
    ∙ ap suc (once_all b (runs_of (λ x y. x == y) (drop b m)))

pub none_behind : {A : Type 0} (eq : A → A → Bool) (m : List A) (a : ℕ) → length m ≤ a → length (runs_of eq (drop a m)) ≡ 0
none_behind eq m a le = ap (λ zs. length (runs_of eq zs)) (drop_all a m le)

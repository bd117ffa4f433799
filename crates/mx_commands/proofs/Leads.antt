-- From answers to the outcome of a step: over a store that tells it is that of the files, and the same answers lead to one.
use Rattle.std.proofs.Common.{◌≡◌, ℕ, zero, suc, List, ◌∷◌, ◌++◌, sym, subst, ◌∙◌}
use Rattle.std.proofs.lemmas.List.{append_cancel_left}
use Rattle.mx_io.specs.Store.{FileMap}
use Rattle.mx_io.specs.Answer.{Answer, HasSucceeded, IsOf}
use Rattle.mx_io.proofs.Talks.{Each, each-front, each-rest}
use Rattle.mx_commands.specs.Finding.{Finding, found_in, Finds}
use Rattle.mx_commands.specs.Next.{Outcome, Wanted, Next, Read, End}
use Rattle.mx_commands.specs.Leads.{LeadsBy, LeadsOver}
use Rattle.mx_commands.proofs.Findings.{finds_over, finds_decided}

pub end_same : {a b : Outcome} → End a ≡ End b → a ≡ b
end_same e = cc

pub read_same : {a b : Wanted} → Read a ≡ Read b → a ≡ b
read_same e = cc

pub read_end : {a : Wanted} {b : Outcome} → Read a ≡ End b → ⊥
read_end e = cc

-- answers of a store that tells lead to the outcome of its files
pub leads_over : (n : ℕ) (step : List Finding → Next) (files : FileMap) (answers : List Answer) (outcome : Outcome)
    → Each HasSucceeded answers → Each (IsOf files) answers → LeadsBy n step answers outcome → LeadsOver n step files outcome
leads_over zero step files answers outcome ok of l = l.0
leads_over (suc n) step files answers outcome ok of l =
    let oks = subst (Each HasSucceeded) l.5 ok in
    let ofs = subst (Each (IsOf files)) l.5 of in
    let found = finds_over files l.0.name l.0.most l.1 l.3 (each-front HasSucceeded l.1 l.2 oks) (each-front (IsOf files) l.1 l.2 ofs) l.6
    in
    let rest = leads_over n (λ more. step (l.3 ∷ more)) files l.2 outcome (each-rest HasSucceeded l.1 l.2 oks)
    (each-rest (IsOf files) l.1 l.2 ofs) l.7 in
    (l.0, l.4, subst (λ (found : Finding). LeadsOver n (λ more. step (found ∷ more)) files outcome) found rest)

-- files lead to one outcome
pub over_decided : (n m : ℕ) (step : List Finding → Next) (files : FileMap) (a b : Outcome) → LeadsOver n step files a
    → LeadsOver m step files b → a ≡ b
over_decided zero zero step files a b l r = end_same (sym l ∙ r)
over_decided zero (suc m) step files a b l r = absurd (read_end (sym r.1 ∙ l))
over_decided (suc n) zero step files a b l r = absurd (read_end (sym l.1 ∙ r))
over_decided (suc n) (suc m) step files a b l r =
    let file : l.0 ≡ r.0 = read_same (sym l.1 ∙ r.1) in
    let left = subst (λ (file : Wanted). LeadsOver n (λ more. step (found_in files file.most file.name ∷ more)) files a) file l.2 in
    over_decided n m (λ more. step (found_in files r.0.most r.0.name ∷ more)) files a b left r.2

-- the same answers lead to one outcome
pub by_decided : (n m : ℕ) (step : List Finding → Next) (xs ys : List Answer) (a b : Outcome) → xs ≡ ys → LeadsBy n step xs a
    → LeadsBy m step ys b → a ≡ b
by_decided zero zero step xs ys a b e l r = end_same (sym l.0 ∙ r.0)
by_decided zero (suc m) step xs ys a b e l r = absurd (read_end (sym r.4 ∙ l.0))
by_decided (suc n) zero step xs ys a b e l r = absurd (read_end (sym l.4 ∙ r.0))
by_decided (suc n) (suc m) step xs ys a b e l r =
    let file : l.0 ≡ r.0 = read_same (sym l.4 ∙ r.4) in
    let finds = subst (λ (file : Wanted). Finds file.most file.name l.1 l.3) file l.6 in
    let both = sym l.5 ∙ e ∙ r.5 in
    let same = finds_decided r.0.most r.0.name l.1 r.1 l.2 r.2 l.3 r.3 both finds r.6 in
    let rests = append_cancel_left r.1 l.2 r.2 (subst (λ (first : List Answer). (first ++ l.2) ≡ (r.1 ++ r.2)) same.1 both) in
    let left = subst (λ (found : Finding). LeadsBy n (λ more. step (found ∷ more)) l.2 a) same.0 l.7 in
    by_decided n m (λ more. step (r.3 ∷ more)) l.2 r.2 a b rests left r.7

-- Answers about one file: over a store that tells they come to its file, and the same answers come to one finding.
use Rattle.std.proofs.Common.{◌≡◌, ℕ, ◌-◌, ◌<◌, ◌≤◌, ◌⊎◌, List, [], ◌∷◌, ◌++◌, length, take, drop, Option, Some, None, option_map}
use Rattle.std.proofs.Common.{unwrap_or, refl, sym, ap, subst, ◌∙◌, inl, inr, arith, length-append}
use Rattle.std.proofs.lemmas.Bool.{lt-ltb, le-ltb}
use Rattle.std.proofs.lemmas.List.{take_all}
use Rattle.std.proofs.lemmas.Option.{none-some, same_Some}
use Rattle.std.proofs.Math.Seq.{take-add}
use Rattle.std.specs.FinMap.{get}
use Rattle.mx_words.proofs.OptionLaws.{unmapped}
use Rattle.mx_io.specs.Store.{FileMap, file_bytes}
use Rattle.mx_io.specs.Answer.{Answer, Sized, Gave, HasSucceeded, IsOf, IsPart}
use Rattle.mx_io.proofs.Talks.{Each}
use Rattle.mx_commands.specs.Finding.{Finding, Large, Short, Broken, Whole, EndsEarly, Completes, FindsSized, Finds, found_file, found_in}

-- one more part of a file after those before
grown : (file got bytes : List ℕ) → got ≡ take (length got) file → bytes ≡ take (length bytes) (drop (length got) file)
    → (got ++ bytes) ≡ take (length (got ++ bytes)) file
grown file got bytes front part =
    sym (ap (λ n. take n file) (length-append got bytes) ∙ take-add (length got) (length bytes) file
    ∙ ap (λ xs. xs ++ take (length bytes) (drop (length got) file)) (sym front) ∙ ap (λ ys. got ++ ys) (sym part))

-- no file ends early where calls succeed
pub not_early : (files : FileMap) (name : List ℕ) (told at room : ℕ) (found : Finding) (part : Option (List ℕ))
    → HasSucceeded (Gave name at room part) → IsOf files (Gave name at room part)
    → 0 < room → at < length (file_bytes files name) → EndsEarly part told at found → ⊥
not_early files name told at room found None ok of more inside early = ok
not_early files name told at room found (Some []) ok of more inside early = let end = (of.end more).0 refl in omega (arith, end, inside)
not_early files name told at room found (Some (byte ∷ bytes)) ok of more inside early = early

part_given : (files : FileMap) (name : List ℕ) (at room : ℕ) (part : Option (List ℕ)) (bytes : List ℕ) → part ≡ Some bytes
    → IsOf files (Gave name at room part) → IsPart (file_bytes files name) at room bytes
part_given files name at room part bytes is of = subst (λ (p : Option (List ℕ)). IsOf files (Gave name at room p)) is of

-- the parts of a file of the size told come to its bytes
completes_over : (files : FileMap) (name : List ℕ) (told : ℕ) → length (file_bytes files name) ≡ told
    → (got : List ℕ) (answers : List Answer) (found : Finding)
    → got ≡ take (length got) (file_bytes files name) → Each HasSucceeded answers → Each (IsOf files) answers
    → Completes name told got answers found → found ≡ Whole (file_bytes files name)
completes_over files name told size got [] found front ok of c =
    let all : length (file_bytes files name) ≤ length got = omega (arith, size, c.0) in
    c.1 ∙ ap Whole (front ∙ take_all (length got) (file_bytes files name) all)
completes_over files name told size got (a ∷ more) found front ok of c =
    let given = subst (IsOf files) c.2 of.0 in
    let done = subst HasSucceeded c.2 ok.0 in
    elim c.3 [
      | inl h ↦
          completes_over files name told size (got ++ h.0) more found
          (grown (file_bytes files name) got h.0 front (part_given files name (length got) (told - length got) c.1 h.0 h.1 given).bytes)
          ok.1 of.1 h.3
      | inr h ↦
          absurd (not_early files name told (length got) (told - length got) found c.1 done given (omega (arith, c.0))
          (omega (arith, size, c.0)) h.0)
    ]

pub present : (o : Option (List ℕ)) (told : ℕ) → Some told ≡ option_map length o
    → (bytes : List ℕ) × (o ≡ Some bytes) × (length bytes ≡ told)
present None told e = absurd (none-some told (sym e))
present (Some bytes) told e = (bytes, refl, sym (same_Some told (length bytes) e))

found_large : (most : ℕ) (bytes : List ℕ) → most < length bytes → found_file most (Some bytes) ≡ Large
found_large most bytes h = rw (lt-ltb most (length bytes) h) refl

pub found_small : (most : ℕ) (bytes : List ℕ) → length bytes ≤ most → found_file most (Some bytes) ≡ Whole bytes
found_small most bytes h = rw (le-ltb most (length bytes) h) refl

sized_over : (files : FileMap) (name : List ℕ) (most : ℕ) (size : Option (Option ℕ)) (more : List Answer) (found : Finding)
    → HasSucceeded (Sized name size) → IsOf files (Sized name size)
    → Each HasSucceeded more → Each (IsOf files) more → FindsSized most name size more found → found ≡ found_in files most name
sized_over files name most None more found ok of oks ofs f = absurd ok
sized_over files name most (Some None) more found ok of oks ofs f = f.0
    ∙ sym (ap (found_file most) (unmapped length (get files name) (sym of)))
sized_over files name most (Some (Some told)) more found ok of oks ofs f =
    let p = present (get files name) told of in
    let bytes : file_bytes files name ≡ p.0 = ap (λ o. unwrap_or o []) p.1 in
    let size : length (file_bytes files name) ≡ told = ap length bytes ∙ p.2 in
    elim f [
      | inl h ↦ h.1 ∙ sym (ap (found_file most) p.1 ∙ found_large most p.0 (omega (arith, h.0, p.2)))
      | inr h ↦
          completes_over files name told size [] more found refl oks ofs h.1 ∙ ap Whole bytes
          ∙ sym (ap (found_file most) p.1 ∙ found_small most p.0 (omega (arith, h.0, p.2)))
    ]

-- answers of a store that tells come to what its files are
pub finds_over : (files : FileMap) (name : List ℕ) (most : ℕ) (answers : List Answer) (found : Finding) → Each HasSucceeded answers
    → Each (IsOf files) answers → Finds most name answers found
    → found ≡ found_in files most name
finds_over files name most [] found ok of f = absurd f
finds_over files name most (a ∷ more) found ok of f =
    sized_over files name most f.0 more found (subst HasSucceeded f.1 ok.0) (subst (IsOf files) f.1 of.0) ok.1 of.1 f.2

-- how the answers go on after a part
abbrev After : List ℕ → ℕ → List ℕ → Option (List ℕ) → List Answer → Finding → Type 0
After name told got part more found =
    ((bytes : List ℕ) × (part ≡ Some bytes) × (0 < length bytes) × Completes name told (got ++ bytes) more found)
    ⊎ (EndsEarly part told (length got) found × (more ≡ []))

after_failed : (name : List ℕ) (told : ℕ) (got : List ℕ) (more : List Answer) (found : Finding) → After name told got None more found
    → (found ≡ Broken) × (more ≡ [])
after_failed name told got more found a = elim a [ inl h ↦ absurd (none-some _ h.1) | inr h ↦ (h.0, h.1) ]

no_bytes : (bytes : List ℕ) → Some [] ≡ Some bytes → 0 < length bytes → ⊥
no_bytes [] is more = omega (arith, more)
no_bytes (byte ∷ bytes) is more = cc

after_end : (name : List ℕ) (told : ℕ) (got : List ℕ) (more : List Answer) (found : Finding) → After name told got (Some []) more found
    → (found ≡ Short told (length got)) × (more ≡ [])
after_end name told got more found a = elim a [ inl h ↦ absurd (no_bytes h.0 h.1 h.2) | inr h ↦ (h.0, h.1) ]

after_part : (name : List ℕ) (told : ℕ) (got : List ℕ) (byte : ℕ) (bytes : List ℕ) (more : List Answer) (found : Finding)
    → After name told got (Some (byte ∷ bytes)) more found
    → Completes name told (got ++ byte ∷ bytes) more found
after_part name told got byte bytes more found a =
    elim a [
      | inl h ↦ subst (λ (bs : List ℕ). Completes name told (got ++ bs) more found) (sym (same_Some _ _ h.1)) h.3
      | inr h ↦
          absurd h.0
    ]

after_decided : (name : List ℕ) (told : ℕ) (got : List ℕ) (xs ys : List Answer) (f g : Finding)
    → ((bytes : List ℕ) → Completes name told (got ++ bytes) xs f → Completes name told (got ++ bytes) ys g → (f ≡ g) × (xs ≡ ys))
    → (part : Option (List ℕ)) → After name told got part xs f → After name told got part ys g → (f ≡ g) × (xs ≡ ys)
after_decided name told got xs ys f g same None a b =
    let p = after_failed name told got xs f a in let q = after_failed name told got ys g b in (p.0 ∙ sym q.0, p.1 ∙ sym q.1)
after_decided name told got xs ys f g same (Some []) a b =
    let p = after_end name told got xs f a in let q = after_end name told got ys g b in (p.0 ∙ sym q.0, p.1 ∙ sym q.1)
after_decided name told got xs ys f g same (Some (byte ∷ bytes)) a b =
    same (byte ∷ bytes) (after_part name told got byte bytes xs f a) (after_part name told got byte bytes ys g b)

head_same : {a b : Answer} {xs ys : List Answer} → (a ∷ xs) ≡ (b ∷ ys) → a ≡ b
head_same e = cc

tail_same : {a b : Answer} {xs ys : List Answer} → (a ∷ xs) ≡ (b ∷ ys) → xs ≡ ys
tail_same e = cc

gave_same : {name : List ℕ} {at room : ℕ} {p q : Option (List ℕ)} → Gave name at room p ≡ Gave name at room q → p ≡ q
gave_same e = cc

sized_same : {name : List ℕ} {p q : Option (Option ℕ)} → Sized name p ≡ Sized name q → p ≡ q
sized_same e = cc

cons_same : {a b : Answer} {xs ys : List Answer} → a ≡ b → xs ≡ ys → (a ∷ xs) ≡ (b ∷ ys)
cons_same e f = cc

completes_decided : (name : List ℕ) (told : ℕ) (got : List ℕ) (xs ys after other : List Answer) (f g : Finding)
    → (xs ++ after) ≡ (ys ++ other) → Completes name told got xs f → Completes name told got ys g → (f ≡ g) × (xs ≡ ys)
completes_decided name told got [] [] after other f g e c d = (c.1 ∙ sym d.1, refl)
completes_decided name told got [] (b ∷ ys) after other f g e c d = absurd (omega (arith, c.0, d.0))
completes_decided name told got (a ∷ xs) [] after other f g e c d = absurd (omega (arith, c.0, d.0))
completes_decided name told got (a ∷ xs) (b ∷ ys) after other f g e c d =
    let heads : a ≡ b = head_same e in
    let parts = gave_same (sym c.2 ∙ heads ∙ d.2) in
    let p = after_decided name told got xs ys f g (λ bytes. completes_decided name told (got ++ bytes) xs ys after other f g (tail_same e))
    d.1
    (subst (λ (part : Option (List ℕ)). After name told got part xs f) parts c.3) d.3 in
    (p.0, cons_same heads p.1)

sized_decided : (most : ℕ) (name : List ℕ) (size : Option (Option ℕ)) (xs ys after other : List Answer) (f g : Finding)
    → (xs ++ after) ≡ (ys ++ other) → FindsSized most name size xs f → FindsSized most name size ys g → (f ≡ g) × (xs ≡ ys)
sized_decided most name None xs ys after other f g e c d = (c.0 ∙ sym d.0, c.1 ∙ sym d.1)
sized_decided most name (Some None) xs ys after other f g e c d = (c.0 ∙ sym d.0, c.1 ∙ sym d.1)
sized_decided most name (Some (Some told)) xs ys after other f g e c d =
    elim c [
      | inl p ↦ elim d [ inl q ↦ (p.1 ∙ sym q.1, p.2 ∙ sym q.2) | inr q ↦ absurd (omega (arith, p.0, q.0)) ]
      | inr p ↦ elim d [ inl q ↦ absurd (omega (arith, p.0, q.0)) | inr q ↦ completes_decided name told [] xs ys after other f g e p.1 q.1 ]
    ]

-- the same answers come to one finding, and no more and no fewer of them are about the file
pub finds_decided : (most : ℕ) (name : List ℕ) (xs ys after other : List Answer) (f g : Finding)
    → (xs ++ after) ≡ (ys ++ other) → Finds most name xs f → Finds most name ys g → (f ≡ g) × (xs ≡ ys)
finds_decided most name [] ys after other f g e c d = absurd c
finds_decided most name (a ∷ xs) [] after other f g e c d = absurd d
finds_decided most name (a ∷ xs) (b ∷ ys) after other f g e c d =
    let heads : a ≡ b = head_same e in
    let sizes = sized_same (sym c.1 ∙ heads ∙ d.1) in
    let p = sized_decided most name d.0 xs ys after other f g (tail_same e)
    (subst (λ (size : Option (Option ℕ)). FindsSized most name size xs f) sizes c.2) d.2 in
    (p.0, cons_same heads p.1)

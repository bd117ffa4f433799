-- Tests of numbers, and rights with commas between them.
use Rattle.std.proofs.Common.{◌≡◌, ◌≢◌, ℕ, suc, ◌+◌, ◌≤◌, ◌==◌, Bool, true, false, not, ◌||◌, nat_lt, List, [], ◌∷◌, ◌++◌, length, drop}
use Rattle.std.proofs.Common.{codes, if◌then◌else◌, refl, ap, sym, ◌∙◌, arith, length-append}
use Rattle.std.proofs.lemmas.List.{append-nil, drop-append-le}
use Rattle.mx_debug_texts.specs.Documents.{comma, rights_text}

pub is_same : (a b : ℕ) → a ≡ b → (a == b) ≡ true
is_same a b e = grind arith

pub is_other : (a b : ℕ) → a ≢ b → (a == b) ≡ false
is_other a b e = grind arith

-- whether there is a right: none, or one with the comma before it
abbrev pub AreAny : Bool → List ℕ → Type 0
AreAny false rights = rights ≡ []
AreAny true rights = 2 ≤ length rights

pub without_first : (none some : Bool) (rights text : List ℕ) → AreAny some rights →
    drop 2 (rights ++ (if none then [] else codes ", " ++ text)) ≡ drop 2 rights ++ (if none then [] else comma some ++ text)
without_first true some rights text any = ap (drop 2) (append-nil rights) ∙ sym (append-nil (drop 2 rights))
without_first false false rights text any =
    ap (λ (t : List ℕ). drop 2 (t ++ (codes ", " ++ text))) any ∙ sym (ap (λ (t : List ℕ). drop 2 t ++ text) any)
without_first false true rights text any = drop-append-le 2 rights (codes ", " ++ text) any

pub any_more : (none some : Bool) (rights text : List ℕ) → AreAny some rights →
    AreAny (some || not none) (rights ++ (if none then [] else codes ", " ++ text))
any_more true false rights text any = append-nil rights ∙ any
any_more true true rights text any = let e : length (rights ++ []) ≡ length rights = ap length (append-nil rights) in omega (arith, e, any)
any_more false false rights text any =
    let e : length (rights ++ (codes ", " ++ text)) ≡ length rights + length (codes ", " ++ text) =
    length-append rights (codes ", " ++ text) in
    let f : length (codes ", " ++ text) ≡ 2 + length text = length-append (codes ", ") text in
    omega (arith, e, f)
any_more false true rights text any =
    let e : length (rights ++ (codes ", " ++ text)) ≡ length rights + length (codes ", " ++ text) =
    length-append rights (codes ", " ++ text) in
    omega (arith, e, any)

pub any_told : (some : Bool) (rights : List ℕ) → AreAny some rights → some ≡ nat_lt 0 (length rights)
any_told false rights any = let e = ap length any in grind (arith, e)
any_told true rights any = grind arith

some_byte : (n : ℕ) → nat_lt 0 (suc n) ≡ false → ⊥
some_byte n e = grind arith

pub none_told : (rights : List ℕ) → nat_lt 0 (length rights) ≡ false → rights_text rights ≡ drop 2 rights ++ codes "nobody has a right"
none_told [] e = refl
none_told (c ∷ more) e = absurd (some_byte (length more) e)

pub some_told : (rights : List ℕ) → nat_lt 0 (length rights) ≡ true → rights_text rights ≡ drop 2 rights
some_told rights e = ap (λ b. if b then drop 2 rights else codes "nobody has a right") e

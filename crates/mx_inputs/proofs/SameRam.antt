-- RAM with contents put into it, byte by byte: two of them have the same byte at a place where the contents are the same or pass by it.
use Rattle.std.proofs.Common.{◌≡◌, ◌≢◌, ◌⊎◌, inl, inr, ℕ, zero, suc, ◌+◌, ◌-◌, ◌<◌, ◌≤◌, List, [], ◌∷◌, ◌++◌, length, get_or, set, fold}
use Rattle.std.proofs.Common.{slice_get, Some, refl, ap, ◌∙◌, sym, subst, arith}
use Rattle.std.specs.List.{enumerate_from, flat_map}
use Rattle.std.proofs.lemmas.List.{length-set, get_or-set_other}
use Rattle.mx_boot.specs.Areas.{Content}
use Rattle.mx_boot.specs.Boot.{with_content}
use Rattle.mx_boot.proofs.RamBytes.{put, length-put}

-- bytes that are put elsewhere
abbrev pub PassesBy : ℕ → ℕ → ℕ → Type 0
PassesBy at first count = (at < first) ⊎ (first + count ≤ at)

put-elsewhere : (ram : List ℕ) (k at : ℕ) (bytes : List ℕ) → PassesBy at k (length bytes) →
    get_or (put ram k bytes) at 0 ≡ get_or ram at 0
put-elsewhere ram k at [] by = refl
put-elsewhere ram k at (b ∷ bytes) by =
    let other : at ≢ k =
    λ e. elim by [ inl lt ↦ (let q : ⊥ = omega (arith, lt, e) in q) | inr past ↦ (let q : ⊥ = omega (arith, past, e) in q) ] in
    let later : PassesBy at (k + 1) (length bytes) =
    elim by [ inl lt ↦ inl (omega (arith, lt)) | inr past ↦ inr (omega (arith, past)) ] in
    put-elsewhere (set ram k b) (k + 1) at bytes later ∙ get_or-set_other ram k at b 0 other

-- the same bytes put at the same place
set-same : (xs ys : List ℕ) (k at v : ℕ) → length xs ≡ length ys → get_or xs at 0 ≡ get_or ys at 0 →
    get_or (set xs k v) at 0 ≡ get_or (set ys k v) at 0
set-same [] [] k at v long same = same
set-same [] (y ∷ ys) k at v long same = absurd (omega arith)
set-same (x ∷ xs) [] k at v long same = absurd (omega arith)
set-same (x ∷ xs) (y ∷ ys) zero zero v long same = refl
set-same (x ∷ xs) (y ∷ ys) zero (suc at) v long same = same
set-same (x ∷ xs) (y ∷ ys) (suc k) zero v long same = same
set-same (x ∷ xs) (y ∷ ys) (suc k) (suc at) v long same = set-same xs ys k at v (omega arith) same

put-same : (xs ys : List ℕ) (k at : ℕ) (bytes : List ℕ) → length xs ≡ length ys → get_or xs at 0 ≡ get_or ys at 0 →
    get_or (put xs k bytes) at 0 ≡ get_or (put ys k bytes) at 0
put-same xs ys k at [] long same = same
put-same xs ys k at (b ∷ bytes) long same =
    put-same (set xs k b) (set ys k b) (k + 1) at bytes (length-set xs k b ∙ long ∙ sym (length-set ys k b))
    (set-same xs ys k at b long same)

-- contents that are the same, or both elsewhere
abbrev pub IsElsewhere : ℕ → Content → Type 0
IsElsewhere at c = PassesBy at (c.address - 2147483648) (length c.bytes)

abbrev pub IsAlike : ℕ → Content → Content → Type 0
IsAlike at c e = (c ≡ e) ⊎ (IsElsewhere at c × IsElsewhere at e)

abbrev pub AreAlike : ℕ → List Content → List Content → Type 0
AreAlike at [] [] = Unit {0}
AreAlike at [] (e ∷ es) = ⊥
AreAlike at (c ∷ cs) [] = ⊥
AreAlike at (c ∷ cs) (e ∷ es) = IsAlike at c e × AreAlike at cs es

one-alike : (at : ℕ) (xs ys : List ℕ) (c e : Content) → length xs ≡ length ys → get_or xs at 0 ≡ get_or ys at 0 →
    IsAlike at c e → get_or (with_content xs c) at 0 ≡ get_or (with_content ys e) at 0
one-alike at xs ys c e long same alike = elim alike [
  | inl is ↦ (
      put-same xs ys (c.address - 2147483648) at c.bytes long same ∙ ap (λ (d : Content). get_or (with_content ys d) at 0) is)
  | inr by ↦ (
      put-elsewhere xs (c.address - 2147483648) at c.bytes by.0 ∙ same
      ∙ sym (put-elsewhere ys (e.address - 2147483648) at e.bytes by.1))
]

pub all-alike : (at : ℕ) (xs ys : List ℕ) (cs es : List Content) → length xs ≡ length ys → get_or xs at 0 ≡ get_or ys at 0 →
    AreAlike at cs es → get_or (fold with_content xs cs) at 0 ≡ get_or (fold with_content ys es) at 0
all-alike at xs ys [] [] long same alike = same
all-alike at xs ys [] (e ∷ es) long same alike = absurd alike
all-alike at xs ys (c ∷ cs) [] long same alike = absurd alike
all-alike at xs ys (c ∷ cs) (e ∷ es) long same alike =
    all-alike at (with_content xs c) (with_content ys e) cs es
    (length-put xs (c.address - 2147483648) c.bytes ∙ long ∙ sym (length-put ys (e.address - 2147483648) e.bytes))
    (one-alike at xs ys c e long same alike.0) alike.1

-- contents of parts
pub alike-self : (at : ℕ) (cs : List Content) → AreAlike at cs cs
alike-self at [] = tt
alike-self at (c ∷ cs) = (inl refl, alike-self at cs)

pub alike-append : (at : ℕ) (cs es ds fs : List Content) → AreAlike at cs es → AreAlike at ds fs →
    AreAlike at (cs ++ ds) (es ++ fs)
alike-append at [] [] ds fs a b = b
alike-append at [] (e ∷ es) ds fs a b = absurd a
alike-append at (c ∷ cs) [] ds fs a b = absurd a
alike-append at (c ∷ cs) (e ∷ es) ds fs a b = (a.0, alike-append at cs es ds fs a.1 b)

pub alike-numbered : {X : Type 0} (at n : ℕ) (f g : ℕ × X → List Content) (xs : List X) →
    ((i : ℕ) (x : X) → slice_get xs i ≡ Some x → AreAlike at (f (n + i, x)) (g (n + i, x))) →
    AreAlike at (flat_map f (enumerate_from n xs)) (flat_map g (enumerate_from n xs))
alike-numbered at n f g [] each = tt
alike-numbered {X} at n f g (x ∷ xs) each =
    let here : AreAlike at (f (n, x)) (g (n, x)) =
    subst (λ k. AreAlike at (f (k, x)) (g (k, x))) (let same : n + 0 ≡ n = omega arith in same) (each 0 x refl) in
    alike-append at (f (n, x)) (g (n, x)) (flat_map f (enumerate_from (n + 1) xs)) (flat_map g (enumerate_from (n + 1) xs)) here
    (alike-numbered at (n + 1) f g xs
    (λ i y e. subst (λ k. AreAlike at (f (k, y)) (g (k, y))) (let same : n + suc i ≡ n + 1 + i = omega arith in same) (each (suc i) y e)))

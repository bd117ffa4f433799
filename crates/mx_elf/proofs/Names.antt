-- Names that end at a zero byte.
use Rattle.std.proofs.Common.{◌≡◌, ℕ, suc, ◌<◌, ◌≤◌, Bool, true, false, ◌&&◌, ◌||◌, ◌==◌, List, [], ◌∷◌, length, get_or, take, Option, Some}
use Rattle.std.proofs.Common.{None, refl, sym, ap, ◌∙◌, arith, ⊎_elim, nat_lt, cond}
use Rattle.std.specs.Prelude.{find, option_map, if◌then◌else◌}
use Rattle.std.specs.Option.{option_map_or}
use Rattle.std.specs.Str.{bytes_eq}
use Rattle.std.specs.List.{list_any}
use Rattle.std.proofs.lemmas.Bool.{cases_Bool, cases_lt, lt-ltb, le-ltb, ne_eqb, eqb-true, eqb-false, or_parts}
use Rattle.mx_elf.specs.Symbol.{name_of, begins_with_name, HasNoZero}

lt-suc : (a b : ℕ) → nat_lt (suc a) (suc b) ≡ nat_lt a b
lt-suc a b = ⊎_elim
    (λ (lt : a < b). lt-ltb (suc a) (suc b) (omega arith) ∙ sym (lt-ltb a b lt))
    (λ (ge : b ≤ a). le-ltb (suc a) (suc b) (omega arith) ∙ sym (le-ltb a b ge))
    (cases_lt a b)

-- a name of one byte or more is not the empty one
pub longer : (b : ℕ) (o : Option (List ℕ)) → option_map_or (λ found. bytes_eq found []) (option_map (λ name. b ∷ name) o) false ≡ false
longer b None = refl
longer b (Some n) = refl

-- its first byte tells
pub further : (b c : ℕ) (name : List ℕ) (o : Option (List ℕ)) →
    option_map_or (λ found. bytes_eq found (c ∷ name)) (option_map (λ n. b ∷ n) o) false
    ≡ ((b == c) && option_map_or (λ found. bytes_eq found name) o false)
further b c name None = by (b == c)
  where
    by : (t : Bool) → false ≡ (t && false)
    by true = refl
    by false = refl
further b c name (Some n) = refl

shuffled : (u l z e : Bool) → (u && (l && (z && e))) ≡ (l && (z && (u && e)))
shuffled true l z e = refl
shuffled false true true e = refl
shuffled false true false e = refl
shuffled false false z e = refl

never : (l z e : Bool) → (l && (z && (false && e))) ≡ false
never true true e = refl
never true false e = refl
never false z e = refl

-- strings begin with a name exactly where its bytes stand there with a zero byte after them
pub begins_told : (strings name : List ℕ) → HasNoZero name →
    begins_with_name strings name ≡ (nat_lt (length name) (length strings)
    && ((get_or strings (length name) 0 == 0) && bytes_eq (take (length name) strings) name))
begins_told [] [] h = refl
begins_told [] (c ∷ name) h = sym (ap (λ t. t && ((get_or [] (length (c ∷ name)) 0 == 0)
    && bytes_eq (take (length (c ∷ name)) []) (c ∷ name))) (le-ltb (length (c ∷ name)) 0 (omega arith)))
begins_told (b ∷ strings) [] h =
    by (b == 0) ∙ sym (ap (λ t. t && ((b == 0) && true)) (lt-ltb 0 (length (b ∷ strings)) (omega arith)))
  where
    by : (t : Bool) → option_map_or (λ found. bytes_eq found []) (if t then Some [] else option_map (λ name. b ∷ name) (name_of strings))
        false ≡ (t && true)
    by true = refl
    by false = longer b (name_of strings)
begins_told (b ∷ strings) (c ∷ name) h =
    let parts = or_parts (c == 0) (list_any (λ x. x == 0) name) h in
    let l = nat_lt (length name) (length strings) in
    let z = get_or strings (length name) 0 == 0 in
    let e = bytes_eq (take (length name) strings) name in
    ⊎_elim
    (λ (t : (b == 0) ≡ true).
    let zero_is : b ≡ 0 = eqb-true b 0 t in
    let other : (b == c) ≡ false = ne_eqb b c (λ same. absurd (eqb-false c 0 parts.0 (sym same ∙ zero_is))) in
    ap (λ t. option_map_or (λ found. bytes_eq found (c ∷ name)) (if t then Some [] else option_map (λ n. b ∷ n) (name_of strings)) false) t
    ∙ sym (ap (λ u. nat_lt (length (c ∷ name)) (length (b ∷ strings)) && (z && (u && e))) other
    ∙ never (nat_lt (length (c ∷ name)) (length (b ∷ strings))) z e))
    (λ (f : (b == 0) ≡ false).
    ap (λ t. option_map_or (λ found. bytes_eq found (c ∷ name)) (if t then Some [] else option_map (λ n. b ∷ n) (name_of strings)) false) f
    ∙ further b c name (name_of strings)
    ∙ ap (λ r. (b == c) && r) (begins_told strings name parts.1)
    ∙ shuffled (b == c) l z e
    ∙ sym (ap (λ t. t && (z && ((b == c) && e))) (lt-suc (length name) (length strings))))
    (cases_Bool (b == 0))

-- a name with a zero byte in it stands nowhere
pub never_begins : (strings name : List ℕ) → list_any (λ b. b == 0) name ≡ true → begins_with_name strings name ≡ false
never_begins strings [] h = absurd (let r : ⊥ = cc in r)
never_begins [] (c ∷ name) h = refl
never_begins (b ∷ strings) (c ∷ name) h = ⊎_elim
    (λ (t : (b == 0) ≡ true).
    ap (λ t. option_map_or (λ found. bytes_eq found (c ∷ name)) (if t then Some [] else option_map (λ n. b ∷ n) (name_of strings)) false) t)
    (λ (f : (b == 0) ≡ false).
    ap (λ t. option_map_or (λ found. bytes_eq found (c ∷ name)) (if t then Some [] else option_map (λ n. b ∷ n) (name_of strings)) false) f
    ∙ further b c name (name_of strings)
    ∙ ⊎_elim
    (λ (z : (c == 0) ≡ true).
    let zero_is : c ≡ 0 = eqb-true c 0 z in
    ap (λ t. t && begins_with_name strings name) (ne_eqb b c (λ same. eqb-false b 0 f (same ∙ zero_is))))
    (λ (z : (c == 0) ≡ false).
    let rest : list_any (λ x. x == 0) name ≡ true = sym (ap (λ t. t || list_any (λ x. x == 0) name) z) ∙ h in
    ap (λ r. (b == c) && r) (never_begins strings name rest) ∙ and-false (b == c))
    (cases_Bool (c == 0)))
    (cases_Bool (b == 0))
  where
    and-false : (t : Bool) → (t && false) ≡ false
    and-false true = refl
    and-false false = refl

-- a test that no place passes finds none
pub find-fails : (p : ℕ → Bool) (xs : List ℕ) → ((x : ℕ) → p x ≡ false) → find p xs ≡ None
find-fails p [] h = refl
find-fails p (x ∷ xs) h = ap (λ t. cond t (Some x) (find p xs)) (h x) ∙ find-fails p xs h

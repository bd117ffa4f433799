-- Symbols that are looked up together.
use Rattle.std.proofs.Common.{◌≡◌, ℕ, zero, suc, ◌+◌, ◌-◌, ◌*◌, ◌<◌, ◌≤◌, ◌⊎◌, ⊎_elim, ◌||◌, Bool, true, false, cond, List, [], ◌∷◌, length}
use Rattle.std.proofs.Common.{get_or, take, map, Option, Some, None, is_some, option_map, refl, sym, ap, ◌∙◌, arith, bytes_eq}
use Rattle.std.specs.Prelude.{find, ◌==◌, ◌&&◌}
use Rattle.std.specs.Borrow.{Bor}
use Rattle.std.specs.Map.{lookup}
use Rattle.std.specs.Option.{option_or, option_map_or}
use Rattle.std.specs.List.{list_any}
use Rattle.std.proofs.lemmas.Slice.Eq.{bytes_eq-Decides}
use Rattle.std.proofs.lemmas.Bool.{eq-eqb, eqb-true, ne_eqb}
use Rattle.std.proofs.lemmas.List.{length-take-le, get_or-take, take_more}
use Rattle.std.proofs.lemmas.List.Folds.{list_any-append}
use Rattle.std.proofs.lemmas.Bool.Decides.{same_from_decides, Decides-like}
use Rattle.memchr.specs.Find.{IsFirstByte, is_byte}
use Rattle.mx_elf.specs.Field.{places}
use Rattle.mx_elf.specs.Header.{st_value}
use Rattle.mx_elf.specs.Known.{value_here}
use Rattle.mx_elf.specs.Symbol.{name_of, begins_with_name, is_defined}
use Rattle.mx_elf.proofs.Places.{places-next}
use Rattle.mx_elf.proofs.Names.{longer, further}

-- the value that a name gets from the symbols that are left, from the k-th of so many on
abbrev pub rest_of : List ℕ → List ℕ → ℕ → ℕ → List ℕ → Option ℕ
rest_of symbols strings count k name =
    option_map (st_value symbols) (find (is_defined symbols strings name) (places (0 + 16 * k) 16 (count - k)))

-- what a map tells of a name is what it finds
pub told-known : (name : List ℕ) (entries : List (Bor (List ℕ) × Option ℕ))
    → lookup (bytes_eq name) (map (λ e. (e.0.now, e.1)) entries) ≡ lookup (λ key. bytes_eq name key.now) entries
told-known name [] = refl
told-known name (e ∷ entries) = ap (cond (bytes_eq name e.0.now) (Some e.1)) (told-known name entries)

-- the name that ends at the first zero byte
pub name-ends : (strings : List ℕ) (k : ℕ) → k < length strings → get_or strings k 0 ≡ 0 → ((j : ℕ) → j < k → get_or strings j 0 ≡ 0 → ⊥)
    → name_of strings ≡ Some (take k strings)
name-ends [] k lt at none = absurd (let r : ⊥ = omega arith in r)
name-ends (b ∷ strings) zero lt at none = ap (λ t. cond t (Some []) (option_map (λ name. b ∷ name) (name_of strings))) (eq-eqb b 0 at)
name-ends (b ∷ strings) (suc k) lt at none =
    ap (λ t. cond t (Some []) (option_map (λ name. b ∷ name) (name_of strings))) (ne_eqb b 0 (none 0 (omega arith)))
    ∙ ap (option_map (λ name. b ∷ name)) (name-ends strings k (omega arith) at (λ j below. none (suc j) (omega arith)))

-- where the first bytes have no zero, no name is so short
pub name-later : (strings name : List ℕ) → ((j : ℕ) → j ≤ length name → j < length strings → get_or strings j 0 ≡ 0 → ⊥)
    → begins_with_name strings name ≡ false
name-later [] name none = refl
name-later (b ∷ strings) [] none =
    ap (λ t. option_map_or (λ found. bytes_eq found []) (cond t (Some []) (option_map (λ name. b ∷ name) (name_of strings))) false)
    (ne_eqb b 0 (none 0 (omega arith) (omega arith)))
    ∙ longer b (name_of strings)
name-later (b ∷ strings) (c ∷ name) none =
    ap (λ t. option_map_or (λ found. bytes_eq found (c ∷ name)) (cond t (Some []) (option_map (λ name. b ∷ name) (name_of strings))) false)
    (ne_eqb b 0 (none 0 (omega arith) (omega arith)))
    ∙ further b c name (name_of strings)
    ∙ ap (λ t. (b == c) && t) (name-later strings name (λ j le lt. none (suc j) (omega arith) (omega arith)))
    ∙ and-false (b == c)
  where
    and-false : (t : Bool) → (t && false) ≡ false
    and-false true = refl
    and-false false = refl

-- after a value is written at one name: it has the new value, and each other name what it had
pub given : (name q : List ℕ) (value : ℕ) (old w : Option ℕ) (f : List ℕ → Option (Option ℕ)) (y : Option (Option ℕ)) → f name ≡ Some old
    → w ≡ option_or old (Some value)
    → y ≡ cond (bytes_eq name q) (Some w) (f q) → y ≡ option_map (λ v. option_or v (cond (bytes_eq name q) (Some value) None)) (f q)
given name q value old w f y has is told = told ∙ by (bytes_eq name q) refl
  where
    by : (t : Bool) → bytes_eq name q ≡ t → cond t (Some w) (f q) ≡ option_map (λ v. option_or v (cond t (Some value) None)) (f q)
    by true e =
        let same : f q ≡ Some old = ap f (sym ((bytes_eq-Decides name q).0 e)) ∙ has in
        ap Some is ∙ sym (ap (option_map (λ v. option_or v (Some value))) same)
    by false e = sym (kept (f q))
      where
        kept : (x : Option (Option ℕ)) → option_map (λ v. option_or v None) x ≡ x
        kept None = refl
        kept (Some None) = refl
        kept (Some (Some v)) = refl

-- the first symbol that is left, and those after it
pub rest-next : (symbols strings name : List ℕ) (count k at : ℕ) → k < count → 0 + 16 * k ≡ at
    → rest_of symbols strings count k name ≡ option_or (value_here symbols strings name at) (rest_of symbols strings count (k + 1) name)
rest-next symbols strings name count k at lt is =
    ap (λ ps. option_map (st_value symbols) (find (is_defined symbols strings name) ps)) (places-next 0 16 count k lt)
    ∙ by (is_defined symbols strings name (0 + 16 * k))
    ∙ ap (λ at. option_or (value_here symbols strings name at) (rest_of symbols strings count (k + 1) name)) is
  where
    by : (t : Bool) → option_map (st_value symbols) (cond t (Some (0 + 16 * k))
        (find (is_defined symbols strings name) (places (0 + 16 * (k + 1)) 16 (count - (k + 1)))))
        ≡ option_or (cond t (Some (st_value symbols (0 + 16 * k))) None) (rest_of symbols strings count (k + 1) name)
    by true = refl
    by false = refl

-- one more symbol was looked at
pub walked : (here later all : Option ℕ) (x y : Option (Option ℕ)) → all ≡ option_or here later → y ≡ option_map (λ v. option_or v here) x
    → option_map (λ v. option_or v later) y ≡ option_map (λ v. option_or v all) x
walked here later all x y is told = ap (option_map (λ v. option_or v later)) told ∙ by x
    ∙ ap (λ a. option_map (λ v. option_or v a) x) (sym is)
  where
    by : (x : Option (Option ℕ)) → option_map (λ v. option_or v later) (option_map (λ v. option_or v here) x)
        ≡ option_map (λ v. option_or v (option_or here later)) x
    by None = refl
    by (Some None) = refl
    by (Some (Some v)) = refl

-- before the first symbol no name has a value
pub starts : (all value : Option ℕ) (x : Option (Option ℕ)) → ((v : Option ℕ) → x ≡ Some v → v ≡ None) → all ≡ value
    → option_map (λ v. option_or v all) x ≡ option_map (λ _. value) x
starts all value None none is = refl
starts all value (Some v) none is = ap (λ (v : Option ℕ). Some (option_or v all)) (none v refl) ∙ ap Some is

-- no value gives way to a new one, and a value stays
pub none-or : (v : Option ℕ) (value : ℕ) → is_some v ≡ false → Some value ≡ option_or v (Some value)
none-or None value none = refl
none-or (Some w) value none = absurd (let r : ⊥ = cc in r)

pub some-or : (v : Option ℕ) (value : ℕ) → is_some v ≡ true → v ≡ option_or v (Some value)
some-or None value some = absurd (let r : ⊥ = cc in r)
some-or (Some w) value some = refl

-- the name at the first zero byte among so many bytes, after which no name that is short enough begins
pub found-name : (strings name : List ℕ) (most longest : ℕ) → most ≤ length strings → length name ≤ longest
    → (most ≡ longest + 1) ⊎ (most ≡ length strings)
    → (r : Option ℕ) → IsFirstByte (is_byte 0) (take most strings) r
    → begins_with_name strings name ≡ option_map_or (λ end. bytes_eq (take end strings) name) r false
found-name strings name most longest inside short ends (Some end) h =
    let below : end < most = omega (arith, h.0.high, length-take-le most strings inside) in
    ap (λ found. option_map_or (λ n. bytes_eq n name) found false)
    (name-ends strings end (omega arith) (sym (get_or-take most strings end 0 below) ∙ eqb-true _ 0 h.1)
    (λ j lt zero. h.0.before j (omega arith) lt (eq-eqb _ 0 (get_or-take most strings j 0 (omega arith) ∙ zero))))
found-name strings name most longest inside short ends None h =
    name-later strings name (λ j le lt zero.
    let below : j < most = ⊎_elim (λ (e : most ≡ longest + 1). omega arith) (λ (e : most ≡ length strings). omega arith) ends in
    h j (omega arith) (omega (arith, length-take-le most strings inside)) (eq-eqb _ 0 (get_or-take most strings j 0 below ∙ zero)))

-- equality of bytes goes both ways
bytes_eq-sym : (xs ys : List ℕ) → bytes_eq xs ys ≡ bytes_eq ys xs
bytes_eq-sym xs ys =
    same_from_decides (bytes_eq xs ys) (bytes_eq ys xs) (bytes_eq-Decides xs ys)
    (Decides-like (bytes_eq ys xs) sym sym (bytes_eq-Decides ys xs))

-- one more name is asked for
pub asked-more : (names : List (Bor (List ℕ))) (i : ℕ) (d : Bor (List ℕ)) (q : List ℕ) (x y : Option (Option ℕ)) → i < length names
    → x ≡ cond (list_any (λ n. bytes_eq q n.now) (take i names)) (Some None) None
    → y ≡ cond (bytes_eq (get_or names i d).now q) (Some None) x
    → y ≡ cond (list_any (λ n. bytes_eq q n.now) (take (i + 1) names)) (Some None) None
asked-more names i d q x y lt before told =
    told ∙ ap (λ x. cond (bytes_eq (get_or names i d).now q) (Some None) x) before
    ∙ by (list_any (λ n. bytes_eq q n.now) (take i names)) (bytes_eq (get_or names i d).now q) (Some None) None
    ∙ ap (λ t. cond (list_any (λ n. bytes_eq q n.now) (take i names) || (t || false)) (Some None) None)
    (bytes_eq-sym (get_or names i d).now q)
    ∙ sym (ap (λ t. cond t (Some None) None) (ap (list_any (λ n. bytes_eq q n.now)) (take_more names i d lt)
    ∙ list_any-append (λ n. bytes_eq q n.now) (take i names) (get_or names i d ∷ [])))
  where
    by : (a b : Bool) (x y : Option (Option ℕ)) → cond b x (cond a x y) ≡ cond (a || (b || false)) x y
    by true true x y = refl
    by true false x y = refl
    by false true x y = refl
    by false false x y = refl

-- which names are told, and that their values hold
pub found-names : (asked : Bool) (value : Option ℕ) (x y : Option (Option ℕ)) → x ≡ cond asked (Some None) None
    → y ≡ option_map (λ _. value) x → is_some y ≡ asked
found-names asked value x y before told = ap is_some (told ∙ ap (option_map (λ _. value)) before) ∙ by asked
  where
    by : (t : Bool) → is_some (option_map (λ (_ : Option ℕ). value) (cond t (Some None) None)) ≡ t
    by true = refl
    by false = refl

pub found-values : (value v : Option ℕ) (x : Option (Option ℕ)) → option_map (λ _. value) x ≡ Some v → v ≡ value
found-values value v None e = absurd (let r : ⊥ = cc in r)
found-values value v (Some w) e = cc

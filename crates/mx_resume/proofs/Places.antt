-- What is known of the next item of a list by those before it: runs, blocks, gates and names.
use Rattle.std.proofs.Common.{◌≡◌, ℕ, ◌+◌, ◌<◌, ◌≤◌, ◌==◌, Bool, true, false, not, cond, ◌&&◌, ◌||◌, nat_lt, nat_le, List, [], ◌∷◌, ◌++◌}
use Rattle.std.proofs.Common.{length, Some, None, refl, ap, ◌∙◌, subst, arith, if◌then◌else◌, length-append, leb-true, ltb-true, eqb-true}
use Rattle.std.specs.Prelude.{option_map, find}
use Rattle.std.specs.Prelude.{map as list_map}
use Rattle.std.specs.List.{list_any}
use Rattle.std.specs.Option.{is_some, option_map_or}
use Rattle.std.specs.Str.{bytes_eq}
use Rattle.std.proofs.lemmas.Bool.{and_parts}
use Rattle.std.proofs.lemmas.Bool.Decides.{nat_tests}
use Rattle.mx_words.specs.declared.perm.Perm.{Perm}
use Rattle.mx_words.specs.declared.perm.Perm.TheVariants as P
use Rattle.mx_words.specs.FirstFit.{Area}
use Rattle.mx_words.specs.Runs.{Run}
use Rattle.mx_model.specs.declared.values.Gate.{Gate}
use Rattle.mx_model.specs.Gates.{gate_target, has_gate, is_at, no_gate_fits, without_gate}
use Rattle.mx_snapshot.specs.Resuming.{spans_in}
use Rattle.mx_snapshot.specs.Rules.{behind}
use Rattle.mx_snapshot.specs.Stored.{StoredModule}
use Rattle.mx_resume.specs.Extents.{fills, last_value}
use Rattle.mx_snapshot.proofs.ValidLists.{last-push as last_more}

pub value_more : {A : Type 0} (before : List (Run A)) (r : Run A) → last_value (before ++ r ∷ []) ≡ Some r.value
value_more before r = ap (option_map (λ (x : Run _). x.value)) (last_more None before r)

pub count_more : {A : Type 0} (xs : List A) (x : A) → length (xs ++ x ∷ []) ≡ length xs + 1
count_more xs x = length-append xs (x ∷ [])

pub fills_inside : (words runs read filled count : ℕ) → fills words runs read filled count ≡ true → (0 < count) × (filled + count ≤ words)
fills_inside words runs read filled count e =
    let p = and_parts (nat_lt 0 count) _ e in
    (ltb-true 0 count p.0, chosen (filled + count) (read + 1 == runs) p.1) where
      chosen : (end : ℕ) (c : Bool) → (if c then end == words else nat_le end words) ≡ true → end ≤ words
      chosen end true h = omega (arith, eqb-true end words h)
      chosen end false h = leb-true end words h

pub fills_last : (words runs read filled count : ℕ) → read + 1 ≡ runs → fills words runs read filled count ≡ true → filled + count ≡ words
fills_last words runs read filled count last e =
    let p = and_parts (nat_lt 0 count) _ e in
    let c : (read + 1 == runs) ≡ true = grind (arith, last) in
    eqb-true (filled + count) words (subst (λ (b : Bool). (if b then filled + count == words else nat_le (filled + count) words) ≡ true) c
    p.1)

-- a run is at most one span
pub spans_one : (first : ℕ) (r : Run Perm) → length (spans_in first (r ∷ [])) ≤ 1
spans_one first r = by r.value where
  by : (p : Perm) → length (spans_in first (record { count = r.count; value = p } ∷ [])) ≤ 1
  by P.None = omega arith
  by P.Read = omega arith
  by P.ReadWrite = omega arith
  by P.ExecuteRead = omega arith

-- blocks
pub behind_more : (heap : Area) (before : List Area) (b : Area) → behind heap (before ++ b ∷ []) ≡ b.first + b.count
behind_more heap before b = ap (λ o. option_map_or (λ (x : Area). x.first + x.count) o heap.first) (last_more None before b)

-- gates
target_first : (g : Gate) (gs : List Gate) (domain word : ℕ) (b : Bool)
    → is_some (option_map (λ (x : Gate). x.target) (find (is_at domain word) gs)) ≡ has_gate gs domain word →
    is_some (option_map (λ (x : Gate). x.target) (cond b (Some g) (find (is_at domain word) gs))) ≡ (b || has_gate gs domain word)
target_first g gs domain word true rest = refl
target_first g gs domain word false rest = rest

pub target_there : (gates : List Gate) (domain word : ℕ) → is_some (gate_target gates domain word) ≡ has_gate gates domain word
target_there [] domain word = refl
target_there (g ∷ gs) domain word = target_first g gs domain word (is_at domain word g) (target_there gs domain word)

kept_first : (g : Gate) (gs : List Gate) (domain word : ℕ) (b : Bool) → (has_gate gs domain word ≡ false → without_gate domain word gs ≡ gs)
    → (b || has_gate gs domain word) ≡ false →
    cond (not b) (g ∷ without_gate domain word gs) (without_gate domain word gs) ≡ g ∷ gs
kept_first g gs domain word true rest f = cc
kept_first g gs domain word false rest f = ap (λ (xs : List Gate). g ∷ xs) (rest f)

pub none_left_out : (domain word : ℕ) (gs : List Gate) → has_gate gs domain word ≡ false → without_gate domain word gs ≡ gs
none_left_out domain word [] h = refl
none_left_out domain word (g ∷ gs) h = kept_first g gs domain word (is_at domain word g) (none_left_out domain word gs) h

-- names
pub known_named : (before : List StoredModule) (name : List ℕ)
    → list_any (λ (n : List ℕ). bytes_eq n name) (list_map (λ (m : StoredModule). m.name) before)
    ≡ list_any (λ (m : StoredModule). bytes_eq m.name name) before
known_named [] name = refl
known_named (m ∷ ms) name = ap (λ (b : Bool). bytes_eq m.name name || b) (known_named ms name)

-- there is room for one gate more
pub room_left : (gates : List Gate) (domain word : ℕ) → length gates < 256 → no_gate_fits gates domain word ≡ false
room_left gates domain word lt = ap (λ (b : Bool). b && not (has_gate gates domain word)) (below (length gates) lt) where
  below : (n : ℕ) → n < 256 → nat_le 256 n ≡ false
  below n lt = grind (arith, nat_tests)

-- Texts without blanks, marks and quotes, as the words, registers and numbers of a statement are.
use Rattle.std.proofs.Common.{◌≡◌, ◌==◌, ℕ, ◌+◌, ◌<◌, Bool, true, false, not, ◌&&◌, List, [], ◌∷◌, ◌++◌, length, map, reverse, refl, ap}
use Rattle.std.proofs.Common.{sym, ◌∙◌, arith, nat_lt, zero-add, append_assoc}
use Rattle.std.specs.List.{list_all, onto_first, AllByRecursion}
use Rattle.std.proofs.lemmas.Bool.{ltb-true, ne_eqb, and_parts, and_from, or_from, not-true}
use Rattle.std.proofs.lemmas.List.{append-nil, reverse-append, reverse-reverse, length-append, length-reverse}
use Rattle.std.proofs.lemmas.List.Folds.{list_all-append}
use Rattle.mx_source.specs.declared.characters.Quotes.TheVariants.{Outside}
use Rattle.mx_source.specs.Characters.{is_blank, trim_start, trim_end, trim, mark_place, parts}
use Rattle.mx_source.proofs.Steps.{parts-first}

-- no blank, no end of a line, no quote, no mark
abbrev pub is_solid : ℕ → Bool
is_solid c = nat_lt 32 c && not (c == 34) && not (c == 35) && not (c == 44) && not (c == 58)

-- no round bracket
abbrev pub is_free : ℕ → Bool
is_free c = not (c == 40) && not (c == 41)

pub record IsSolid (c : ℕ) : Type 0 where
  pub blank : is_blank c ≡ false
  pub ends : (c == 10) ≡ false
  pub quote : (c == 34) ≡ false
  pub hash : (c == 35) ≡ false
  pub comma : (c == 44) ≡ false
  pub colon : (c == 58) ≡ false

pub solid : (c : ℕ) → is_solid c ≡ true → IsSolid c
solid c h =
    let a = and_parts (nat_lt 32 c && not (c == 34) && not (c == 35) && not (c == 44)) (not (c == 58)) h in
    let b = and_parts (nat_lt 32 c && not (c == 34) && not (c == 35)) (not (c == 44)) a.0 in
    let d = and_parts (nat_lt 32 c && not (c == 34)) (not (c == 35)) b.0 in
    let e = and_parts (nat_lt 32 c) (not (c == 34)) d.0 in
    let more = ltb-true 32 c e.0 in
    record {
      blank = or_from (c == 32) (c == 9) (ne_eqb c 32 (λ z. omega (arith, z, more))) (ne_eqb c 9 (λ z. omega (arith, z, more)));
      ends = ne_eqb c 10 (λ z. omega (arith, z, more));
      quote = not-true (c == 34) e.1;
      hash = not-true (c == 35) d.1;
      comma = not-true (c == 44) b.1;
      colon = not-true (c == 58) a.1;
    }

-- a text of such characters, at least one
pub record IsPart (text : List ℕ) : Type 0 where
  pub some : 0 < length text
  pub all : list_all is_solid text ≡ true

module _ (mark : ℕ) (away : (c : ℕ) → IsSolid c → (c == mark) ≡ false) where
  pub mark-solid : (xs rest : List ℕ) → list_all is_solid xs ≡ true
      → mark_place mark Outside (xs ++ rest) ≡ length xs + mark_place mark Outside rest
  mark-solid [] rest h = sym (zero-add (mark_place mark Outside rest))
  mark-solid (c ∷ cs) rest h =
      let p = and_parts (is_solid c) (list_all is_solid cs) h in
      let s = solid c p.0 in
      rw (away c s, s.quote) (omega (arith, mark-solid cs rest p.1))

-- statements' operands, with commas between
abbrev pub joined : List (List ℕ) → List ℕ
joined [] = []
joined (o ∷ []) = o
joined (o ∷ p ∷ os) = o ++ 44 ∷ 32 ∷ joined (p ∷ os)

abbrev pub AreParts : List (List ℕ) → Type 0
AreParts os = AllByRecursion IsPart os

pub hash_away : (c : ℕ) → IsSolid c → (c == 35) ≡ false
hash_away c s = s.hash

pub hash-joined : (os : List (List ℕ)) → AreParts os → mark_place 35 Outside (joined os) ≡ length (joined os)
hash-joined [] h = refl
hash-joined (o ∷ []) h = omega (arith, rw append-nil at (mark-solid 35 hash_away o [] h.0.all))
hash-joined (o ∷ p ∷ os) h =
    let rest = hash-joined (p ∷ os) h.1 in
    let here = mark-solid 35 hash_away o (44 ∷ 32 ∷ joined (p ∷ os)) h.0.all in
    omega (arith, here, rest, length-append o (44 ∷ 32 ∷ joined (p ∷ os)))

-- the parts between commas
parts-solid : (xs rest : List ℕ) → list_all is_solid xs ≡ true → parts 44 Outside (xs ++ 44 ∷ rest) ≡ xs ∷ parts 44 Outside rest
parts-solid [] rest h = refl
parts-solid (c ∷ cs) rest h =
    let p = and_parts (is_solid c) (list_all is_solid cs) h in
    let s = solid c p.0 in
    rw (s.comma, s.quote) (ap (onto_first c) (parts-solid cs rest p.1))

parts-end : (xs : List ℕ) → list_all is_solid xs ≡ true → parts 44 Outside xs ≡ xs ∷ []
parts-end [] h = refl
parts-end (c ∷ cs) h =
    let p = and_parts (is_solid c) (list_all is_solid cs) h in
    let s = solid c p.0 in
    rw (s.comma, s.quote) (ap (onto_first c) (parts-end cs p.1))

-- trimming leaves such texts
pub start-solid : (r rest : List ℕ) → IsPart r → trim_start (r ++ rest) ≡ r ++ rest
start-solid [] rest h = absurd (omega (arith, h.some))
start-solid (c ∷ cs) rest h = let s = solid c (and_parts (is_solid c) (list_all is_solid cs) h.all).0 in rw s.blank refl

all_reverse : (xs : List ℕ) → list_all is_solid xs ≡ true → list_all is_solid (reverse xs) ≡ true
all_reverse [] h = refl
all_reverse (c ∷ cs) h =
    let p = and_parts (is_solid c) (list_all is_solid cs) h in
    rw (reverse-append (c ∷ []) cs, list_all-append) (and_from (list_all is_solid (reverse cs)) (list_all is_solid (c ∷ []))
    (all_reverse cs p.1) (and_from (is_solid c) true p.0 refl))

pub end-solid : (xs o : List ℕ) → IsPart o → trim_end (xs ++ o) ≡ xs ++ o
end-solid xs o h =
    let r : IsPart (reverse o) = record { some = omega (arith, h.some, length-reverse o); all = all_reverse o h.all } in
    rw (reverse-append xs o, start-solid (reverse o) (reverse xs) r) (ap reverse (sym (reverse-append xs o)) ∙ reverse-reverse (xs ++ o))

pub trim-solid : (o : List ℕ) → IsPart o → trim o ≡ o
trim-solid o h = let e = rw append-nil at (start-solid o [] h) in rw e (end-solid [] o h)

blank_first : (r : List ℕ) → map trim (onto_first 32 (parts 44 Outside r)) ≡ map trim (parts 44 Outside r)
blank_first r = rw (parts-first 44 Outside r) refl

pub pieces-joined : (os : List (List ℕ)) → AreParts os → 0 < length os → map trim (parts 44 Outside (joined os)) ≡ os
pieces-joined [] h more = absurd (omega arith)
pieces-joined (o ∷ []) h more = rw (parts-end o h.0.all) (ap (λ x. x ∷ []) (trim-solid o h.0))
pieces-joined (o ∷ p ∷ os) h more =
    let rest = pieces-joined (p ∷ os) h.1 (omega arith) in
    rw (parts-solid o (32 ∷ joined (p ∷ os)) h.0.all, trim-solid o h.0) (ap (λ l. o ∷ l) (blank_first (joined (p ∷ os)) ∙ rest))

-- operands end with the last one
pub record IsEnding (text : List ℕ) : Type 0 where
  pub front : List ℕ
  pub last : List ℕ
  pub is : text ≡ front ++ last
  pub part : IsPart last

pub ending : (os : List (List ℕ)) → AreParts os → 0 < length os → IsEnding (joined os)
ending [] h more = absurd (omega arith)
ending (o ∷ []) h more = record { front = []; last = o; is = refl; part = h.0 }
ending (o ∷ p ∷ os) h more =
    let e = ending (p ∷ os) h.1 (omega arith) in
    record {
      front = o ++ 44 ∷ 32 ∷ e.front;
      last = e.last;
      is = ap (λ l. o ++ 44 ∷ 32 ∷ l) e.is
          ∙ sym (append_assoc o (44 ∷ 32 ∷ e.front) e.last);
      part = e.part;
    }

begin_at : (o : List ℕ) (os : List (List ℕ)) → AreParts (o ∷ os) → (c : ℕ) × (cs : List ℕ) × (joined (o ∷ os) ≡ c ∷ cs) × IsSolid c
begin_at [] os h = absurd (omega (arith, h.0.some))
begin_at (c ∷ cs) [] h = (c, cs, refl, solid c (and_parts (is_solid c) (list_all is_solid cs) h.0.all).0)
begin_at (c ∷ cs) (p ∷ os) h = (c, cs ++ 44 ∷ 32 ∷ joined (p ∷ os), refl, solid c (and_parts (is_solid c) (list_all is_solid cs) h.0.all).0)

-- and begin with such a character
pub beginning : (os : List (List ℕ)) → AreParts os → 0 < length os → (c : ℕ) × (cs : List ℕ) × (joined os ≡ c ∷ cs) × IsSolid c
beginning [] h more = absurd (omega arith)
beginning (o ∷ os) h more = begin_at o os h

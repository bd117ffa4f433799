-- One step of each walk through a text.
use Rattle.std.proofs.Common.{◌≡◌, ◌==◌, ℕ, ◌+◌, ◌<◌, ◌≤◌, Bool, true, false, cond, List, [], ◌∷◌, length, get_or, take, drop, reverse}
use Rattle.std.proofs.Common.{refl, suc, nat_lt, add-one, ap, sym, ◌∙◌, arith, map}
use Rattle.std.proofs.lemmas.List.{at_drop_more, at_drop_all, length-map, length-reverse, length-take}
use Rattle.std.proofs.lemmas.Bool.{ne_eqb}
use Rattle.mx_source.specs.OperandViews.{later_parts}
use Rattle.mx_source.specs.Operands.{pieces_of}
use Rattle.std.proofs.lemmas.Bool.Decides.{nat_tests}
use Rattle.std.specs.List.{onto_first}
use Rattle.mx_source.specs.declared.characters.Quotes.{Quotes}
use Rattle.mx_source.specs.declared.characters.Quotes.TheVariants.{Outside}
use Rattle.mx_source.specs.Characters.{is_blank, trim_start, trim, quotes_after, is_mark, mark_place, parts}

-- what stands before the first mark in the rest of a text
pub mark_place-drop : (mark : ℕ) (quotes : Quotes) (text : List ℕ) (i : ℕ) → i < length text
    → mark_place mark quotes (drop i text) ≡ cond (is_mark mark quotes (get_or text i 0)) 0
    (mark_place mark (quotes_after quotes (get_or text i 0)) (drop (i + 1) text) + 1)
mark_place-drop mark quotes text i h = at_drop_more (mark_place mark quotes) text i 0 h

pub mark_place-end : (mark : ℕ) (quotes : Quotes) (text : List ℕ) → mark_place mark quotes (drop (length text) text) ≡ 0
mark_place-end mark quotes text = at_drop_all (mark_place mark quotes) text (length text) (omega arith)

-- the rest of a text without blanks at its front
pub trim_start-drop : (text : List ℕ) (i : ℕ) → i < length text
    → trim_start (drop i text) ≡ cond (is_blank (get_or text i 0)) (trim_start (drop (i + 1) text)) (get_or text i 0 ∷ drop (i + 1) text)
trim_start-drop text i h = at_drop_more trim_start text i 0 h

pub trim_start-end : (text : List ℕ) → trim_start (drop (length text) text) ≡ []
trim_start-end text = at_drop_all trim_start text (length text) (omega arith)

less_by_one : (n m : ℕ) → nat_lt (n + 1) (suc m) ≡ nat_lt n m
less_by_one n m = grind (arith, nat_tests)

later-cons : (mark c : ℕ) (cs : List ℕ) (n : ℕ) → later_parts mark (c ∷ cs) (n + 1) ≡ later_parts mark cs n
unfolding later_parts
later-cons mark c cs n = rw (less_by_one n (length cs), add-one (n + 1)) refl

zero_less : (m : ℕ) → nat_lt 0 (suc m) ≡ true
zero_less m = grind (arith, nat_tests)

later-front : (mark c : ℕ) (cs : List ℕ) → later_parts mark (c ∷ cs) 0 ≡ parts mark Outside cs
unfolding later_parts
later-front mark c cs = rw (zero_less (length cs)) refl

-- the first part is what stands before the first mark
pub parts-first : (mark : ℕ) (quotes : Quotes) (text : List ℕ)
    → parts mark quotes text ≡ take (mark_place mark quotes text) text ∷ later_parts mark text (mark_place mark quotes text)
unfolding later_parts
parts-first mark quotes [] = refl
parts-first mark quotes (c ∷ cs) =
    let n = mark_place mark (quotes_after quotes c) cs in
    elim (is_mark mark quotes c) as (λ b. cond b ([] ∷ parts mark Outside cs) (onto_first c (parts mark (quotes_after quotes c) cs))
    ≡ take (cond b 0 (n + 1)) (c ∷ cs) ∷ later_parts mark (c ∷ cs) (cond b 0 (n + 1))) [
      | true ↦ ap (λ l. [] ∷ l) (sym (later-front mark c cs))
      | false ↦ ap (onto_first c) (parts-first mark (quotes_after quotes c) cs)
          ∙ sym (ap (λ m. take m (c ∷ cs) ∷ later_parts mark (c ∷ cs) (n + 1)) (add-one n)
          ∙ ap (λ l. take (suc n) (c ∷ cs) ∷ l) (later-cons mark c cs n))
    ]

-- the first operand of a text, and the later ones
pub pieces-first : (text : List ℕ)
    → map trim (parts 44 Outside text) ≡ trim (take (mark_place 44 Outside text) text)
    ∷ map trim (later_parts 44 text (mark_place 44 Outside text))
pieces-first text = ap (map trim) (parts-first 44 Outside text)

-- there is always a part, so there is an operand where there is text
pub pieces-some : (operands : List ℕ) → (length operands == 0) ≡ false
    → pieces_of operands ≡ trim (take (mark_place 44 Outside operands) operands)
    ∷ map trim (later_parts 44 operands (mark_place 44 Outside operands))
unfolding pieces_of
pieces-some operands some = rw some (pieces-first operands)

pub length-parts : (mark : ℕ) (quotes : Quotes) (text : List ℕ) → length (parts mark quotes text) ≤ length text + 1
length-parts mark quotes [] = omega arith
length-parts mark quotes (c ∷ cs) =
    elim (is_mark mark quotes c) as (λ b. length (cond b ([] ∷ parts mark Outside cs)
    (onto_first c (parts mark (quotes_after quotes c) cs))) ≤ length (c ∷ cs) + 1) [
      | true ↦ omega (arith, length-parts mark Outside cs)
      | false ↦ let e = parts-first mark (quotes_after quotes c) cs in
          rw e (omega (arith, length-parts mark (quotes_after quotes c) cs, ap length e))
    ]

pub length-pieces : (operands : List ℕ) → length (pieces_of operands) ≤ length operands + 1
unfolding pieces_of
length-pieces operands =
    elim (length operands == 0) as (λ b. length (cond b [] (map trim (parts 44 Outside operands))) ≤ length operands + 1)
    [ true ↦ omega arith | false ↦ rw length-map (length-parts 44 Outside operands) ]

-- a trimmed text isn't longer
length-trim_start : (text : List ℕ) → length (trim_start text) ≤ length text
length-trim_start [] = omega arith
length-trim_start (c ∷ cs) =
    elim (is_blank c) as (λ b. length (cond b (trim_start cs) (c ∷ cs)) ≤ length (c ∷ cs)) [
      | true ↦
          omega (arith, length-trim_start cs)
      | false ↦ omega arith
    ]

pub length-trim : (text : List ℕ) → length (trim text) ≤ length text
length-trim text =
    let r = trim_start text in
    rw (length-reverse (trim_start (reverse r))) (omega (arith, length-trim_start (reverse r), length-reverse r, length-trim_start text))

elim_first : (operands first : List ℕ) (more : List (List ℕ)) → pieces_of operands ≡ first ∷ more → (b : Bool) → (length operands == 0) ≡ b
    → length first ≤ length operands
unfolding pieces_of
elim_first operands first more e true h = cc (rw h at e)
elim_first operands first more e false h =
    let same : first ≡ trim (take (mark_place 44 Outside operands) operands) = cc (pieces-some operands h) in
    rw same (omega (
      arith,
      length-trim (take (mark_place 44 Outside operands) operands),
      length-take (mark_place 44 Outside operands)
          operands,
    ))

-- nor is the first of the operands
pub length-first : (operands first : List ℕ) (more : List (List ℕ)) → pieces_of operands ≡ first ∷ more → length first ≤ length operands
length-first operands first more e =
    elim_first operands first more e (length operands == 0) refl

some_length : (first : List ℕ) (more : List (List ℕ)) → (length (first ∷ more) == 0) ≡ false
some_length first more = ne_eqb (suc (length more)) 0 (λ e. omega (arith, e))

pieces_at : (operands : List ℕ) → (b : Bool) → (length operands == 0) ≡ b → (length (pieces_of operands) == 0) ≡ b
unfolding pieces_of
pieces_at operands true h = rw h refl
pieces_at operands false h = rw (pieces-some operands h) (some_length (trim (take (mark_place 44 Outside operands) operands))
    (map trim (later_parts 44 operands (mark_place 44 Outside operands))))

-- there are operands exactly where there is text
pub pieces-empty : (operands : List ℕ) → (length (pieces_of operands) == 0) ≡ (length operands == 0)
pieces-empty operands = pieces_at operands (length operands == 0) refl

pub ruleset mark_steps = (mark_place-drop, mark_place-end)

pub ruleset trim_steps = (trim_start-drop, trim_start-end)

pub ruleset piece_steps = (pieces-first)

pub ruleset count_steps = (length-pieces)

pub ruleset single_steps = (length-first)

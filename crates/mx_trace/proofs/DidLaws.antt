-- The line of what a turn did, field by field.
use Rattle.std.proofs.Common.{◌≡◌, ℕ, ◌+◌, ◌-◌, ◌<◌, ◌≤◌, ◌≢◌, List, [], ◌∷◌, ◌++◌, length, codes, slice_index, flat_map, refl, sym, ap}
use Rattle.std.proofs.Common.{◌∙◌, arith, append_assoc, length-append}
use Rattle.std.specs.List.{range_with_len}
use Rattle.mx_trace.specs.Did.{Deed, call_text, change_text, changes_text, domain_text, fields, line_of, note_text, ran_text}
use Rattle.mx_tail.proofs.PassLaws.{range_next}

-- of the registers from i on
abbrev pub rest_text : List ℕ → List ℕ → ℕ → List ℕ
rest_text before after i = flat_map (λ i. change_text i (slice_index before i) (slice_index after i)) (range_with_len i (32 - i))

changes_whole : (before after : List ℕ) → changes_text before after ≡ rest_text before after 0
unfolding changes_text
changes_whole before after = refl

rest_next : (before after : List ℕ) (i : ℕ) → i < 32
    → rest_text before after i ≡ change_text i (slice_index before i) (slice_index after i) ++ rest_text before after (i + 1)
rest_next before after i h = range_next _ i (32 - i) (32 - (i + 1)) (omega (arith, h))

-- the registers from i on stand before what was there: none yet, one more, and all
pub rest_none : (before after : List ℕ) (old : List ℕ) → old ≡ rest_text before after 32 ++ old
rest_none before after old = refl

pub rest_more : (before after : List ℕ) (i k : ℕ) (old : List ℕ) {line next : List ℕ} → i ≡ k + 1 → i ≤ 32
    → line ≡ rest_text before after i ++ old
    → next ≡ change_text k (slice_index before k) (slice_index after k) ++ line
    → next ≡ rest_text before after k ++ old
rest_more before after i k old e h p q =
    let one = change_text k (slice_index before k) (slice_index after k) in
    q ∙ ap (λ xs. one ++ xs) p ∙ sym (append_assoc one (rest_text before after i) old)
    ∙ ap (λ xs. xs ++ old) (ap (λ j. one ++ rest_text before after j) e ∙ sym (rest_next before after k (omega (arith, e, h))))

pub rest_all : (before after : List ℕ) (i : ℕ) (old : List ℕ) {line : List ℕ} → i ≤ 0 → line ≡ rest_text before after i ++ old
    → line ≡ changes_text before after ++ old
rest_all before after i old h p =
    let e : i ≡ 0 = omega (arith, h) in
    p ∙ ap (λ j. rest_text before after j ++ old) e ∙ ap (λ xs. xs ++ old) (sym (changes_whole before after))

-- the fields part by part
fields_parts : (d : Deed)
    → fields d ≡ note_text d.note ++ (call_text d.kind d.after.waits d.before.regs
    ++ (ran_text d.kind d.inst d.before.regs ++ (domain_text d.before.domain d.after.domain
    ++ (changes_text d.before.regs d.after.regs ++ []))))
unfolding fields
fields_parts d = refl

five_before : (a b c d e old : List ℕ) → (a ++ (b ++ (c ++ (d ++ (e ++ []))))) ++ old ≡ a ++ (b ++ (c ++ (d ++ (e ++ old))))
five_before a b c d e old = simp append_assoc

pub fields_before : (d : Deed) (l : List ℕ) {m n o p q : List ℕ} → m ≡ changes_text d.before.regs d.after.regs ++ l
    → n ≡ domain_text d.before.domain d.after.domain ++ m
    → o ≡ ran_text d.kind d.inst d.before.regs ++ n → p ≡ call_text d.kind d.after.waits d.before.regs ++ o → q ≡ note_text d.note ++ p
    → q ≡ fields d ++ l
fields_before d l e f g h i =
    let note = note_text d.note in
    let call = call_text d.kind d.after.waits d.before.regs in
    let ran = ran_text d.kind d.inst d.before.regs in
    let domain = domain_text d.before.domain d.after.domain in
    i ∙ ap (λ xs. note ++ xs) (h ∙ ap (λ xs. call ++ xs) (g ∙ ap (λ xs. ran ++ xs) (f ∙ ap (λ xs. domain ++ xs) e)))
    ∙ sym (ap (λ xs. xs ++ l) (fields_parts d) ∙ five_before note call ran domain (changes_text d.before.regs d.after.regs) l)

-- the line of fields before its end
pub line_none : (t : List ℕ) {line : List ℕ} → line ≡ t ++ codes "\n" → length line ≡ 1 → line_of t ≡ []
line_none [] e h = refl
line_none (x ∷ t) e h = absurd (omega (arith, ap length e, h, length-append t (codes "\n")))

pub line_some : (t : List ℕ) {line : List ℕ} → line ≡ t ++ codes "\n" → length line ≢ 1 → codes "did" ++ line ≡ line_of t
line_some [] e h = absurd (h (ap length e))
line_some (x ∷ t) e h = ap (λ xs. codes "did" ++ xs) e

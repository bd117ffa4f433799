-- The label of a line is a name, and what a name's bytes are.
use Rattle.std.proofs.Common.{◌≡◌, ◌≢◌, ◌==◌, ℕ, ◌<◌, ◌≤◌, Bool, true, false, cond, ◌&&◌, List, [], ◌∷◌, length, drop, slice_index, refl}
use Rattle.std.proofs.Common.{arith, Option, None, Some, IfSome, nat_le}
use Rattle.std.specs.List.{list_all, take_while, AllByRecursion}
use Rattle.std.proofs.lemmas.Bool.{leb-true, and_parts}
use Rattle.mx_source.specs.Characters.{begins_name, is_in_name, is_in_word, trim, trim_start, without_comment}
use Rattle.mx_source.specs.Operands.{is_name, is_operand, pieces_of}
use Rattle.mx_source.specs.Lines.{Absent, other_form, is_word, statement_of, line_with_word, line_with_label, line_with_name, line_by_colon}
use Rattle.mx_source.specs.Lines.{trimmed_line, line_of}

-- a label is a name, where there is one
abbrev pub IsNamed : Option (List ℕ) → Type 0
IsNamed label = IfSome label (λ name. is_name name ≡ true)

named_word : (label : Option (List ℕ)) (word operands : List ℕ) → IsNamed label → IsNamed (line_with_word label word operands).label
unfolding line_with_word
named_word label word operands h =
    elim (is_word word && list_all is_operand (pieces_of operands)) as (λ b.
    IsNamed (cond b (record { label = label; statement = statement_of word (pieces_of operands) }) (other_form label)).label)
    [ true ↦ h | false ↦ h ]

named_at : (label : Option (List ℕ)) (text : List ℕ) → IsNamed label → (b : Bool)
    → IsNamed (cond b (record { label = label; statement = Absent })
    (line_with_word label (take_while is_in_word text) (trim_start (drop (length (take_while is_in_word text)) text)))).label
named_at label text h true = h
named_at label text h false = named_word label (take_while is_in_word text) (trim_start (drop (length (take_while is_in_word text)) text)) h

named_label : (label : Option (List ℕ)) (text : List ℕ) → IsNamed label → IsNamed (line_with_label label text).label
unfolding line_with_label
named_label label text h = named_at label text h (length text == 0)

named_name : (name text : List ℕ) (b : Bool) → is_name name ≡ b
    → IsNamed (cond b (line_with_label (Some name) text) (other_form None)).label
named_name name text true h = named_label (Some name) text h
named_name name text false h = tt

named_with : (name text : List ℕ) → IsNamed (line_with_name name text).label
unfolding line_with_name
named_with name text = named_name name text (is_name name) refl

named_colon : (name after text : List ℕ) → IsNamed (line_by_colon name after text).label
unfolding line_by_colon
named_colon name after text =
    elim (slice_index after 0 == 58) as (λ b. IsNamed (cond b (line_with_name name (trim_start (drop 1 after)))
    (line_with_label None text)).label)
    [ true ↦ named_with name (trim_start (drop 1 after)) | false ↦ named_label None text tt ]

named_trimmed : (text : List ℕ) → IsNamed (trimmed_line text).label
unfolding trimmed_line
named_trimmed text = named_colon (take_while is_in_name text) (trim_start (drop (length (take_while is_in_name text)) text)) text

pub named_line : (text : List ℕ) → IsNamed (line_of text).label
unfolding line_of
named_line text = named_trimmed (trim (without_comment text))

-- a name has 1 to 64 bytes, and none is zero
pub length-name : (name : List ℕ) → is_name name ≡ true → (0 < length name) × (length name ≤ 64)
unfolding is_name
length-name [] h = cc
length-name (c ∷ cs) h =
    let p = and_parts (nat_le (length (c ∷ cs)) 64 && begins_name c) (list_all is_in_name (c ∷ cs)) h in
    let q = and_parts (nat_le (length (c ∷ cs)) 64) (begins_name c) p.0 in
    (omega arith, leb-true (length (c ∷ cs)) 64 q.0)

no_zero : (cs : List ℕ) → list_all is_in_name cs ≡ true → AllByRecursion (λ b. b ≢ 0) cs
no_zero [] h = tt
no_zero (c ∷ cs) h =
    let p = and_parts (is_in_name c) (list_all is_in_name cs) h in
    (λ e. absurd (let z : is_in_name 0 ≡ true = rw e at p.0 in cc), no_zero cs p.1)

pub no_zero-name : (name : List ℕ) → is_name name ≡ true → AllByRecursion (λ b. b ≢ 0) name
unfolding is_name
no_zero-name name h = no_zero name (and_parts (nat_le (length name) 64 && begins_name (slice_index name 0)) (list_all is_in_name name) h).1

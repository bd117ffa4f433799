-- How the line of a word and operands is split.
use Rattle.std.proofs.Common.{◌≡◌, ◌==◌, ℕ, suc, ◌<◌, Bool, true, false, ◌&&◌, List, [], ◌∷◌, ◌++◌, length, drop, slice_index, refl, ap}
use Rattle.std.proofs.Common.{sym, ◌∙◌, arith, nat_lt, Some, None, append_assoc}
use Rattle.std.specs.List.{list_all, prefix_len, take_while}
use Rattle.std.proofs.lemmas.Bool.{and_parts, ne_eqb, ltb-true}
use Rattle.std.proofs.lemmas.List.{length-append, take_all, take_at, drop_at}
use Rattle.mx_source.specs.declared.mnemonics.Keyword.{Keyword}
use Rattle.mx_source.specs.declared.characters.Quotes.TheVariants.{Outside}
use Rattle.mx_source.specs.Characters.{is_in_name, is_in_word, mark_place, trim_start, trim, without_comment}
use Rattle.mx_source.specs.Operands.{is_operand, pieces_of}
use Rattle.mx_source.specs.Mnemonics.{keyword_of}
use Rattle.mx_source.specs.Lines.{Listed, is_word, statement_of, line_with_word, line_with_label, line_by_colon, trimmed_line, line_of}
use Rattle.mx_text_laws.proofs.Solid.{is_solid, IsPart, AreParts, joined, mark-solid, hash_away, hash-joined, pieces-joined, start-solid}
use Rattle.mx_text_laws.proofs.Solid.{end-solid, ending, beginning}
use Rattle.mx_text_laws.proofs.Words.{is_mnemonic}

pub prefix-whole : (p : ℕ → Bool) (xs : List ℕ) (y : ℕ) (ys : List ℕ) → list_all p xs ≡ true → p y ≡ false
    → prefix_len p (xs ++ y ∷ ys) ≡ length xs
prefix-whole p [] y ys h f = rw f refl
prefix-whole p (x ∷ xs) y ys h f =
    let q = and_parts (p x) (list_all p xs) h in
    rw q.0 (omega (arith, prefix-whole p xs y ys q.1 f))

module _ (name : List ℕ) (k : Keyword) (os : List (List ℕ)) (mnemonic : is_mnemonic name ≡ true) (keyword : keyword_of name ≡ Some k)
    (are : AreParts os) (more : 0 < length os) (operands : list_all is_operand os ≡ true) where
  word : is_word name ≡ true
  word = (and_parts (nat_lt 0 (length name) && list_all is_solid name && list_all is_in_name name && list_all is_in_word name)
      (is_word name) mnemonic).1

  words : list_all is_in_word name ≡ true
  words = (and_parts (nat_lt 0 (length name) && list_all is_solid name && list_all is_in_name name) (list_all is_in_word name)
      (and_parts (nat_lt 0 (length name) && list_all is_solid name && list_all is_in_name name && list_all is_in_word name) (is_word name)
      mnemonic).0).1

  rest_of : (nat_lt 0 (length name) && list_all is_solid name && list_all is_in_name name) ≡ true
  rest_of = (and_parts (nat_lt 0 (length name) && list_all is_solid name && list_all is_in_name name) (list_all is_in_word name)
      (and_parts (nat_lt 0 (length name) && list_all is_solid name && list_all is_in_name name && list_all is_in_word name) (is_word name)
      mnemonic).0).0

  names : list_all is_in_name name ≡ true
  names = (and_parts (nat_lt 0 (length name) && list_all is_solid name) (list_all is_in_name name) rest_of).1

  part : IsPart name
  part =
      let p = and_parts (nat_lt 0 (length name)) (list_all is_solid name)
      (and_parts (nat_lt 0 (length name) && list_all is_solid name) (list_all is_in_name name) rest_of).0 in
      record { some = ltb-true 0 (length name) p.0; all = p.1 }

  hash : mark_place 35 Outside (name ++ 32 ∷ joined os) ≡ length (name ++ 32 ∷ joined os)
  hash = omega (arith, mark-solid 35 hash_away name (32 ∷ joined os) part.all, hash-joined os are, length-append name (32 ∷ joined os))

  no_comment : without_comment (name ++ 32 ∷ joined os) ≡ name ++ 32 ∷ joined os
  no_comment = rw hash (take_all (length (name ++ 32 ∷ joined os)) (name ++ 32 ∷ joined os) (omega arith))

  trimmed : trim (name ++ 32 ∷ joined os) ≡ name ++ 32 ∷ joined os
  trimmed =
      let e = ending os are more in
      let split : name ++ 32 ∷ joined os ≡ (name ++ 32 ∷ e.front) ++ e.last = ap (λ l. name ++ 32 ∷ l) e.is
      ∙ sym (append_assoc name (32 ∷ e.front) e.last) in
      rw (start-solid name (32 ∷ joined os) part, split) (end-solid (name ++ 32 ∷ e.front) e.last e.part)

  starts : trim_start (joined os) ≡ joined os
  starts =
      let b = beginning os are more in
      rw (b.2, b.3.blank) refl

  after : (n : ℕ) → n ≡ length name → trim_start (drop n (name ++ 32 ∷ joined os)) ≡ joined os
  after n e = rw (e, drop_at name (32 ∷ joined os) (length name) refl) starts

  colon : (slice_index (joined os) 0 == 58) ≡ false
  colon =
      let b = beginning os are more in
      rw b.2 b.3.colon

  pieces : pieces_of (joined os) ≡ os
  unfolding pieces_of
  pieces =
      let b = beginning os are more in
      let n : (length (joined os) == 0) ≡ false = rw b.2 (ne_eqb (suc (length b.1)) 0 (λ z. omega (arith, z))) in
      rw n (pieces-joined os are more)

  with_word : line_with_word None name (joined os) ≡ record { label = None; statement = Listed k os }
  unfolding line_with_word statement_of
  with_word = rw (word, pieces, operands, keyword) refl

  with_label : line_with_label None (name ++ 32 ∷ joined os) ≡ record { label = None; statement = Listed k os }
  unfolding line_with_label
  with_label =
      let n : (length (name ++ 32 ∷ joined os) == 0) ≡ false =
      ne_eqb (length (name ++ 32 ∷ joined os)) 0 (λ z. omega (arith, z, length-append name (32 ∷ joined os))) in
      let t : take_while is_in_word (name ++ 32 ∷ joined os) ≡ name =
      rw (prefix-whole is_in_word name 32 (joined os) words refl) (take_at name (32 ∷ joined os) (length name) refl) in
      rw (n, t, after (length name) refl) with_word

  pub line-text : line_of (name ++ 32 ∷ joined os) ≡ record { label = None; statement = Listed k os }
  unfolding line_of trimmed_line line_by_colon
  line-text =
      let t : take_while is_in_name (name ++ 32 ∷ joined os) ≡ name =
      rw (prefix-whole is_in_name name 32 (joined os) names refl) (take_at name (32 ∷ joined os) (length name) refl) in
      rw (no_comment, trimmed, t, after (length name) refl, colon) with_label

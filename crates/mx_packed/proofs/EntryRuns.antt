-- The run of a word of a packed entry.
use Rattle.std.proofs.Common.{◌≡◌, ◌≢◌, ℕ, ◌+◌, ◌-◌, ◌/◌, ◌%◌, ◌^◌, ◌<◌, ◌≤◌, ◌==◌, ◌⊎◌, inl, inr, Bool, true, false, nat_lt, List, length}
use Rattle.std.proofs.Common.{drop, if◌then◌else◌, refl, sym, ap, ◌∙◌, arith, length-take, eq-eqb, min}
use Rattle.std.specs.List.{prefix_len, suffix_len, slice_range}
use Rattle.std.proofs.lemmas.Bool.{ltb-false, ne_eqb}
use Rattle.std.proofs.lemmas.Bool.Decides.{eqb_tells}
use Rattle.std.proofs.lemmas.List.Sums.{prefix_len-le-length, suffix_len-le-length}
use Rattle.mx_words.specs.declared.perm.Perm.{Perm}
use Rattle.mx_words.specs.declared.perm.Span.{Span}
use Rattle.mx_words.specs.declared.tables.Kind.TheVariants as K
use Rattle.mx_words.specs.Rights.{same, perm_at}
use Rattle.mx_words.specs.Runs.{runs, line_words}
use Rattle.mx_words.specs.Reach.{packed}
use Rattle.mx_words.proofs.NumberLaws.{shift-first}
use Rattle.mx_trie.specs.Leaf.{IsStored, IsEntry, needs_spill, packed_entry, line_run, placed, lengthened, left_of_run, right_of_run}
use Rattle.mx_trie.specs.Leaf.{entry_run}
use Rattle.mx_trie.proofs.PlainRuns.{left_of_run-none, right_of_run-none, lengthened-none}
use Rattle.mx_trie.proofs.MiniEntries.{IsMade, mini-made}

-- what stands stored for a line, by whether it needs a spill word
stored-crowded : (perms : List Perm) (left right spill line entry spilled : ℕ)
    → IsStored K.Packed perms left right spill line entry spilled →
    entry % 4 ≡ 3 → needs_spill K.Packed perms ≡ true
stored-crowded perms left right spill line entry spilled s tag =
    elim (nat_lt 4 (runs perms)) as (λ b. nat_lt 4 (runs perms) ≡ b → entry ≡ packed_entry b perms left right spill → b ≡ true) [
      | true ↦ λ yes e. refl
      | false ↦ λ no e. (let few : runs perms ≤ 4 = omega (arith, ltb-false 4 (runs perms) no) in
          let made : IsMade perms left right entry = mini-made perms left right entry (omega (arith, s.whole)) s.left_most s.right_most few
          e in
          absurd (omega (arith, made.tagged)))
    ] refl s.entry_is

pub stored-mini : (perms : List Perm) (left right spill line entry spilled : ℕ)
    → IsStored K.Packed perms left right spill line entry spilled →
    entry % 4 ≢ 3 → (needs_spill K.Packed perms ≡ false) × IsMade perms left right entry
stored-mini perms left right spill line entry spilled s tag =
    elim (nat_lt 4 (runs perms)) as (λ b. nat_lt 4 (runs perms) ≡ b → entry ≡ packed_entry b perms left right spill
    → (b ≡ false) × IsMade perms left right entry) [
      | true ↦ λ yes e. absurd (tag (let is : entry % 4 ≡ 3 = omega arith in is))
      | false ↦ λ no e. (let few : runs perms ≤ 4 = omega (arith, ltb-false 4 (runs perms) no) in
          (refl, mini-made perms left right entry (omega (arith, s.whole)) s.left_most s.right_most few e))
    ] refl s.entry_is

-- a spill word is a plain entry of its line
spilled-plain : (perms : List Perm) (left right spill line entry spilled : ℕ)
    → IsStored K.Packed perms left right spill line entry spilled →
    entry % 4 ≡ 3 → IsStored K.Multilevel perms 0 0 0 line spilled 0
spilled-plain perms left right spill line entry spilled s tag = record {
  whole = s.whole;
  left_most = omega arith;
  right_most = omega arith;
  before = omega arith;
  behind = omega (arith, s.behind);
  numbered = omega arith;
  entry_is = s.spilled_is ∙ ap (λ (b : Bool). if b then packed perms else 0)
      (stored-crowded perms left right spill line entry spilled s tag);
  spilled_is = refl;
}

pub spill-entry : (line entry spilled : ℕ) → IsEntry K.Packed line entry spilled → entry % 4 ≡ 3 → IsEntry K.Multilevel line spilled 0
spill-entry line entry spilled e tag = record {
  perms = e.perms;
  left = 0;
  right = 0;
  spill = 0;
  stored = spilled-plain e.perms e.left e.right e.spill line entry spilled e.stored tag;
}

-- a plain entry's run is the line's
plain-placed : (perms : List Perm) (line word : ℕ) → entry_run K.Multilevel perms 0 0 line word ≡ placed line (line_run perms (word - line))
plain-placed perms line word =
    let s : Span = line_run perms (word - line) in
    ap (λ n. lengthened n (right_of_run false s 0) (placed line s)) (left_of_run-none false s)
    ∙ ap (λ n. lengthened 0 n (placed line s)) (right_of_run-none false s)
    ∙ lengthened-none (placed line s)

-- the run of a word of a line with a spill word
pub spill-run : (perms : List Perm) (left right spill line entry spilled word : ℕ) (run : Span) →
    IsStored K.Packed perms left right spill line entry spilled → entry % 4 ≡ 3 →
    ((ps : List Perm) (l r n : ℕ) → IsStored K.Multilevel ps l r n line spilled 0 → run ≡ entry_run K.Multilevel ps l r line word) →
    run ≡ entry_run K.Packed perms left right line word
spill-run perms left right spill line entry spilled word run s tag found =
    let t : Span = line_run perms (word - line) in
    let yes : needs_spill K.Packed perms ≡ true = stored-crowded perms left right spill line entry spilled s tag in
    found perms 0 0 0 (spilled-plain perms left right spill line entry spilled s tag)
    ∙ plain-placed perms line word
    ∙ sym (lengthened-none (placed line t))
    ∙ sym (ap (λ (b : Bool). lengthened (left_of_run b t left) (right_of_run b t right) (placed line t)) yes)

-- a line's run lies in the line
pub line_run-inside : (perms : List Perm) (i : ℕ) → i < line_words → (line_run perms i).first + (line_run perms i).count ≤ line_words
line_run-inside perms i below =
    let l : suffix_len (same (perm_at perms i)) (slice_range perms 0 i) ≤ length (slice_range perms 0 i) =
    suffix_len-le-length (same (perm_at perms i)) (slice_range perms 0 i) in
    let r : prefix_len (same (perm_at perms i)) (slice_range perms i line_words) ≤ length (slice_range perms i line_words) =
    prefix_len-le-length (same (perm_at perms i)) (slice_range perms i line_words) in
    let a : length (slice_range perms 0 i) ≡ min (i - 0) (length perms) = length-take (i - 0) perms in
    let b : length (slice_range perms i line_words) ≡ min (line_words - i) (length (drop i perms)) =
    length-take (line_words - i) (drop i perms) in
    omega arith

shift-last : (line a b : ℕ) → (line + a + b == line + line_words) ≡ (a + b == line_words)
shift-last line a b = cases (eqb_tells (a + b) line_words)
  where
    cases : ((a + b == line_words) ≡ true) × (a + b ≡ line_words) ⊎ ((a + b == line_words) ≡ false) × (a + b ≢ line_words) →
        (line + a + b == line + line_words) ≡ (a + b == line_words)
    cases (inl h) = eq-eqb (line + a + b) (line + line_words) (omega arith) ∙ sym h.0
    cases (inr h) = ne_eqb (line + a + b) (line + line_words) (λ e. h.1 (omega arith)) ∙ sym h.0

-- a packed entry without a spill word
module _ (line entry spilled : ℕ) (e : IsEntry K.Packed line entry spilled) (tag : entry % 4 ≢ 3) where
  pub read-made : IsMade e.perms e.left e.right entry
  read-made = (stored-mini e.perms e.left e.right e.spill line entry spilled e.stored tag).1

-- what lengthening a run needs
pub record CanLengthen (line left right : ℕ) (run : Span) : Type 0 where
  pub at : line ≤ run.first
  pub before : left ≤ line
  pub behind : run.first + run.count ≤ line + line_words
  pub room : line + line_words + right ≤ 2 ^ 24

pub can-lengthen : (line entry spilled word : ℕ) (run : Span) (e : IsEntry K.Packed line entry spilled) → entry % 4 ≢ 3 →
    line ≤ word → word < line + line_words → run ≡ placed line (line_run e.perms (word - line)) →
    CanLengthen line (entry / 134217728) (entry / 4194304 % 32) run
can-lengthen line entry spilled word run e tag from below is =
    let t : Span = line_run e.perms (word - line) in
    let inside : t.first + t.count ≤ line_words = line_run-inside e.perms (word - line) (omega arith) in
    let first : run.first ≡ line + t.first = ap (λ (u : Span). u.first) is in
    let count : run.count ≡ t.count = ap (λ (u : Span). u.count) is in
    let made : IsMade e.perms e.left e.right entry = read-made line entry spilled e tag in
    record {
      at = omega arith;
      before = omega (arith, made.left_is, e.stored.before);
      behind = omega arith;
      room = omega (arith, made.right_is, e.stored.behind);
    }

pub mini-run : (perms : List Perm) (left right spill line entry spilled word : ℕ) (run : Span) →
    IsStored K.Packed perms left right spill line entry spilled → entry % 4 ≢ 3 →
    run ≡ placed line (line_run perms (word - line)) →
    lengthened (if run.first == line then entry / 134217728 else 0)
    (if run.first + run.count == line + line_words then entry / 4194304 % 32 else 0) run
    ≡ entry_run K.Packed perms left right line word
mini-run perms left right spill line entry spilled word run s tag is =
    let t : Span = line_run perms (word - line) in
    let both = stored-mini perms left right spill line entry spilled s tag in
    ap (λ (u : Span). lengthened (if u.first == line then entry / 134217728 else 0)
    (if u.first + u.count == line + line_words then entry / 4194304 % 32 else 0) u) is
    ∙ ap (λ (n : ℕ). lengthened (if line + t.first == line then n else 0)
    (if line + t.first + t.count == line + line_words then entry / 4194304 % 32 else 0) (placed line t)) both.1.left_is
    ∙ ap (λ (n : ℕ). lengthened (if line + t.first == line then left else 0)
    (if line + t.first + t.count == line + line_words then n else 0) (placed line t)) both.1.right_is
    ∙ ap (λ (b : Bool). lengthened (if b then left else 0) (if line + t.first + t.count == line + line_words then right else 0)
    (placed line t)) (shift-first line t.first)
    ∙ ap (λ (b : Bool). lengthened (if t.first == 0 then left else 0) (if b then right else 0) (placed line t))
    (shift-last line t.first t.count)
    ∙ sym (ap (λ (b : Bool). lengthened (left_of_run b t left) (right_of_run b t right) (placed line t)) both.0)

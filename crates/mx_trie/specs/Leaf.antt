-- Leaf entries of tries: the stored word of a line of 16 words, and the span that it gives.
use Rattle.std.specs.Prelude.{◌≡◌, ℕ, ◌+◌, ◌-◌, ◌*◌, ◌/◌, ◌%◌, ◌^◌, ◌<◌, ◌≤◌, ◌==◌, ◌⊎◌, Bool, false, nat_lt, min, List, length}
use Rattle.std.specs.Prelude.{if◌then◌else◌, Option, Some, None}
use Rattle.mx_words.specs.declared.perm.Perm.{Perm}
use Rattle.mx_words.specs.declared.perm.Span.{Span}
use Rattle.mx_words.specs.declared.tables.Kind.{Kind}
use Rattle.mx_words.specs.declared.tables.Kind.TheVariants as K
use Rattle.mx_words.specs.Ranges.{most_words}
use Rattle.mx_words.specs.Rights.{same}
use Rattle.mx_words.specs.Runs.{runs, runs_of, line_words}
use Rattle.mx_words.specs.Reach.{span_within, packed, mini_entry}

-- a kind of trie
abbrev pub IsTrieKind : Kind → Type 0
IsTrieKind kind = (kind ≡ K.Multilevel) ⊎ (kind ≡ K.Packed)

-- the greatest reach that an entry of the kind holds
abbrev pub form_reach : Kind → ℕ
form_reach K.Packed = 31
form_reach kind = 0

-- whether a line's 16 permissions need a spill word: a packed entry holds four runs
abbrev pub needs_spill : Kind → List Perm → Bool
needs_spill K.Packed perms = nat_lt 4 (runs perms)
needs_spill kind perms = false

-- a packed entry: the number of a spill word, or the runs and both reaches
abbrev pub packed_entry : Bool → List Perm → ℕ → ℕ → ℕ → ℕ
packed_entry crowded perms left right spill = if crowded then 3
    + 4 * spill else mini_entry (runs_of same perms) left right

-- the entry of a line with these permissions, reaches and spill word
abbrev pub leaf_entry : Kind → List Perm → ℕ → ℕ → ℕ → ℕ
leaf_entry K.Packed perms left right spill = packed_entry (needs_spill K.Packed perms) perms left right spill
leaf_entry kind perms left right spill = packed perms

-- the number of the spill word that an entry names
abbrev pub spill_number : Kind → ℕ → Option ℕ
spill_number K.Packed entry = if entry % 4 == 3 then Some (entry / 4) else None
spill_number kind entry = None

-- the number of a line's spill word, where it needs one
abbrev pub named_spill : Kind → List Perm → ℕ → Option ℕ
named_spill kind perms spill = if needs_spill kind perms then Some spill else None

-- a span with its first word that many words earlier, and its last one that many words later
abbrev pub lengthened : ℕ → ℕ → Span → Span
lengthened left right s = record { first = s.first - left; count = left + s.count + right; perm = s.perm }

-- a span of the line's words, counted from the line's first, as RAM words
abbrev pub placed : ℕ → Span → Span
placed line s = record { first = line + s.first; count = s.count; perm = s.perm }

-- the run of the line's word at place i, 0 to 15, counted from the line's first word
abbrev pub line_run : List Perm → ℕ → Span
line_run perms i = span_within perms 0 line_words i

-- how far an entry's reaches go beyond a run: the left one where it begins the line, the right one where it
-- ends it, and neither in a line with a spill word
abbrev pub left_of_run : Bool → Span → ℕ → ℕ
left_of_run spilled s left = if spilled then 0 else if s.first == 0 then left else 0

abbrev pub right_of_run : Bool → Span → ℕ → ℕ
right_of_run spilled s right = if spilled then 0 else if s.first + s.count == line_words then right else 0

-- the run of a word inside its line, lengthened by the reaches
abbrev pub entry_run : Kind → List Perm → ℕ → ℕ → ℕ → ℕ → Span
entry_run kind perms left right line word =
    let s : Span = line_run perms (word - line) in
    let spilled : Bool = needs_spill kind perms in
    lengthened (left_of_run spilled s left) (right_of_run spilled s right) (placed line s)

-- what stands stored for the line that begins at a word: an entry with its spill word, or 0 where it has none.
-- The reaches stay in RAM
pub record IsStored (kind : Kind) (perms : List Perm) (left right spill line : ℕ) (entry spilled : ℕ) : Type 0 where
  pub whole : length perms ≡ line_words
  pub left_most : left ≤ form_reach kind
  pub right_most : right ≤ form_reach kind
  pub before : left ≤ line
  pub behind : line + line_words + right ≤ most_words
  pub numbered : spill < 2 ^ 30
  pub entry_is : entry ≡ leaf_entry kind perms left right spill
  pub spilled_is : spilled ≡ (if needs_spill kind perms then packed perms else 0)

-- an entry of some line with its spill word
pub record IsEntry (kind : Kind) (line : ℕ) (entry spilled : ℕ) : Type 0 where
  pub perms : List Perm
  pub left : ℕ
  pub right : ℕ
  pub spill : ℕ
  pub stored : IsStored kind perms left right spill line entry spilled

-- a span that begins in a RAM of `words` words, cut at RAM's end
abbrev pub cut_at : ℕ → Span → Span
cut_at words s = record { first = s.first; count = min s.count (words - s.first); perm = s.perm }

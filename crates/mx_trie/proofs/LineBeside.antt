-- The entry of a line beside the range, which keeps its permissions.
use Rattle.std.proofs.Common.{◌≡◌, ℕ, ◌*◌, ◌≤◌, false, List, length, None, sym, ◌∙◌, arith}
use Rattle.mx_words.specs.declared.perm.Perm.{Perm}
use Rattle.mx_words.specs.declared.tables.Kind.{Kind}
use Rattle.mx_words.specs.Reach.{line_at}
use Rattle.mx_table.specs.Tables.{most_words}
use Rattle.mx_trie.specs.declared.laying.Laying.{Laying}
use Rattle.mx_trie.specs.declared.laying.Beside.{Beside}
use Rattle.mx_trie.specs.Leaf.{IsTrieKind, needs_spill, leaf_entry, spill_number}
use Rattle.mx_trie.specs.Walk.{Frames, line_number, map_left, map_right}
use Rattle.mx_trie.specs.Shown.{IsLine, IsSomeLine}
use Rattle.mx_trie.specs.Laying.{laid_by, IsBeside}
use Rattle.mx_trie.specs.Changed.{IsLineChanged}
use Rattle.mx_trie.proofs.Stored.{line-named}
use Rattle.mx_trie.proofs.LineChanges.{named-none, put-none, line-changed}

-- a map of which it is known what lies beside the range has few words
pub few-known : (kind : Kind) (m : List Perm) (lay : Laying) (b : Beside) → IsBeside kind m lay b →
    length m ≤ most_words
few-known kind m lay b known = omega arith

pub line-beside : (kind : Kind) → IsTrieKind kind →
    (spill : Frames) (lay : Laying) (b : Beside) (z e e' : ℕ) (perms : List Perm) (left right : ℕ) →
    spill_number kind e ≡ None → IsSomeLine kind spill z e →
    ((m : List Perm) → length m ≤ most_words → IsLine kind spill m z e → perms ≡ line_at m (z * 16)) →
    e' ≡ leaf_entry kind perms left right 0 →
    ((m : List Perm) → IsBeside kind m lay b → line_at (laid_by lay m) (z * 16) ≡ line_at m (z * 16)) →
    ((m : List Perm) → IsBeside kind m lay b → IsLine kind spill m z e → map_left kind (laid_by lay m) z ≡ left) →
    ((m : List Perm) → IsBeside kind m lay b → IsLine kind spill m z e → map_right kind (laid_by lay m) z ≡ right) →
    IsLineChanged kind spill spill lay b z e e'
line-beside kind k spill lay b z e e' perms left right none some told is same left_is right_is =
    let needs : false ≡ needs_spill kind perms =
    cc (told some.map some.few some.line, named-none _ (line_number kind e) (sym none ∙ line-named kind k spill some.map z e some.line)) in
    let are = λ (m : List Perm) (known : IsBeside kind m lay b) (line : IsLine kind spill m z e). same m known
    ∙ sym (told m (few-known kind m lay b known) line) in
    line-changed kind k spill spill lay b z e e' (record {
      made = search (arith, put-none, perms, left, right, is);
      perms_are = are;
      room =
          λ h. absurd (cc);
      left_is = left_is;
      right_is = right_is;
    })

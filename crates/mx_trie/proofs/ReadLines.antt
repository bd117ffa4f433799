-- The permissions of a line are read back from its entry and its spill word.
use Rattle.std.proofs.Common.{◌≡◌, ℕ, zero, suc, ◌+◌, ◌/◌, ◌%◌, ◌<◌, ◌==◌, List, length, drop, set, if◌then◌else◌, refl, sym, ◌∙◌, arith}
use Rattle.std.proofs.Math.ListN.{length-set}
use Rattle.std.proofs.lemmas.List.{ext_get_or, drop_more, at_drop_all}
use Rattle.mx_words.specs.declared.perm.Perm.{Perm}
use Rattle.mx_words.specs.declared.perm.Perm.TheVariants as P
use Rattle.mx_words.specs.declared.tables.Kind.{Kind}
use Rattle.mx_words.specs.Rights.{number, perm_at}
use Rattle.mx_words.specs.Reach.{packed}
use Rattle.mx_words.proofs.CountingLaws.{length-list_below, list_below-at}
use Rattle.mx_trie.specs.Digits.{digit, numbered}
use Rattle.mx_trie.specs.Decoded.{IsDecoded}
use Rattle.mx_trie.specs.Leaf.{IsTrieKind, IsStored}
use Rattle.mx_trie.specs.Read.{plain_line, codes_line, packed_line, read_line}
use Rattle.mx_words.proofs.NumberLaws.{from_number-number}
use Rattle.mx_trie.proofs.Digits.{digit-packed}
use Rattle.mx_trie.proofs.Decoding.{decoded-ended, decoded-going, value_code-first}
use Rattle.mx_trie.proofs.MiniEntries.{IsMade, mini-made}

pub plain_line-packed : (perms : List Perm) → length perms ≡ 16 → plain_line (packed perms) ≡ perms
plain_line-packed perms whole = ext_get_or P.None (plain_line (packed perms)) perms
    (length-list_below 16 (λ k. numbered (digit (packed perms) k)) ∙ sym whole) (λ i below.
    search (arith, list_below-at, digit-packed, from_number-number, length-list_below 16 (λ k. numbered (digit (packed perms) k))))

-- a packed line is read back
-- one more word is read
decoded-next : (perms line : List Perm) (i values starts : ℕ) → length perms ≡ 16 → length line ≡ 16 → i < 16 →
    IsDecoded perms line i values starts →
    IsDecoded perms (set line i (numbered (values % 4))) (i + 1) (if starts % 16 == i + 1 then values / 4 else values)
    (if starts % 16 == i + 1 then starts / 16 else starts)
decoded-next perms line i values starts whole long below d =
    let p : number (numbered (values % 4)) ≡ values % 4 = search arith in
    grind (
      arith,
      decoded-ended perms line i values starts _ whole long below d p,
      decoded-going perms line i values starts _ whole long
          below d p,
    )

-- a packed line is read back
pub codes_line-is : (n i values starts : ℕ) (perms line : List Perm) → i + n ≡ 16 → length perms ≡ 16 →
    length line ≡ 16 → IsDecoded perms line i values starts →
    codes_line n i values starts ≡ drop i perms
unfolding codes_line
codes_line-is zero i values starts perms line ends whole long d =
    sym (at_drop_all (λ (xs : List Perm). xs) perms i (omega arith))
codes_line-is (suc n) i values starts perms line ends whole long d =
    cc (
      d.values_left (omega arith),
      value_code-first perms i (omega arith),
      from_number-number (perm_at perms i),
      drop_more perms i P.None (omega arith),
      codes_line-is n (i + 1) _ _ perms
          (set line i (numbered (values % 4))) (omega arith) whole (length-set line i (numbered (values % 4)) ∙ long)
          (decoded-next perms line i values starts whole long (omega arith) d),
    )

packed-mini : (perms : List Perm) (left right entry spilled : ℕ) → length perms ≡ 16 → IsMade perms left right entry →
    packed_line entry spilled ≡ perms
packed-mini ps l r entry spilled whole made =
    grind (
      arith,
      made,
      codes_line-is 16 0 (entry / 4 % 256) (entry / 1024 % 4096) ps ps refl whole whole
          (search (arith, made.values, made.starts)),
    )

-- an entry tells the permissions that it was made of
pub read_line-is : (kind : Kind) → IsTrieKind kind → (perms : List Perm) (left right spill line entry spilled : ℕ) →
    IsStored kind perms left right spill line entry spilled → read_line kind entry spilled ≡ perms
read_line-is kind k perms left right spill line entry spilled s =
    grind (
      arith,
      k,
      plain_line-packed perms s.whole,
      packed-mini perms left right entry spilled s.whole,
      mini-made perms left right
          entry,
      s.left_most,
      s.right_most,
      s.entry_is,
      s.spilled_is,
    )

-- What a walk's end gives, put together from its parts.
use Rattle.std.proofs.Common.{◌≡◌, ℕ, ◌-◌, ◌/◌, ◌%◌, min, List, length, refl, arith}
use Rattle.mx_words.specs.declared.perm.Perm.{Perm}
use Rattle.mx_words.specs.declared.perm.Span.{Span}
use Rattle.mx_words.specs.declared.tables.Kind.{Kind}
use Rattle.mx_words.specs.declared.tables.Level.TheVariants as L
use Rattle.mx_words.specs.Rights.{number}
use Rattle.mx_words.specs.Runs.{page_words, region_words}
use Rattle.mx_words.specs.Reach.{level, span, first_in}
use Rattle.mx_trie.specs.Digits.{digit}
use Rattle.mx_trie.specs.Found.{IsVector}
use Rattle.mx_words.proofs.NumberLaws.{number-one_to_one}
use Rattle.mx_trie.proofs.FoundSpans.{vector-digit}

-- the span of a vector's part
pub root-span : (kind : Kind) (m : List Perm) (i entry words : ℕ) (s : Span) → level kind m i ≡ L.Root →
    IsVector region_words 131072 m i entry → length m ≡ words →
    s.first ≡ first_in 131072 i → s.count ≡ min 131072 (words - first_in 131072 i) →
    number s.perm ≡ digit (entry / 4) (i / 131072 % 8) → s ≡ span kind m i
root-span kind m i entry words s at v long first count perm =
    search (arith, number-one_to_one, vector-digit 1048576 131072 m i (i / 131072 % 8) (i % 131072) entry refl v)

pub mid-span : (kind : Kind) (m : List Perm) (i entry words : ℕ) (s : Span) → level kind m i ≡ L.Mid →
    IsVector page_words 128 m i entry → length m ≡ words →
    s.first ≡ first_in 128 i → s.count ≡ min 128 (words - first_in 128 i) →
    number s.perm ≡ digit (entry / 4) (i / 128 % 8) → s ≡ span kind m i
mid-span kind m i entry words s at v long first count perm =
    search (arith, number-one_to_one, vector-digit 1024 128 m i (i / 128 % 8) (i % 128) entry refl v, at)

-- What holds of each span that a hart's caches keep.
use Rattle.std.specs.Prelude.{◌≡◌, ℕ, false, [], All, IfSome, Option, None, replicate}
use Rattle.mx_words.specs.declared.perm.Span.{Span}
use Rattle.mx_words.specs.Caches.{Cache, Entry, meets, place_count}

-- E of each entry of the list and its domain, and P of each span in a place
pub record EachSpan (E : ℕ → Span → Type 0) (P : Span → Type 0) (c : Cache) : Type 0 where
  pub entries : All (λ (e : Entry). E e.0 e.1) c.kept
  pub places : All (λ (o : Option Span). IfSome o P) c.places

-- no span meets a range
abbrev pub IsClear : ℕ × ℕ → Cache → Type 0
IsClear range c =
    EachSpan (λ d s. meets s range.0 range.1 ≡ false) (λ s. meets s range.0 range.1 ≡ false) c

-- caches without a span, whatever they have counted
pub record IsEmpty (c : Cache) : Type 0 where
  pub places : c.places ≡ replicate place_count None
  pub kept : c.kept ≡ []

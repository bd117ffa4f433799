-- What the spans that a hart's caches keep say of rights.
use Rattle.std.specs.Prelude.{◌≡◌, ℕ, true}
use Rattle.mx_words.specs.declared.perm.Span.{Span}
use Rattle.mx_words.specs.Caches.{Cache, covers_word}
use Rattle.mx_words.specs.KeptSpans.{EachSpan}
use Rattle.mx_model.specs.Reads.{Reads}

-- a span has its permission on each of its words, in a domain
pub record AgreesIn (r : Reads) (d : ℕ) (s : Span) : Type 0 where
  pub at : (w : ℕ) → covers_word s w ≡ true → r.perm d w ≡ s.perm

-- a place's spans agree in domain d, and each entry of the list in its own
abbrev pub AreCurrent : Reads → ℕ → Cache → Type 0
AreCurrent r d c = EachSpan (AgreesIn r) (AgreesIn r d) c

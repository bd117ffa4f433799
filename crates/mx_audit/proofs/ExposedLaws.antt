-- A word of RAM is sealed exactly where no source exposes it to change.
use Rattle.std.proofs.Common.{◌≡◌, ℕ, zero, suc, ◌<◌, ◌≤◌, inl, inr, Bool, true, false, not, List, length, refl, ap, subst, arith}
use Rattle.std.proofs.lemmas.Bool.{cases_eq, and_from, and_parts, or_left, or_right, or_from, both_ways, false_from_ne_true}
use Rattle.mx_words.specs.declared.perm.Perm.{Perm}
use Rattle.mx_words.specs.declared.perm.Perm.TheVariants as P
use Rattle.mx_words.specs.Rights.{same}
use Rattle.mx_model.specs.Reads.{flat_reads}
use Rattle.mx_model.specs.State.{Flat}
use Rattle.mx_model.specs.Valid.{IsModule, IsValid}
use Rattle.mx_audit.specs.Live.{IsLive}
use Rattle.mx_audit.specs.Marks.{is_marked, MarkLive}
use Rattle.mx_audit.specs.Sealed.{IsSealed, is_sealed}
use Rattle.mx_audit.specs.AlikeWords.{exposes, some_exposes, is_exposed}
use Rattle.mx_audit.proofs.AuditRuns.{live-module}
use Rattle.mx_audit.proofs.LiveLaws.{sealed-rounds, same-is}

-- a source that exposes a word is one of the first n
some-from : (f : Flat) (marks : List Bool) (n source w : ℕ) → source ≤ n → exposes f marks source w ≡ true → some_exposes f marks n w ≡ true
some-from f marks zero zero w l p = p
some-from f marks zero (suc source) w l p = absurd (omega arith)
some-from f marks (suc n) source w l p = elim (cases_eq source (suc n)) [
  | inl e ↦ or_right (some_exposes f marks n w) (exposes f marks (suc n) w) (subst (λ i. exposes f marks i w ≡ true) e p)
  | inr ne ↦ or_left (some_exposes f marks n w) (exposes f marks (suc n) w) (some-from f marks n source w (omega arith) p)
]

none-some : (f : Flat) (marks : List Bool) (n w : ℕ) → ((source : ℕ) → source ≤ n → exposes f marks source w ≡ true → ⊥)
    → some_exposes f marks n w ≡ false
none-some f marks zero w h = false_from_ne_true (exposes f marks zero w) (h zero (omega arith))
none-some f marks (suc n) w h =
    or_from (some_exposes f marks n w) (exposes f marks (suc n) w) (none-some f marks n w (λ source l. h source (omega arith)))
    (false_from_ne_true (exposes f marks (suc n) w) (h (suc n) (omega arith)))

module _ (f : Flat) (marks : List Bool) (valid : IsValid f.core) (live : MarkLive f.core marks) (w : ℕ) (within : w < f.core.size) where
  closed-sealed : is_exposed f marks w ≡ false → IsSealed (flat_reads f) f.core w
  closed-sealed e = record {
    in_ram = within;
    owner = λ l. both_ways (is_exposed f marks w) e
        (some-from f marks (length f.core.modules) zero w (omega arith) ((live ((flat_reads f).owner w)).1 l));
    rights = λ d l p. both_ways (is_exposed f marks w) e (by d l p (live-module f.core valid d l));
  }
    where
      by : (d : ℕ) → IsLive f.core d → (flat_reads f).perm d w ≡ P.ReadWrite → IsModule (length f.core.modules) d
          → is_exposed f marks w ≡ true
      by zero l p m = absurd (let first = m.first in omega arith)
      by (suc d) l p m =
          some-from f marks (length f.core.modules) (suc d) w (let last = m.last in omega arith)
          (and_from (is_marked marks (suc d)) (same ((flat_reads f).perm (suc d) w) P.ReadWrite) ((live (suc d)).1 l)
          (ap (λ (p : Perm). same p P.ReadWrite) p))

  sealed-closed : IsSealed (flat_reads f) f.core w → is_exposed f marks w ≡ false
  sealed-closed s = none-some f marks (length f.core.modules) w by
    where
      by : (source : ℕ) → source ≤ length f.core.modules → exposes f marks source w ≡ true → ⊥
      by zero l p = s.owner ((live ((flat_reads f).owner w)).0 p)
      by (suc d) l p =
          let q = and_parts (is_marked marks (suc d)) (same ((flat_reads f).perm (suc d) w) P.ReadWrite) p in
          s.rights (suc d) ((live (suc d)).0 q.0) (same-is ((flat_reads f).perm (suc d) w) q.1)

  pub sealed_is_closed : is_sealed (flat_reads f) f.core w ≡ not (is_exposed f marks w)
  sealed_is_closed = by (is_exposed f marks w) refl
    where
      by : (b : Bool) → is_exposed f marks w ≡ b → is_sealed (flat_reads f) f.core w ≡ not b
      by true e = false_from_ne_true (is_sealed (flat_reads f) f.core w) (λ s.
          both_ways (is_exposed f marks w) (sealed-closed ((sealed-rounds (flat_reads f) f.core w).0 s)) e)
      by false e = (sealed-rounds (flat_reads f) f.core w).1 (closed-sealed e)

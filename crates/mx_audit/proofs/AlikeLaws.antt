-- What alike words tell: of one source after another, and from one word on or a later one.
use Rattle.std.proofs.Common.{◌≡◌, ℕ, zero, suc, ◌+◌, ◌-◌, ◌<◌, ◌≤◌, min, Bool, true, false, not, ◌||◌, List, [], ◌∷◌, ◌++◌, nat_lt}
use Rattle.std.proofs.Common.{if◌then◌else◌, length, replicate, slice_get, Some, refl, sym, ap, ◌∙◌, subst, arith, append_assoc}
use Rattle.std.proofs.lemmas.Bool.{and_left, ltb-true}
use Rattle.mx_words.specs.declared.perm.Perm.TheVariants as P
use Rattle.mx_words.specs.declared.perm.Span.{Span}
use Rattle.mx_words.specs.Rights.{same}
use Rattle.mx_model.specs.Reads.{flat_reads}
use Rattle.mx_model.specs.State.{Flat}
use Rattle.mx_model.specs.Valid.{IsValid}
use Rattle.mx_audit.specs.declared.alike.AlikeWords.{AlikeWords}
use Rattle.mx_audit.specs.Marks.{is_marked, MarkLive}
use Rattle.mx_audit.specs.Sealed.{is_sealed}
use Rattle.mx_audit.specs.SealedRuns.{runs_where, sealed_runs, words_from}
use Rattle.mx_audit.specs.AlikeWords.{exposes, some_exposes, is_exposed, Tells, AllTell, run_between}
use Rattle.mx_audit.proofs.ExposedLaws.{sealed_is_closed}
use Rattle.mx_audit.proofs.RunLaws.{runs_step, runs_last}

-- from a later word on
pub tells-later : (f : Flat) (test : ℕ → Bool) (w v : ℕ) (s : AlikeWords) → w ≤ v → Tells f test w s → Tells f test v s
tells-later f test w v s l t = record { within = t.within; alike = λ u p q. t.alike u (omega arith) q }

pub all-later : (f : Flat) (marks : List Bool) (w v : ℕ) (known : List AlikeWords) → w ≤ v → AllTell f marks w known
    → AllTell f marks v known
all-later f marks w v known l t source s e = tells-later f (exposes f marks source) w v s l (t source s e)

-- of one source more
tells-suc : (f : Flat) (marks : List Bool) (n w : ℕ) (a b s : AlikeWords) → s.end ≡ min a.end b.end → s.exposed ≡ (a.exposed || b.exposed) →
    Tells f (some_exposes f marks n) w a → Tells f (exposes f marks (suc n)) w b → Tells f (some_exposes f marks (suc n)) w s
tells-suc f marks n w a b s e o p q =
    let pw = p.within in
    record {
      within = omega arith;
      alike = λ v l u.
          ap (λ t. t || exposes f marks (suc n) v) (p.alike v l (omega arith)) ∙ ap (λ t. a.exposed || t) (q.alike v l (omega arith))
          ∙ sym o;
    }

pub tells-more : (f : Flat) (marks : List Bool) (n w : ℕ) (a b s : AlikeWords) → s.end ≡ min a.end b.end
    → s.exposed ≡ (a.exposed || b.exposed) →
    Tells f (some_exposes f marks n) w a → Tells f (exposes f marks (n + 1)) w b → Tells f (some_exposes f marks (n + 1)) w s
tells-more f marks n w a b s e o p q =
    let next : suc n ≡ n + 1 = omega arith in
    subst (λ i. Tells f (some_exposes f marks i) w s) next (tells-suc f marks n w a b s e o p
    (subst (λ i. Tells f (exposes f marks i) w b) (sym next) q))

or-false : (b : Bool) → (b || false) ≡ b
or-false true = refl
or-false false = refl

tells-without : (f : Flat) (marks : List Bool) (n w : ℕ) (s : AlikeWords) → is_marked marks (suc n) ≡ false →
    Tells f (some_exposes f marks n) w s → Tells f (some_exposes f marks (suc n)) w s
tells-without f marks n w s e p = record {
  within = p.within;
  alike = λ v l u.
      ap (λ t. some_exposes f marks n v || t) (and_left (is_marked marks (suc n)) (same ((flat_reads f).perm (suc n) v) P.ReadWrite) e)
      ∙ or-false (some_exposes f marks n v) ∙ p.alike v l u;
}

pub tells-unmarked : (f : Flat) (marks : List Bool) (n w : ℕ) (s : AlikeWords) → is_marked marks (n + 1) ≡ false →
    Tells f (some_exposes f marks n) w s → Tells f (some_exposes f marks (n + 1)) w s
tells-unmarked f marks n w s e p =
    let next : suc n ≡ n + 1 = omega arith in
    subst (λ i. Tells f (some_exposes f marks i) w s) next (tells-without f marks n w s (ap (is_marked marks) next ∙ e) p)

-- nothing is known at first
abbrev nothing : AlikeWords
nothing = record { end = 0; exposed = false }

all-nothing : (n source : ℕ) (s : AlikeWords) → slice_get (replicate n nothing) source ≡ Some s → s.end ≡ 0
all-nothing zero source s e = absurd (let q : ⊥ = cc in q)
all-nothing (suc n) zero s e = let same : nothing ≡ s = cc in sym (ap (λ (x : AlikeWords). x.end) same)
all-nothing (suc n) (suc source) s e = all-nothing n source s e

pub none-tell : (f : Flat) (marks : List Bool) (w n : ℕ) → AllTell f marks w (replicate n nothing)
none-tell f marks w n source s e = let none = all-nothing n source s e in
    record { within = omega arith; alike = λ v l u. absurd (omega arith) }

-- at most one run is added
pub length-run_between : (first behind : ℕ) → length (run_between first behind) ≤ behind - first
length-run_between first behind = by (nat_lt first behind) refl
  where
    by : (b : Bool) → nat_lt first behind ≡ b → length (if b then words_from first (behind - first) ∷ [] else []) ≤ behind - first
    by true e = let l = ltb-true first behind e in omega arith
    by false e = omega arith

-- the runs after more alike words, and after the last one
module _ (f : Flat) (marks : List Bool) (valid : IsValid f.core) (live : MarkLive f.core marks) where
  sealed-from : (w : ℕ) → w < f.core.size → is_exposed f marks w ≡ false → is_sealed (flat_reads f) f.core w ≡ true
  sealed-from w l e = sealed_is_closed f marks valid live w l ∙ ap not e

  exposed-from : (w : ℕ) → w < f.core.size → is_exposed f marks w ≡ true → is_sealed (flat_reads f) f.core w ≡ false
  exposed-from w l e = sealed_is_closed f marks valid live w l ∙ ap not e

  pub runs_exposed : (runs : List Span) (first w : ℕ) (s : AlikeWords) → first ≤ w → w < s.end
      → ((v : ℕ) → first ≤ v → v < w → is_exposed f marks v ≡ false) →
      Tells f (is_exposed f marks) w s → s.exposed ≡ true → runs ++ runs_where (is_sealed (flat_reads f) f.core) first (f.core.size - first)
      ≡ sealed_runs (flat_reads f) f.core →
      (runs ++ run_between first w) ++ runs_where (is_sealed (flat_reads f) f.core) s.end (f.core.size - s.end)
      ≡ sealed_runs (flat_reads f) f.core
  runs_exposed runs first w s l b closed t o e =
      let test = is_sealed (flat_reads f) f.core in
      let within = t.within in
      append_assoc runs (run_between first w) (runs_where test s.end (f.core.size - s.end))
      ∙ ap (λ rest. runs ++ rest) (sym (runs_step test f.core.size first w s.end l b within
      (λ v p q. sealed-from v (omega arith) (closed v p q))
      (λ v p q. exposed-from v (omega arith) (t.alike v p q ∙ o))))
      ∙ e

  pub runs_end : (runs : List Span) (first : ℕ) → first ≤ f.core.size
      → ((v : ℕ) → first ≤ v → v < f.core.size → is_exposed f marks v ≡ false) →
      runs ++ runs_where (is_sealed (flat_reads f) f.core) first (f.core.size - first) ≡ sealed_runs (flat_reads f) f.core →
      runs ++ run_between first f.core.size ≡ sealed_runs (flat_reads f) f.core
  runs_end runs first l closed e =
      ap (λ rest. runs ++ rest) (sym (runs_last (is_sealed (flat_reads f) f.core) f.core.size first l (λ v p q.
      sealed-from v q (closed v p q)))) ∙ e

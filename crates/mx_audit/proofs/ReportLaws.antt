-- The report of what an audit found is that of the flat state.
use Rattle.std.proofs.Common.{◌≡◌, ℕ, zero, suc, ◌+◌, ◌-◌, Bool, true, false, List, [], ◌++◌, flat_map, length, slice_index_or, refl, sym}
use Rattle.std.proofs.Common.{ap, ◌∙◌}
use Rattle.std.specs.List.{range_with_len}
use Rattle.std.proofs.lemmas.Bool.{false_from_ne_true, both_ways}
use Rattle.mx_words.specs.declared.perm.Span.{Span}
use Rattle.mx_model.specs.Reads.{flat_reads}
use Rattle.mx_model.specs.State.{Core, Flat}
use Rattle.mx_audit.specs.declared.audited.Audit.{Audit}
use Rattle.mx_audit.specs.Live.{is_live}
use Rattle.mx_audit.specs.Lines.{live_text, live_lines, report, found_text, audit_text}
use Rattle.mx_audit.specs.Marks.{is_marked, MarkLive}
use Rattle.mx_audit.specs.SealedRuns.{sealed_runs}
use Rattle.mx_audit.proofs.LiveLaws.{live-rounds}

-- the lines of live domains by two tests that answer alike
lines-alike : (names : List (List ℕ)) (f g : ℕ → Bool) → ((d : ℕ) → f d ≡ g d) → (a n : ℕ) →
    flat_map (λ d. live_text d (slice_index_or names (d - 1) []) (f d)) (range_with_len a n)
    ≡ flat_map (λ d. live_text d (slice_index_or names (d - 1) []) (g d)) (range_with_len a n)
lines-alike names f g h a zero = refl
lines-alike names f g h a (suc n) =
    ap (λ b. live_text a (slice_index_or names (a - 1) []) b ++ flat_map (λ d. live_text d (slice_index_or names (d - 1) []) (f d))
    (range_with_len (a + 1) n)) (h a)
    ∙ ap (λ text. live_text a (slice_index_or names (a - 1) []) (g a) ++ text) (lines-alike names f g h (a + 1) n)

live-alike : (names : List (List ℕ)) (f g : ℕ → Bool) → ((d : ℕ) → f d ≡ g d) → live_lines names f ≡ live_lines names g
unfolding live_lines
live-alike names f g h = lines-alike names f g h 1 (length names)

report-alike : (names : List (List ℕ)) (f g : ℕ → Bool) (runs : List Span) → live_lines names f ≡ live_lines names g
    → report names f runs ≡ report names g runs
unfolding report
report-alike names f g runs e = rw e refl

-- marks of just the live domains answer as the rounds
marks-alike : (c : Core) (marks : List Bool) → MarkLive c marks → (d : ℕ) → is_marked marks d ≡ is_live c d
marks-alike c marks p d = by (is_marked marks d) refl
  where
    by : (b : Bool) → is_marked marks d ≡ b → b ≡ is_live c d
    by true e = sym ((live-rounds c d).1 ((p d).0 e))
    by false e = sym (false_from_ne_true (is_live c d) (λ l. both_ways (is_marked marks d) e ((p d).1 ((live-rounds c d).0 l))))

pub found_is_told : (f : Flat) (a : Audit) (names : List (List ℕ)) → MarkLive f.core a.live → a.sealed ≡ sealed_runs (flat_reads f) f.core →
    found_text names a ≡ audit_text names f
found_is_told f a names p e =
    report-alike names (is_marked a.live) (is_live f.core) a.sealed
    (live-alike names (is_marked a.live) (is_live f.core) (marks-alike f.core a.live p))
    ∙ ap (report names (is_live f.core)) e

-- The closing lines without those of --counts read no cache.
use Rattle.std.proofs.Common.{◌≡◌, ℕ, Bool, false, List, refl, sym, ◌∙◌, ap}
use Rattle.mx_model.specs.Run.{Schedule, run}
use Rattle.mx_model.specs.State.{State}
use Rattle.mx_uncached.specs.Forgetting.{bare, plain}
use Rattle.mx_uncached.specs.Plain.{Plain}
use Rattle.mx_uncached.proofs.RunLaws.{run-alike}
use Rattle.mx_report.specs.declared.closing.Options.{Options}
use Rattle.mx_report.specs.declared.lines.EndState.{EndState}
use Rattle.mx_report.specs.Texts.{all_domains, all_harts, all_items, asked_lines, closing, closing_of, table_lines}

-- the options of --tables, and of --counts where they are asked
abbrev with_counts : Bool → Bool → Options
with_counts tables counts = record { tables = tables; counts = counts }

without-counts : (names : List (List ℕ)) (end : EndState) (tables : Bool) (s : State) →
    closing names end (with_counts tables false) s ≡ closing names end (with_counts tables false) (bare (plain s))
unfolding closing_of asked_lines all_harts all_domains table_lines all_items
without-counts names end tables s = refl

closing-bare : (names : List (List ℕ)) (end : EndState) (options : Options) (s : State) → options.counts ≡ false →
    closing names end options s ≡ closing names end options (bare (plain s))
closing-bare names end options s e =
    ap (λ (b : Bool). closing names end (with_counts options.tables b) s) e
    ∙ without-counts names end options.tables s
    ∙ sym (ap (λ (b : Bool). closing names end (with_counts options.tables b) (bare (plain s))) e)

pub closing-alike : (names : List (List ℕ)) (end : EndState) (options : Options) (s t : State) →
    options.counts ≡ false → plain s ≡ plain t → closing names end options s ≡ closing names end options t
closing-alike names end options s t e q =
    closing-bare names end options s e ∙ ap (λ (p : Plain). closing names end options (bare p)) q
    ∙ sym (closing-bare names end options t e)

pub run-closing : (names : List (List ℕ)) (end : EndState) (options : Options) (p : Schedule) (n : ℕ) (s t : State) →
    options.counts ≡ false → plain s ≡ plain t →
    closing names end options (run p n s) ≡ closing names end options (run p n t)
run-closing names end options p n s t e q =
    closing-alike names end options (run p n s) (run p n t) e (run-alike p n s t q)

-- A turn of a hart that meets no border, or is halted: rights, gates, deaths, domains and standings stay.
use Rattle.std.proofs.Common.{List, ◌≡◌, ◌≢◌, ℕ, ◌%◌, true, false, ◌==◌, nat_lt, refl, sym, ◌∙◌, ap, subst, eqb-true, if◌then◌else◌}
use Rattle.std.proofs.lemmas.Bool.{eqb-false}
use Rattle.mx_words.specs.declared.perm.Perm.TheVariants as P
use Rattle.mx_words.specs.Newest.{Grant, at}
use Rattle.mx_model.specs.declared.values.TurnKind.{TurnKind}
use Rattle.mx_model.specs.Agreement.{Runs as Going, Ended, Nothing, border, standing}
use Rattle.mx_model.specs.Checks.{is_halted}
use Rattle.mx_model.specs.Reads.{reads, grants_of}
use Rattle.mx_model.specs.Run.{kind, made_of, turn}
use Rattle.mx_model.specs.State.{Hart, Status, Running, Waiting, Halted, State, hart_at}
use Rattle.mx_model.specs.Turn.{Action, Rests, Made, acted}
use Rattle.mx_model.specs.Valid.{IsValid}
use Rattle.mx_model.proofs.KeepLaws.{size-turned}
use Rattle.mx_laws.specs.After.{domain_at, standing_at}
use Rattle.mx_laws.specs.Quiet.{may_tell}
use Rattle.mx_laws.specs.Twins.{IsRunning, free_twins}
use Rattle.mx_laws.proofs.QuietLaws.{added-turn, standing-turned}
use Rattle.mx_laws.proofs.TurnParts.{IsAlike, apart, by-action, there}
use Rattle.mx_laws.proofs.TwinLaws.{ended-rests, idle-ended, left-twin, ran-free}

-- what such a turn of hart h leaves
pub record IsCalm (s : State) (h : ℕ) : Type 0 where
  pub quiet : may_tell (kind s h) ≡ false
  pub modules : (turn s h).core.modules ≡ s.core.modules
  pub gates : (turn s h).core.gates ≡ s.core.gates
  pub domain : domain_at (turn s h).core h ≡ domain_at s.core h
  pub others : (g : ℕ) → g ≢ h → IsAlike (hart_at s.core g) (hart_at (turn s h).core g)

-- a hart that runs and meets no border
abbrev pub GoesFree : State → ℕ → Type 0
GoesFree s h = IsRunning s.core h × (border (reads s) s.core h ≡ Nothing)

pub aligned-pc : (s : State) (h : ℕ) → IsValid s.core → IsRunning s.core h → (hart_at s.core h).pc % 4 ≡ 0
aligned-pc s h v e = (v.harts h (there s.core h (ap is_halted e))).pc.aligned

self-twins : (s : State) (h : ℕ) → IsValid s.core → GoesFree s h → free_twins s s h
self-twins s h v f = record {
  twins = record {
    words = refl;
    bytes = refl;
    aligned = aligned-pc s h v f.0;
    agreement = record {
      same_standing = refl;
      same_pc = refl;
      same_regs = refl;
      same_domain = refl;
      same_map = λ i. refl;
      same_death = refl;
      same_gates = λ i. refl;
      same_bytes = λ i p k l. refl;
    };
  };
  running = f.0;
  free = f.1;
}

pub calm-free : (s : State) (h : ℕ) → IsValid s.core → GoesFree s h → IsCalm s h
calm-free s h v f =
    let left = left-twin (reads s) s.core (reads s) s.core h (self-twins s h v f) in
    record {
      quiet = ap (λ (k : TurnKind). may_tell k) ((ran-free (reads s) s.core h f.0).1 f.1);
      modules = left.modules;
      gates = left.gates;
      domain = ap (λ (x : Hart). x.domain) left.own;
      others = left.others;
    }

-- what a halted hart's turn makes
abbrev idled : State → ℕ → Made
idled s h =
    let t = by-action (reads s) s.core h in
    acted (reads s) (apart s.core t.turns t.harts t.after) h (hart_at s.core h) Rests

made-ended : (s : State) (h : ℕ) → standing_at s.core h ≡ Ended → made_of s h ≡ idled s h
made-ended s h e =
    let r = reads s in
    let t = by-action r s.core h in
    let x = hart_at s.core h in
    t.is ∙ ap (λ (a : Action). acted r (apart s.core t.turns t.harts t.after) h x a)
    (ended-rests r (apart s.core t.turns t.harts t.before) h x x.status e)

-- a halted hart's turn leaves each hart, its own too
pub ended-alike : (s : State) (h : ℕ) → standing_at s.core h ≡ Ended → (g : ℕ) →
    IsAlike (hart_at s.core g) (hart_at (turn s h).core g)
ended-alike s h e g =
    let t = by-action (reads s) s.core h in
    subst (IsAlike (hart_at s.core g)) (sym (ap (λ (m : Made). hart_at m.core g) (made-ended s h e))) (t.heard.others g)

pub calm-ended : (s : State) (h : ℕ) → standing_at s.core h ≡ Ended → IsCalm s h
calm-ended s h e = record {
  quiet = ap (λ (k : TurnKind). may_tell k) ((idle-ended (reads s) s.core h).1 e);
  modules = ap (λ (m : Made). m.core.modules) (made-ended s h e);
  gates = ap (λ (m : Made). m.core.gates) (made-ended s h e);
  domain = sym (ended-alike s h e h).domain;
  others = λ g n. ended-alike s h e g;
}

-- rights stay
pub perm-calm : (s : State) (h : ℕ) → IsCalm s h → (d i : ℕ) → (reads (turn s h)).perm d i ≡ (reads s).perm d i
perm-calm s h c d i =
    ap (λ (size : ℕ). if nat_lt i size then at (grants_of (turn s h).grants d) i else P.None) (size-turned (reads s) s.core h)
    ∙ ap (λ (gs : List (List Grant)). if nat_lt i s.core.size then at (grants_of gs d) i else P.None)
    (added-turn s h c.quiet).grants

-- and so do domains and standings
pub domain-calm : (s : State) (h : ℕ) → IsCalm s h → (g : ℕ) → domain_at (turn s h).core g ≡ domain_at s.core g
domain-calm s h c g = elim (g == h) as (λ b. (g == h) ≡ b → domain_at (turn s h).core g ≡ domain_at s.core g) [
  | true ↦ λ e. subst (λ k. domain_at (turn s h).core k ≡ domain_at s.core k) (sym (eqb-true g h e)) c.domain
  | false ↦ λ e. sym (c.others g (eqb-false g h e)).domain
] refl

pub standing-calm : (s : State) (h : ℕ) → IsCalm s h → (g : ℕ) → standing_at (turn s h).core g ≡ standing_at s.core g
standing-calm s h c g = standing-turned (reads s) s.core h c.quiet g

-- a hart that goes runs
pub running-of : (x : Status) → standing x ≡ Going → x ≡ Running
running-of Running e = refl
running-of (Waiting call heard) e = absurd (let q : ⊥ = cc in q)
running-of (Halted code) e = absurd (let q : ⊥ = cc in q)

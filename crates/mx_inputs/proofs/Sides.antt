-- Two runs side by side whose harts meet no border: a hart of some domains sees the same in both, whatever harts of other domains do.
use Rattle.std.proofs.Common.{List, ◌≡◌, ◌≢◌, ◌⊎◌, inl, inr, ℕ, zero, suc, ◌+◌, ◌-◌, Bool, true, false, ◌==◌, ◌||◌, length, refl}
use Rattle.std.proofs.Common.{sym, ◌∙◌, ap, subst, arith, eqb-true}
use Rattle.std.specs.Prelude.{IsTrue}
use Rattle.std.proofs.lemmas.Bool.{eqb-false}
use Rattle.mx_words.specs.declared.perm.Perm.{Perm}
use Rattle.mx_words.specs.declared.perm.Access.TheVariants as A
use Rattle.mx_words.specs.Rights.{allows}
use Rattle.mx_model.specs.declared.values.Gate.{Gate}
use Rattle.mx_model.specs.Agreement.{Runs as Going, Ended, Nothing, agree, border, target_at}
use Rattle.mx_model.specs.Gates.{gate_target}
use Rattle.mx_model.specs.Reads.{Reads, reads}
use Rattle.mx_model.specs.Run.{Schedule, all_halted, hart_of, is_over, is_stopped, run, turn}
use Rattle.mx_model.specs.State.{Module, State, hart_at, module_at}
use Rattle.mx_model.proofs.KeepLaws.{keeps-turned, size-turned}
use Rattle.mx_laws.specs.After.{domain_at, standing_at}
use Rattle.mx_laws.specs.Foreign.{IsKept}
use Rattle.mx_laws.specs.Twins.{IsRunning}
use Rattle.mx_laws.proofs.AfterLaws.{agree-after, module_in}
use Rattle.mx_laws.proofs.ForeignLaws.{ram-halted}
use Rattle.mx_laws.proofs.QuietLaws.{end-turned}
use Rattle.mx_laws.proofs.TurnParts.{IsAlike}
use Rattle.mx_runs.specs.ForeignRuns.{HasLists}
use Rattle.mx_runs.proofs.ForeignRunLaws.{lists-run, state-word}
use Rattle.mx_laws.proofs.ForeignLaws.{kept-ram}
use Rattle.mx_runs.proofs.RunMoments.{no-more, one-more}
use Rattle.mx_inputs.specs.Free.{IsFree, MeetsNoBorder}
use Rattle.mx_inputs.proofs.Calm.{GoesFree, IsCalm, aligned-pc, calm-ended, calm-free, domain-calm, ended-alike, perm-calm, running-of}
use Rattle.mx_inputs.proofs.Calm.{standing-calm}
use Rattle.mx_runs.proofs.TwinRunLaws.{same-hart}

-- no module may write a word that another may read
abbrev pub AreApart : Reads → Type 0
AreApart r = (d e w : ℕ) → d - 1 ≢ e - 1 → IsTrue (allows (r.perm d w) A.Read) → allows (r.perm e w) A.Write ≡ false

-- each hart runs or is halted
abbrev pub NoneWaits : State → Type 0
NoneWaits s = (g : ℕ) → (standing_at s.core g ≡ Going) ⊎ (standing_at s.core g ≡ Ended)

-- two states that agree for each hart of some modules, and whose harts are in the same domains and stand alike
pub record AreSides (domain : ℕ → ℕ) (set : ℕ → Type 0) (s t : State) : Type 0 where
  pub first : HasLists s
  pub second : HasLists t
  pub words : s.core.size ≡ t.core.size
  pub harts : length s.core.harts ≡ length t.core.harts
  pub turns : s.core.turns ≡ t.core.turns
  pub end : all_halted s.core ≡ all_halted t.core
  pub domains : (g : ℕ) → domain_at s.core g ≡ domain g
  pub domains_too : (g : ℕ) → domain_at t.core g ≡ domain g
  pub standings : (g : ℕ) → standing_at s.core g ≡ standing_at t.core g
  pub going : NoneWaits s
  pub apart : AreApart (reads s)
  pub apart_too : AreApart (reads t)
  pub agreement : (g : ℕ) → set (domain g - 1) → agree s t g

-- a turn that leaves a hart, and the words that it may read, leaves it agreeing
agree-beside : (s t : State) (h g : ℕ) → IsCalm s h → IsCalm t h → agree s t g →
    IsAlike (hart_at s.core g) (hart_at (turn s h).core g) → IsAlike (hart_at t.core g) (hart_at (turn t h).core g) →
    ((w : ℕ) → IsTrue (allows ((reads s).perm (domain_at s.core g) w) A.Read) → IsKept s.core (turn s h).core w) →
    ((w : ℕ) → IsTrue (allows ((reads s).perm (domain_at s.core g) w) A.Read) → IsKept t.core (turn t h).core w) →
    agree (turn s h) (turn t h) g
agree-beside s t h g c e a x y kept kept_too =
    let d = domain_at s.core g in
    let stays : d ≡ domain_at (turn s h).core g = x.domain in
    record {
      same_standing = sym x.standing ∙ a.same_standing ∙ y.standing;
      same_pc = sym x.pc ∙ a.same_pc ∙ y.pc;
      same_regs = sym x.regs ∙ a.same_regs ∙ y.regs;
      same_domain = sym x.domain ∙ a.same_domain ∙ y.domain;
      same_map = λ i. subst (λ k. (reads (turn s h)).perm k i ≡ (reads (turn t h)).perm k i) stays
          (perm-calm s h c d i ∙ a.same_map i ∙ sym (perm-calm t h e d i));
      same_death = subst (λ k. (module_at (turn s h).core k).dead ≡ (module_at (turn t h).core k).dead) stays
          (ap (λ (ms : List Module). (module_in ms d).dead) c.modules ∙ a.same_death
          ∙ sym (ap (λ (ms : List Module). (module_in ms d).dead) e.modules));
      same_gates = λ i. subst (λ k. target_at (turn s h).core k i ≡ target_at (turn t h).core k i) stays
          (ap (λ (gs : List Gate). gate_target gs d i) c.gates ∙ a.same_gates i
          ∙ sym (ap (λ (gs : List Gate). gate_target gs d i) e.gates));
      same_bytes = λ i p k l.
          let may : IsTrue (allows ((reads s).perm d i) A.Read) =
          subst (λ (q : Perm). IsTrue (allows q A.Read)) (perm-calm s h c d i)
          (subst (λ k. IsTrue (allows ((reads (turn s h)).perm k i) A.Read)) (sym stays) p) in
          kept i may k l ∙ a.same_bytes i may k l ∙ sym (kept_too i may k l);
    }

-- a turn of a hart of another module keeps the words that a hart may read
kept-apart : (s : State) (h d w : ℕ) → HasLists s → AreApart (reads s) → IsCalm s h → d - 1 ≢ domain_at s.core h - 1 →
    IsTrue (allows ((reads s).perm d w) A.Read) → IsKept s.core (turn s h).core w
kept-apart s h d w lists apart c other may =
    let foreign = apart d (domain_at s.core h) w other may in
    state-word s h w lists foreign
    (ap (λ (p : Perm). allows p A.Write) (perm-calm s h c (domain_at s.core h) w) ∙ foreign)

-- one turn of hart h in both
module _ (domain : ℕ → ℕ) (set : ℕ → Type 0) (s t : State) (h : ℕ) (a : AreSides domain set s t) where
  -- of a halted hart
  agree-ended : standing_at s.core h ≡ Ended → (g : ℕ) → agree s t g → agree (turn s h) (turn t h) g
  agree-ended e g p =
      let f : standing_at t.core h ≡ Ended = sym (a.standings h) ∙ e in
      agree-beside s t h g (calm-ended s h e) (calm-ended t h f) p (ended-alike s h e g) (ended-alike t h f g)
      (λ w m. kept-ram s.core (turn s h).core w (ram-halted (reads s) s.core h e))
      (λ w m. kept-ram t.core (turn t h).core w (ram-halted (reads t) t.core h f))

  -- of one that meets no border
  module _ (f : GoesFree s h) (f_too : GoesFree t h) where
    agree-free : (g : ℕ) → set (domain g - 1) → (b : Bool) → (domain g - 1 == domain h - 1) ≡ b → agree (turn s h) (turn t h) g
    agree-free g i true e =
        let own : set (domain h - 1) = subst set (eqb-true (domain g - 1) (domain h - 1) e) i in
        agree-after s t h g (record {
          twins = record {
            words = a.words;
            bytes = let p = a.first.valid.ram_count in let q = a.second.valid.ram_count in let r = a.words in omega (arith, p, q, r);
            aligned = aligned-pc s h a.first.valid f.0;
            agreement = a.agreement h own;
          };
          running = f.0;
          free = f.1;
        }) (a.agreement g i)
    agree-free g i false e =
        let c = calm-free s h a.first.valid f in
        let c_too = calm-free t h a.second.valid f_too in
        let d = domain_at s.core g in
        let p = a.agreement g i in
        let named : domain g - 1 ≢ domain h - 1 = eqb-false (domain g - 1) (domain h - 1) e in
        let other : g ≢ h = λ n. named (ap (λ k. domain k - 1) n) in
        let here : d - 1 ≢ domain h - 1 = subst (λ k. k - 1 ≢ domain h - 1) (sym (a.domains g)) named in
        let apart : d - 1 ≢ domain_at s.core h - 1 = subst (λ k. d - 1 ≢ k - 1) (sym (a.domains h)) here in
        let apart_too : d - 1 ≢ domain_at t.core h - 1 = subst (λ k. d - 1 ≢ k - 1) (sym (a.domains_too h)) here in
        agree-beside s t h g c c_too p (c.others g other) (c_too.others g other)
        (λ w m. kept-apart s h d w a.first a.apart c apart m)
        (λ w m. kept-apart t h d w a.second a.apart_too c_too apart_too
        (subst (λ (q : Perm). IsTrue (allows q A.Read)) (p.same_map w) m))

  sides-calm : IsCalm s h → IsCalm t h → ((g : ℕ) → set (domain g - 1) → agree (turn s h) (turn t h) g) →
      HasLists (turn s h) → HasLists (turn t h) → AreSides domain set (turn s h) (turn t h)
  sides-calm c e agreed lists lists_too =
      let k = keeps-turned (reads s) s.core h in
      let l = keeps-turned (reads t) t.core h in
      record {
        first = lists;
        second = lists_too;
        words = size-turned (reads s) s.core h ∙ a.words ∙ sym (size-turned (reads t) t.core h);
        harts = k.harts ∙ a.harts ∙ sym l.harts;
        turns = k.turns ∙ ap (λ n. n + 1) a.turns ∙ sym l.turns;
        end = end-turned (reads s) s.core h c.quiet ∙ a.end ∙ sym (end-turned (reads t) t.core h e.quiet);
        domains = λ g. domain-calm s h c g ∙ a.domains g;
        domains_too = λ g. domain-calm t h e g ∙ a.domains_too g;
        standings = λ g. standing-calm s h c g ∙ a.standings g ∙ sym (standing-calm t h e g);
        going = λ g. subst (λ x. (x ≡ Going) ⊎ (x ≡ Ended)) (sym (standing-calm s h c g)) (a.going g);
        apart = apart-after s c a.apart;
        apart_too = apart-after t e a.apart_too;
        agreement = agreed;
      }
    where
      apart-after : (u : State) → IsCalm u h → AreApart (reads u) → AreApart (reads (turn u h))
      apart-after u q p d f w other may =
          ap (λ (x : Perm). allows x A.Write) (perm-calm u h q f w)
          ∙ p d f w other (subst (λ (x : Perm). IsTrue (allows x A.Read)) (perm-calm u h q d w) may)

  -- the turn in both: of a halted hart, or of one that meets no border in either
  sides-turn : HasLists (turn s h) → HasLists (turn t h) → (standing_at s.core h ≡ Ended) ⊎ (GoesFree s h × GoesFree t h) →
      AreSides domain set (turn s h) (turn t h)
  sides-turn lists lists_too (inl e) =
      sides-calm (calm-ended s h e) (calm-ended t h (sym (a.standings h) ∙ e)) (λ g i. agree-ended e g (a.agreement g i)) lists lists_too
  sides-turn lists lists_too (inr f) =
      sides-calm (calm-free s h a.first.valid f.0) (calm-free t h a.second.valid f.1)
      (λ g i. agree-free f.0 f.1 g i (domain g - 1 == domain h - 1) refl) lists lists_too

same-stop : (schedule : Schedule) (s t : State) → all_halted s.core ≡ all_halted t.core → s.core.turns ≡ t.core.turns →
    is_stopped schedule s ≡ is_stopped schedule t
same-stop schedule s t e n = ap (λ b. b || is_over schedule s.core.turns) e ∙ ap (λ k. all_halted t.core || is_over schedule k) n

-- hart h, if it runs, meets no border; so it goes free
abbrev IsFreeAt : State → ℕ → Type 0
IsFreeAt s h = IsRunning s.core h → border (reads s) s.core h ≡ Nothing

free-of : (s : State) (h : ℕ) → standing_at s.core h ≡ Going → IsFreeAt s h → GoesFree s h
free-of s h g f = let e = running-of (hart_at s.core h).status g in (e, f e)

-- one turn more of both runs
module _ (domain : ℕ → ℕ) (set : ℕ → Type 0) (schedule : Schedule) (s t : State) (m : ℕ) where
  abbrev now : State
  now = run schedule m s

  abbrev now_too : State
  now_too = run schedule m t

  sides-going : AreSides domain set now now_too → HasLists s → HasLists t → IsFree schedule now → IsFree schedule now_too →
      is_stopped schedule now ≡ false → AreSides domain set (run schedule (m + 1) s) (run schedule (m + 1) t)
  sides-going a first second f f_too e =
      let h = hart_of schedule now.core in
      let same : h ≡ hart_of schedule now_too.core = same-hart schedule now.core now_too.core a.turns a.harts in
      let e_too : is_stopped schedule now_too ≡ false = sym (same-stop schedule now now_too a.end a.turns) ∙ e in
      let next : run schedule (m + 1) s ≡ turn now h = one-more schedule m s e in
      let next_too : run schedule (m + 1) t ≡ turn now_too h =
      one-more schedule m t e_too ∙ ap (λ g. turn now_too g) (sym same) in
      let moves : (standing_at now.core h ≡ Ended) ⊎ (GoesFree now h × GoesFree now_too h) = elim (a.going h) [
        | inl g ↦ inr (
          free-of now h g (f e),
          free-of now_too h (sym (a.standings h) ∙ g)
              (subst (λ k. IsFreeAt now_too k) (sym same) (f_too e_too)),
        )
        | inr g ↦ inl g
      ] in
      let lists : HasLists (turn now h) = subst HasLists next (lists-run schedule (m + 1) s first) in
      let lists_too : HasLists (turn now_too h) = subst HasLists next_too (lists-run schedule (m + 1) t second) in
      subst (λ x. AreSides domain set x (run schedule (m + 1) t)) (sym next)
      (subst (λ y. AreSides domain set (turn now h) y) (sym next_too) (sides-turn domain set now now_too h a lists lists_too moves))

  sides-more : AreSides domain set now now_too → HasLists s → HasLists t → IsFree schedule now → IsFree schedule now_too →
      (b : Bool) → is_stopped schedule now ≡ b → AreSides domain set (run schedule (m + 1) s) (run schedule (m + 1) t)
  sides-more a first second f f_too false e = sides-going a first second f f_too e
  sides-more a first second f f_too true e =
      let e_too : is_stopped schedule now_too ≡ true = sym (same-stop schedule now now_too a.end a.turns) ∙ e in
      subst (λ x. AreSides domain set x (run schedule (m + 1) t)) (sym (no-more schedule m s e))
      (subst (λ y. AreSides domain set now y) (sym (no-more schedule m t e_too)) a)

pub sides-run : (domain : ℕ → ℕ) (set : ℕ → Type 0) (schedule : Schedule) (s t : State) (n : ℕ) → AreSides domain set s t →
    MeetsNoBorder schedule s n → MeetsNoBorder schedule t n → AreSides domain set (run schedule n s) (run schedule n t)
sides-run domain set schedule s t zero a f f_too = a
sides-run domain set schedule s t (suc m) a f f_too =
    let next : m + 1 ≡ suc m = omega arith in
    let before = sides-run domain set schedule s t m a (λ k l. f k (omega (arith, l))) (λ k l. f_too k (omega (arith, l))) in
    subst (λ k. AreSides domain set (run schedule k s) (run schedule k t)) next
    (sides-more domain set schedule s t m before a.first a.second (f m (omega arith)) (f_too m (omega arith))
    (is_stopped schedule (run schedule m s)) refl)

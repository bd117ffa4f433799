-- Two machines watched for a domain: what is found after a turn is right.
use Rattle.std.proofs.Common.{◌≡◌, ◌≢◌, ℕ, ◌+◌, ◌<◌, ◌≤◌, Bool, true, false, not, cond, ◌==◌, ◌&&◌, ◌||◌, [], ◌∷◌, length, refl, sym, ◌∙◌}
use Rattle.std.proofs.Common.{ap, subst, arith, eqb-true, if◌then◌else◌, Some, None, ⊎_elim}
use Rattle.std.specs.Bool.{Decides}
use Rattle.std.specs.List.{range_with_len}
use Rattle.std.proofs.Math.ListN.{get_or-eq_default}
use Rattle.std.proofs.lemmas.Bool.{and_from, and_parts, eqb-false, false_from_ne_true, not-false, not-true, or_cases, or_parts}
use Rattle.mx_words.specs.declared.perm.Perm.TheVariants as P
use Rattle.mx_model.specs.declared.values.TurnKind.TheVariants as T
use Rattle.mx_model.specs.Agreement.{Ended, Standing, Runs, Waits, flat_agree, standing}
use Rattle.mx_model.specs.Checks.{is_halted, is_ready}
use Rattle.mx_model.specs.Reads.{Reads, flat_reads, map_in}
use Rattle.mx_model.specs.Run.{flat_kind, flat_turn}
use Rattle.mx_model.specs.State.{Core, Flat, Hart, Status, Running, Waiting, Halted, hart_at}
use Rattle.mx_model.specs.Turn.{Made, Serves, acted, by_status, turned}
use Rattle.mx_model.specs.Turn.{Waits as WaitsOn}
use Rattle.mx_laws.specs.Comparison.{AreFit, IsBounded}
use Rattle.mx_laws.specs.Twins.{flat_free_twins}
use Rattle.mx_laws.proofs.AfterLaws.{flat-agree-after}
use Rattle.mx_laws.proofs.ComparisonLaws.{agrees-decides}
use Rattle.mx_laws.proofs.TurnParts.{apart, by-action, there}
use Rattle.mx_laws.proofs.TwinLaws.{left-twin, ran-free}
use Rattle.mx_touched.specs.Rest.{AreSameHarts}
use Rattle.mx_touched.specs.Views.{AreSameViews, same_hart, same_views}
use Rattle.mx_touched.specs.Pairs.{ArePair, IsRight, IsSound, Knows, any_compared, fails, flat_agrees, flat_same_touched, flat_touched}
use Rattle.mx_touched.specs.Pairs.{found_known, found_unknown, is_compared, is_inside, same_if_compared}
use Rattle.mx_touched.proofs.Decide.{decides-hart, touched-decide, views-decides}
use Rattle.mx_touched.proofs.Leaves.{leaves-flat}
use Rattle.mx_touched.proofs.Tests.{any-found, any-missed, any-none, any-some}
use Rattle.mx_laws.proofs.QuietLaws.{ended-status}

-- harts
same-back : (x y : Hart) → AreSameHarts x y → AreSameHarts y x
same-back x y s = record { standing = sym s.standing; pc = sym s.pc; regs = sym s.regs; domain = sym s.domain }

same-chain : (x y z : Hart) → AreSameHarts x y → AreSameHarts y z → AreSameHarts x z
same-chain x y z s t = record {
  standing = s.standing ∙ t.standing;
  pc = s.pc ∙ t.pc;
  regs = s.regs ∙ t.regs;
  domain = s.domain ∙ t.domain;
}

abbrev has_ended : Standing → Bool
has_ended Runs = false
has_ended Waits = false
has_ended Ended = true

pub same-halted : (s t : Status) → standing s ≡ standing t → is_halted s ≡ is_halted t
same-halted s t e = ended-status s ∙ ap has_ended e ∙ sym (ended-status t)

inside-same : (d : ℕ) (x y : Hart) → AreSameHarts x y → is_inside d x ≡ is_inside d y
inside-same d x y s =
    ap (λ (b : Bool). not b && (x.domain == d)) (same-halted x.status y.status s.standing)
    ∙ ap (λ (n : ℕ). not (is_halted y.status) && (n == d)) s.domain

inside-domain : (d : ℕ) (x : Hart) → is_inside d x ≡ true → x.domain ≡ d
inside-domain d x e = eqb-true x.domain d (and_parts (not (is_halted x.status)) (x.domain == d) e).1

inside-live : (d : ℕ) (x : Hart) → is_inside d x ≡ true → is_halted x.status ≡ false
inside-live d x e = not-true (is_halted x.status) (and_parts (not (is_halted x.status)) (x.domain == d) e).0

-- a hart that is compared
compared-beside : (d : ℕ) (f g u v : Flat) (i : ℕ) → AreSameHarts (hart_at f.core i) (hart_at u.core i) →
    AreSameHarts (hart_at g.core i) (hart_at v.core i) → is_compared d f g i ≡ is_compared d u v i
compared-beside d f g u v i s t =
    ap (λ (b : Bool). b || is_inside d (hart_at g.core i)) (inside-same d (hart_at f.core i) (hart_at u.core i) s)
    ∙ ap (λ (b : Bool). is_inside d (hart_at u.core i) || b) (inside-same d (hart_at g.core i) (hart_at v.core i) t)

pub compared-domain : (d : ℕ) (f g : Flat) (i : ℕ) → is_compared d f g i ≡ true → AreSameHarts (hart_at f.core i) (hart_at g.core i) →
    (hart_at f.core i).domain ≡ d
compared-domain d f g i e s =
    ⊎_elim (λ a. inside-domain d (hart_at f.core i) a) (λ a. s.domain ∙ inside-domain d (hart_at g.core i) a)
    (or_cases (is_inside d (hart_at f.core i)) (is_inside d (hart_at g.core i)) e)

pub compared-live : (d : ℕ) (f g : Flat) (i : ℕ) → is_compared d f g i ≡ true → AreSameHarts (hart_at f.core i) (hart_at g.core i) →
    is_halted (hart_at f.core i).status ≡ false
compared-live d f g i e s =
    ⊎_elim (λ a. inside-live d (hart_at f.core i) a)
    (λ a. same-halted (hart_at f.core i).status (hart_at g.core i).status s.standing ∙ inside-live d (hart_at g.core i) a)
    (or_cases (is_inside d (hart_at f.core i)) (is_inside d (hart_at g.core i)) e)

compared-there : (d : ℕ) (f g : Flat) (i : ℕ) → ArePair f g → is_compared d f g i ≡ true → i < 0 + length f.core.harts
compared-there d f g i p e =
    let l : i < length f.core.harts =
    ⊎_elim (λ a. there f.core i (inside-live d (hart_at f.core i) a))
    (λ a. subst (λ (n : ℕ). i < n) (sym p.harts) (there g.core i (inside-live d (hart_at g.core i) a)))
    (or_cases (is_inside d (hart_at f.core i)) (is_inside d (hart_at g.core i)) e) in
    omega (arith, l)

any-compared : (d : ℕ) (f g : Flat) (i : ℕ) → ArePair f g → any_compared d f g ≡ false → is_compared d f g i ≡ false
any-compared d f g i p e =
    false_from_ne_true (is_compared d f g i) (λ (a : is_compared d f g i ≡ true).
    let m : is_compared d f g i ≡ false =
    any-missed (is_compared d f g) 0 (length f.core.harts) i e (omega arith) (compared-there d f g i p a) in
    let q : ⊥ = cc in q)

-- agreement as a test, and by its parts
bounded : (f : Flat) → IsSound f → IsBounded (flat_reads f) f.core
bounded f s = record {
  outside = λ d word l.
      get_or-eq_default (map_in f.core.size f.maps d) P.None (subst (λ (n : ℕ). n ≤ word) (sym (s.whole d)) l);
}

pub fit : (f g : Flat) → ArePair f g → AreFit (flat_reads f) f.core (flat_reads g) g.core
fit f g p = record { words = p.words; first = bounded f p.first; second = bounded g p.second }

pub agrees-is : (f g : Flat) (i : ℕ) → ArePair f g → Decides (flat_agrees f g i) (flat_agree f g i)
agrees-is f g i p = agrees-decides (flat_reads f) (flat_reads g) f.core g.core i (fit f g p)

-- what domain d sees of both
abbrev pub Views : ℕ → Flat → Flat → Type 0
Views d f g = AreSameViews (flat_reads f) f.core (flat_reads g) g.core d

agree-from : (d : ℕ) (f g : Flat) (i : ℕ) → AreSameHarts (hart_at f.core i) (hart_at g.core i) → (hart_at f.core i).domain ≡ d →
    Views d f g → flat_agree f g i
agree-from d f g i s e v =
    let w : Views (hart_at f.core i).domain f g = subst (λ (n : ℕ). Views n f g) (sym e) v in
    record {
      same_standing = s.standing;
      same_pc = s.pc;
      same_regs = s.regs;
      same_domain = s.domain;
      same_map = w.map;
      same_death = w.death;
      same_gates = w.gates;
      same_bytes = w.bytes;
    }

pub agree-hart : (f g : Flat) (i : ℕ) → flat_agree f g i → AreSameHarts (hart_at f.core i) (hart_at g.core i)
agree-hart f g i a = record { standing = a.same_standing; pc = a.same_pc; regs = a.same_regs; domain = a.same_domain }

agree-views : (d : ℕ) (f g : Flat) (i : ℕ) → flat_agree f g i → (hart_at f.core i).domain ≡ d → Views d f g
agree-views d f g i a e =
    let w : Views (hart_at f.core i).domain f g =
    record { map = a.same_map; death = a.same_death; gates = a.same_gates; bytes = a.same_bytes } in
    subst (λ (n : ℕ). Views n f g) e w

-- agreement fails for no hart, or for one
fails-none : (d : ℕ) (f g : Flat) → ((i : ℕ) → is_compared d f g i ≡ true → flat_agrees f g i ≡ true) → fails d f g ≡ false
fails-none d f g k = any-none (λ i. is_compared d f g i && not (flat_agrees f g i)) (range_with_len 0 (length f.core.harts))
    (λ i. by i (is_compared d f g i) refl)
  where
    by : (i : ℕ) (b : Bool) → is_compared d f g i ≡ b → b && not (flat_agrees f g i) ≡ false
    by i true e = ap not (k i e)
    by i false e = refl

fails-some : (d : ℕ) (f g : Flat) (i : ℕ) → ArePair f g → is_compared d f g i ≡ true → flat_agrees f g i ≡ false → fails d f g ≡ true
fails-some d f g i p e n =
    any-some (λ j. is_compared d f g j && not (flat_agrees f g j)) 0 (length f.core.harts) i (omega arith) (compared-there d f g i p e)
    (and_from (is_compared d f g i) (not (flat_agrees f g i)) e (ap not n))

fails-unlike : (d : ℕ) (f g : Flat) (i : ℕ) → ArePair f g → is_compared d f g i ≡ true → (flat_agree f g i → ⊥) → fails d f g ≡ true
fails-unlike d f g i p e n =
    fails-some d f g i p e (false_from_ne_true (flat_agrees f g i) (λ a. n ((agrees-is f g i p).0 a)))

pub agreed-each : (d : ℕ) (f g : Flat) (i : ℕ) → ArePair f g → fails d f g ≡ false → is_compared d f g i ≡ true → flat_agree f g i
agreed-each d f g i p n e =
    let m : (is_compared d f g i && not (flat_agrees f g i)) ≡ false =
    any-missed (λ j. is_compared d f g j && not (flat_agrees f g j)) 0 (length f.core.harts) i n (omega arith) (compared-there d f g i p e)
    in
    (agrees-is f g i p).0 (not-false (flat_agrees f g i) (sym (ap (λ (b : Bool). b && not (flat_agrees f g i)) e) ∙ m))

-- where something is known, agreement holds
known-agree : (d : ℕ) (f g : Flat) (known : Bool) (i : ℕ) → Knows d f g known → is_compared d f g i ≡ true → flat_agree f g i
known-agree d f g true i k e = agree-from d f g i (k.harts i e) (compared-domain d f g i e (k.harts i e)) (k.views refl)
known-agree d f g false i k e = let n = k.none refl i in absurd (let q : ⊥ = cc in q)

pub known-holds : (d : ℕ) (f g : Flat) (known : Bool) → ArePair f g → Knows d f g known → fails d f g ≡ false
known-holds d f g known p k = fails-none d f g (λ i e. (agrees-is f g i p).1 (known-agree d f g known i k e))

-- nothing is known but that no hart is compared
unknown : (d : ℕ) (f g : Flat) → ((i : ℕ) → is_compared d f g i ≡ false) → Knows d f g false
unknown d f g n = record {
  harts = λ i e. let m = n i in absurd (let q : ⊥ = cc in q);
  views = λ e. absurd (let q : ⊥ = cc in q);
  none = λ e. n;
}

-- a turn of hart h in both
module _ (d h : ℕ) (f g : Flat) (p : ArePair f g) (q : ArePair (flat_turn f h) (flat_turn g h)) where
  abbrev u : Flat
  u = flat_turn f h

  abbrev v : Flat
  v = flat_turn g h

  other-first : (i : ℕ) → i ≢ h → AreSameHarts (hart_at f.core i) (hart_at u.core i)
  other-first i n = (leaves-flat f h p.first.valid).rest.harts i n

  other-second : (i : ℕ) → i ≢ h → AreSameHarts (hart_at g.core i) (hart_at v.core i)
  other-second i n = (leaves-flat g h p.second.valid).rest.harts i n

  other-compared : (i : ℕ) → i ≢ h → is_compared d f g i ≡ is_compared d u v i
  other-compared i n = compared-beside d f g u v i (other-first i n) (other-second i n)

  other-same : (i : ℕ) → i ≢ h → AreSameHarts (hart_at f.core i) (hart_at g.core i) → AreSameHarts (hart_at u.core i) (hart_at v.core i)
  other-same i n s =
      same-chain (hart_at u.core i) (hart_at f.core i) (hart_at v.core i)
      (same-back (hart_at f.core i) (hart_at u.core i) (other-first i n))
      (same-chain (hart_at f.core i) (hart_at g.core i) (hart_at v.core i) s (other-second i n))

  -- hart h is the same in both if it is compared: then all harts that are compared are
  harts-after : (known : Bool) → Knows d f g known → (is_compared d u v h ≡ true → AreSameHarts (hart_at u.core h) (hart_at v.core h)) →
      (i : ℕ) → is_compared d u v i ≡ true → AreSameHarts (hart_at u.core i) (hart_at v.core i)
  harts-after known k s i e = by (i == h) refl
    where
      by : (b : Bool) → (i == h) ≡ b → AreSameHarts (hart_at u.core i) (hart_at v.core i)
      by true n =
          let same : h ≡ i = sym (eqb-true i h n) in
          subst (λ (j : ℕ). AreSameHarts (hart_at u.core j) (hart_at v.core j)) same
          (s (subst (λ (j : ℕ). is_compared d u v j ≡ true) (sym same) e))
      by false n = let beside = eqb-false i h n in other-same i beside (k.harts i (other-compared i beside ∙ e))

  -- the domain saw the same before
  module _ (k : Knows d f g true) where
    abbrev seen : Bool
    seen = flat_same_touched d u v (flat_touched f h) && flat_same_touched d u v (flat_touched g h)

    decided : Decides seen (Views d u v)
    decided =
        touched-decide (flat_reads f) f.core (flat_reads g) g.core (flat_reads u) u.core (flat_reads v) v.core (flat_touched f h)
        (flat_touched g h) h d (k.views refl) (leaves-flat f h p.first.valid) (leaves-flat g h p.second.valid)

    known-same : seen ≡ true → (b : Bool) → same_if_compared d u v h ≡ b → IsRight d u v (if b then Some true else None)
    known-same s true e = record {
      harts = harts-after true k (λ c. (decides-hart (hart_at u.core h) (hart_at v.core h)).0 (same-of c));
      views = λ n. decided.0 s;
      none = λ n. absurd (let z : ⊥ = cc in z);
    }
      where
        same-of : is_compared d u v h ≡ true → same_hart (hart_at u.core h) (hart_at v.core h) ≡ true
        same-of c = sym (ap (λ (b : Bool). not b || same_hart (hart_at u.core h) (hart_at v.core h)) c) ∙ e
    known-same s false e =
        let parts = or_parts (not (is_compared d u v h)) (same_hart (hart_at u.core h) (hart_at v.core h)) e in
        fails-unlike d u v h q (not-false (is_compared d u v h) parts.0) (λ a.
        let m = (decides-hart (hart_at u.core h) (hart_at v.core h)).1 (agree-hart u v h a) in
        let other = parts.1 in
        let z : ⊥ = cc in z)

    known-unlike : seen ≡ false → (b : Bool) → any_compared d u v ≡ b → IsRight d u v (if b then None else Some false)
    known-unlike s true e =
        let one = any-found (is_compared d u v) (range_with_len 0 (length u.core.harts)) e in
        fails-unlike d u v one.at q one.hit (λ a.
        let m = decided.1 (agree-views d u v one.at a (compared-domain d u v one.at one.hit (agree-hart u v one.at a))) in
        let z : ⊥ = cc in z)
    known-unlike s false e = unknown d u v (λ i. any-compared d u v i q e)

    known-by : (b : Bool) → seen ≡ b →
        IsRight d u v (if b then if same_if_compared d u v h then Some true else None
        else if any_compared d u v then None else Some false)
    known-by true s = known-same s (same_if_compared d u v h) refl
    known-by false s = known-unlike s (any_compared d u v) refl

    pub known-right : IsRight d u v (found_known d u v h (flat_touched f h) (flat_touched g h))
    known-right = known-by seen refl

  -- no hart was compared before
  module _ (k : Knows d f g false) where
    others-out : (i : ℕ) → i ≢ h → is_compared d u v i ≡ false
    others-out i n = sym (other-compared i n) ∙ k.none refl i

    all-out : is_compared d u v h ≡ false → (i : ℕ) → is_compared d u v i ≡ false
    all-out e i = by (i == h) refl
      where
        by : (b : Bool) → (i == h) ≡ b → is_compared d u v i ≡ false
        by true n = subst (λ (j : ℕ). is_compared d u v j ≡ false) (sym (eqb-true i h n)) e
        by false n = others-out i (eqb-false i h n)

    abbrev alike : Bool
    alike = same_hart (hart_at u.core h) (hart_at v.core h) && same_views (flat_reads u) u.core (flat_reads v) v.core d

    came-in : is_compared d u v h ≡ true → (b : Bool) → alike ≡ b → IsRight d u v (if b then Some true else None)
    came-in c true e =
        let parts = and_parts (same_hart (hart_at u.core h) (hart_at v.core h)) (same_views (flat_reads u) u.core (flat_reads v) v.core d) e
        in
        record {
          harts = harts-after false k (λ n. (decides-hart (hart_at u.core h) (hart_at v.core h)).0 parts.0);
          views = λ n. (views-decides (flat_reads u) u.core (flat_reads v) v.core d (fit u v q)).0 parts.1;
          none = λ n. absurd (let z : ⊥ = cc in z);
        }
    came-in c false e =
        fails-unlike d u v h q c (λ a.
        let s = agree-hart u v h a in
        let m = and_from (same_hart (hart_at u.core h) (hart_at v.core h)) (same_views (flat_reads u) u.core (flat_reads v) v.core d)
        ((decides-hart (hart_at u.core h) (hart_at v.core h)).1 s)
        ((views-decides (flat_reads u) u.core (flat_reads v) v.core d (fit u v q)).1 (agree-views d u v h a (compared-domain d u v h c s)))
        in
        let z : ⊥ = cc in z)

    unknown-by : (b : Bool) → is_compared d u v h ≡ b →
        IsRight d u v (if not b then Some false else if alike then Some true else None)
    unknown-by true c = came-in c alike refl
    unknown-by false c = unknown d u v (all-out c)

    pub unknown-right : IsRight d u v (found_unknown d u v h)
    unknown-right = unknown-by (is_compared d u v h) refl

-- a turn that carries out an instruction is a running hart's
ran-status : (r : Reads) (c e : Core) (h : ℕ) (x : Hart) (s : Status) → (acted r e h x (by_status r c h x s).action).kind ≡ T.Ran
    → s ≡ Running
ran-status r c e h x Running k = refl
ran-status r c e h x (Waiting call heard) k = absurd (by (is_ready c h heard) k)
  where
    by : (b : Bool) → (acted r e h x (cond b (Serves call) WaitsOn)).kind ≡ T.Ran → ⊥
    by true n = let z : ⊥ = cc in z
    by false n = let z : ⊥ = cc in z
ran-status r c e h x (Halted code) k = absurd (let z : ⊥ = cc in z)

ran-running : (r : Reads) (c : Core) (h : ℕ) → (turned r c h).kind ≡ T.Ran → (hart_at c h).status ≡ Running
ran-running r c h k =
    let t = by-action r c h in
    let x = hart_at c h in
    ran-status r (apart c t.turns t.harts t.before) (apart c t.turns t.harts t.after) h x x.status
    (sym (ap (λ (m : Made). m.kind) t.is) ∙ k)

-- such a turn of a hart that was compared: the two are twins that meet no border
module _ (d h : ℕ) (f g : Flat) (p : ArePair f g) (k : Knows d f g true) (c : is_compared d f g h ≡ true) (n : flat_kind f h ≡ T.Ran) where
  agree-now : (i : ℕ) → is_compared d f g i ≡ true → flat_agree f g i
  agree-now i e = known-agree d f g true i k e

  free : flat_free_twins f g h
  free =
      let running = ran-running (flat_reads f) f.core h n in
      let first = p.first.valid.ram_count in
      let second = p.second.valid.ram_count in
      let words = p.words in
      record {
        twins = record {
          words = words;
          bytes = omega (arith, first, second, words);
          aligned = (p.first.valid.harts h (there f.core h (ap is_halted running))).pc.aligned;
          agreement = agree-now h c;
        };
        running = running;
        free = (ran-free (flat_reads f) f.core h running).0 n;
      }

  abbrev after : Flat
  after = flat_turn f h

  abbrev beside : Flat
  beside = flat_turn g h

  compared-now : (i : ℕ) → is_compared d after beside i ≡ true → is_compared d f g i ≡ true
  compared-now i e = by (i == h) refl
    where
      by : (b : Bool) → (i == h) ≡ b → is_compared d f g i ≡ true
      by true m = subst (λ (j : ℕ). is_compared d f g j ≡ true) (sym (eqb-true i h m)) c
      by false m =
          let other = eqb-false i h m in
          compared-beside d f g after beside i ((leaves-flat f h p.first.valid).rest.harts i other)
          ((leaves-flat g h p.second.valid).rest.harts i other) ∙ e

  domain-stays : (hart_at after.core h).domain ≡ d
  domain-stays =
      ap (λ (x : Hart). x.domain) (left-twin (flat_reads f) f.core (flat_reads g) g.core h free).own
      ∙ compared-domain d f g h c (k.harts h c)

  ran-known : Knows d after beside true
  ran-known = record {
    harts = λ i e. agree-hart after beside i (flat-agree-after f g h i free (agree-now i (compared-now i e)));
    views = λ e. agree-views d after beside h (flat-agree-after f g h h free (agree-now h c)) domain-stays;
    none = λ e. absurd (let z : ⊥ = cc in z);
  }

pub ran-right : (d h : ℕ) (f g : Flat) (known : Bool) → ArePair f g → Knows d f g known → is_compared d f g h ≡ true →
    flat_kind f h ≡ T.Ran → Knows d (flat_turn f h) (flat_turn g h) true
ran-right d h f g true p k c n = ran-known d h f g p k c n
ran-right d h f g false p k c n = let m = k.none refl h in absurd (let z : ⊥ = cc in z)

-- at the start
pub start-known : (d : ℕ) (f g : Flat) → ArePair f g → fails d f g ≡ false → Knows d f g (any_compared d f g)
start-known d f g p n = record {
  harts = λ i e. agree-hart f g i (agreed-each d f g i p n e);
  views = λ e.
      let one = any-found (is_compared d f g) (range_with_len 0 (length f.core.harts)) e in
      let a = agreed-each d f g one.at p n one.hit in
      agree-views d f g one.at a (compared-domain d f g one.at one.hit (agree-hart f g one.at a));
  none = λ e i. any-compared d f g i p e;
}

-- where no hart is compared
pub out-holds : (d : ℕ) (f g : Flat) → ((i : ℕ) → is_compared d f g i ≡ false) → fails d f g ≡ false
out-holds d f g n = fails-none d f g (λ i e. let m = n i in absurd (let z : ⊥ = cc in z))

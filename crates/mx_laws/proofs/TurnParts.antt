-- A turn of hart h is one action, done in a state that differs from the one before in the number of turns, in caches and in what the other
-- harts'
-- calls have been heard by.
use Rattle.std.proofs.Common.{◌≡◌, ℕ, ◌+◌, ◌<◌, ◌≤◌, Bool, true, false, cond, ◌==◌, nat_lt, List, length, get_or, refl, sym, ◌∙◌, ap, subst}
use Rattle.std.proofs.Common.{zero-add, if◌then◌else◌}
use Rattle.std.proofs.Common.{map as list_map}
use Rattle.std.specs.List.{enumerate_from}
use Rattle.std.proofs.Math.ListN.{get_or-eq_default}
use Rattle.std.proofs.lemmas.Bool.{ltb-true, ltb-false, eqb-false}
use Rattle.std.proofs.lemmas.List.{length-map, get_or-map}
use Rattle.std.proofs.lemmas.List.FromFn.{length-enumerate_from, get_or-enumerate_from}
use Rattle.mx_words.specs.Caches.{Cache}
use Rattle.mx_model.specs.Agreement.{standing}
use Rattle.mx_model.specs.Checks.{hears, heard_by, looked_all, is_halted}
use Rattle.mx_model.specs.Reads.{Reads}
use Rattle.mx_model.specs.State.{Core, Hart, Status, Running, Waiting, Halted, no_hart, hart_at}
use Rattle.mx_model.specs.Turn.{Decided, acted, enacted, decide, heard_first, counted, turned, by_status}
use Rattle.mx_model.proofs.TurnCases.{looked_all-caches}
use Rattle.mx_model.proofs.ValidParts.{hearing}

-- a hart that another one hears has what it had but for the set of those who have heard its call
pub record IsAlike (x y : Hart) : Type 0 where
  pub standing : standing x.status ≡ standing y.status
  pub pc : x.pc ≡ y.pc
  pub regs : x.regs ≡ y.regs
  pub domain : x.domain ≡ y.domain
  pub frames : x.frames ≡ y.frames

pub alike-self : (x : Hart) → IsAlike x x
alike-self x = record { standing = refl; pc = refl; regs = refl; domain = refl; frames = refl }

standing-heard : (h : ℕ) (s : Status) → standing s ≡ standing (heard_by h s)
standing-heard h Running = refl
standing-heard h (Waiting call heard) = refl
standing-heard h (Halted code) = refl

alike-hearing : (h g : ℕ) (x : Hart) → IsAlike x (hearing h (g, x))
alike-hearing h g x = elim (g == h) as (λ b. IsAlike x (cond b x (record x { status = heard_by h x.status }))) [
  | true ↦ alike-self x
  | false ↦ record { standing = standing-heard h x.status; pc = refl; regs = refl; domain = refl; frames = refl }
]

own-hearing : (h : ℕ) (x : Hart) → hearing h (h, x) ≡ x
own-hearing h x = elim (h == h) as (λ b. (h == h) ≡ b → cond b x (record x { status = heard_by h x.status }) ≡ x) [
  | true ↦ λ e. refl
  | false ↦ λ e. absurd (eqb-false h h e refl)
] refl

-- the harts after hearing, one by one
hart-hearing : (h g : ℕ) (harts : List Hart) → g < length harts →
    get_or (list_map (hearing h) (enumerate_from 0 harts)) g no_hart ≡ hearing h (g, get_or harts g no_hart)
hart-hearing h g harts l =
    let e : get_or (enumerate_from 0 harts) g (0, no_hart) ≡ (g, get_or harts g no_hart) =
    get_or-enumerate_from 0 harts g (0, no_hart) l ∙ ap (λ (n : ℕ). (n, get_or harts g no_hart)) (zero-add g) in
    get_or-map (hearing h) (enumerate_from 0 harts) g (0, no_hart) no_hart
    (subst (λ (n : ℕ). g < n) (sym (length-enumerate_from 0 harts)) l)
    ∙ ap (hearing h) e

count-hearing : (h : ℕ) (harts : List Hart) → length (list_map (hearing h) (enumerate_from 0 harts)) ≡ length harts
count-hearing h harts = length-map (enumerate_from 0 harts) (hearing h) ∙ length-enumerate_from 0 harts

-- what hearing leaves of the harts
pub record HaveHeard (h : ℕ) (old new : List Hart) : Type 0 where
  pub count : length new ≡ length old
  pub own : get_or new h no_hart ≡ get_or old h no_hart
  pub others : (g : ℕ) → IsAlike (get_or old g no_hart) (get_or new g no_hart)

heard-self : (h : ℕ) (harts : List Hart) → HaveHeard h harts harts
heard-self h harts = record { count = refl; own = refl; others = λ g. alike-self (get_or harts g no_hart) }

-- a fact of harts that are there and of one that isn't
by-place : (g : ℕ) (old new : List Hart) (P : Hart → Hart → Type 0) → length new ≡ length old →
    (g < length old → P (get_or old g no_hart) (get_or new g no_hart)) → P no_hart no_hart → P (get_or old g no_hart) (get_or new g no_hart)
by-place g old new P e p q = elim (nat_lt g (length old)) as (λ b. nat_lt g (length old) ≡ b
    → P (get_or old g no_hart) (get_or new g no_hart)) [
      | true ↦ λ t. p (ltb-true g (length old) t)
      | false ↦ λ t.
          let l : length old ≤ g = ltb-false g (length old) t in
          let m : length new ≤ g = subst (λ (n : ℕ). n ≤ g) (sym e) l in
          subst (λ (y : Hart). P (get_or old g no_hart) y) (sym (get_or-eq_default new no_hart m))
          (subst (λ (x : Hart). P x no_hart) (sym (get_or-eq_default old no_hart l)) q)
    ] refl

heard-hearing : (h : ℕ) (harts : List Hart) → HaveHeard h harts (list_map (hearing h) (enumerate_from 0 harts))
heard-hearing h harts = record {
  count = count-hearing h harts;
  own = by-place h harts (list_map (hearing h) (enumerate_from 0 harts)) (λ x y. y ≡ x) (count-hearing h harts)
      (λ l. hart-hearing h h harts l ∙ own-hearing h (get_or harts h no_hart)) refl;
  others = λ g. by-place g harts (list_map (hearing h) (enumerate_from 0 harts)) IsAlike (count-hearing h harts)
      (λ l. subst (IsAlike (get_or harts g no_hart)) (sym (hart-hearing h g harts l)) (alike-hearing h g (get_or harts g no_hart)))
      (alike-self no_hart);
}

-- a state with another number of turns, other harts and other caches
abbrev pub apart : Core → ℕ → List Hart → List Cache → Core
apart c turns harts caches = record c { turns = turns; harts = harts; caches = caches }

-- a turn of hart h by its parts
pub record TurnsBy (r : Reads) (c : Core) (h : ℕ) : Type 0 where
  pub turns : ℕ
  pub harts : List Hart
  pub before : List Cache
  pub after : List Cache
  pub heard : HaveHeard h c.harts harts
  pub is : turned r c h ≡
      acted r (apart c turns harts after) h (hart_at c h) (by_status r (apart c turns harts before) h (hart_at c h)
      (hart_at c h).status).action

-- what hart h does in a state in which it has heard the others' calls
by-parts : (r : Reads) (c : Core) (h turns : ℕ) (harts : List Hart) (caches : List Cache) → HaveHeard h c.harts harts →
    heard_first (counted c) h ≡ apart c turns harts caches → TurnsBy r c h
by-parts r c h turns harts caches k e =
    let ready = apart c turns harts caches in
    let x = hart_at c h in
    let d = by_status r ready h x x.status in
    let own : hart_at ready h ≡ x = k.own in
    let decided : decide r ready h ≡ d = ap (λ (y : Hart). by_status r ready h y y.status) own in
    record {
      turns = turns;
      harts = harts;
      before = caches;
      after = (looked_all r h d.looks ready).caches;
      heard = k;
      is =
          ap (λ (f : Core). enacted r f h (decide r f h)) e
          ∙ ap (λ (m : Decided). enacted r ready h m) decided
          ∙ ap (λ (y : Hart). acted r (looked_all r h d.looks ready) h y d.action) own
          ∙ ap (λ (f : Core). acted r f h x d.action) (looked_all-caches r h d.looks ready);
    }

by-hearing : (r : Reads) (c : Core) (h : ℕ) (b : Bool) → is_halted (hart_at c h).status ≡ b → TurnsBy r c h
by-hearing r c h true t = by-parts r c h (c.turns + 1) c.harts c.caches (heard-self h c.harts)
    (ap (λ (b : Bool). if b then counted c else hears h (counted c)) t)
by-hearing r c h false t =
    by-parts r c h (c.turns + 1) (list_map (hearing h) (enumerate_from 0 c.harts)) (hears h (counted c)).caches (heard-hearing h c.harts)
    (ap (λ (b : Bool). if b then counted c else hears h (counted c)) t)

pub by-action : (r : Reads) (c : Core) (h : ℕ) → TurnsBy r c h
by-action r c h = by-hearing r c h (is_halted (hart_at c h).status) refl

-- a hart that isn't halted is there
pub there : (c : Core) (h : ℕ) → is_halted (hart_at c h).status ≡ false → h < length c.harts
there c h e = elim (nat_lt h (length c.harts)) as (λ b. nat_lt h (length c.harts) ≡ b → h < length c.harts) [
  | true ↦ λ t. ltb-true h (length c.harts) t
  | false ↦ λ t.
      let l : length c.harts ≤ h = ltb-false h (length c.harts) t in
      let n : hart_at c h ≡ no_hart = get_or-eq_default c.harts no_hart l in
      let k : true ≡ false = sym (ap (λ (x : Hart). is_halted x.status) n) ∙ e in
      absurd (let q : ⊥ = cc in q)
] refl

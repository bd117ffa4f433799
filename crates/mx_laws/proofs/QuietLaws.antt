-- Turns that neither trap nor call: what they add, and how they leave the harts.
use Rattle.std.proofs.Common.{◌≡◌, ℕ, zero, suc, ◌<◌, Bool, true, false, ◌==◌, List, [], ◌∷◌, ◌++◌, length, get_or, set, refl, sym, ◌∙◌, ap}
use Rattle.std.proofs.Common.{subst, arith, eqb-true, if◌then◌else◌, Option, rules}
use Rattle.std.specs.Prelude.{option_to_list}
use Rattle.std.specs.List.{list_all}
use Rattle.std.proofs.lemmas.Bool.{and_parts, eqb-false}
use Rattle.std.proofs.lemmas.List.{get_or-set_same, get_or-set_other}
use Rattle.mx_words.specs.Newest.{Give}
use Rattle.mx_model.specs.declared.values.Call.{Call}
use Rattle.mx_model.specs.declared.values.Note.{Note}
use Rattle.mx_model.specs.Agreement.{Standing, Runs as Going, Waits as Waited, Ended, standing}
use Rattle.mx_model.specs.Checks.{is_halted, is_ready}
use Rattle.mx_model.specs.Reads.{Reads, reads, flat_reads}
use Rattle.mx_model.specs.Run.{flat_kind, flat_turn, grants_after, kind, maps_after, owners_after, turn}
use Rattle.mx_model.specs.State.{Core, Hart, Status, Running, Waiting, Halted, State, Flat, no_hart, hart_at}
use Rattle.mx_model.specs.Turn.{Action, Rests, Waits, Serves, Asks, Traps, Bounces, Crosses, Returns, Runs, Writes, Made, acted, asked}
use Rattle.mx_model.specs.Turn.{by_status, is_served_now, turned}
use Rattle.mx_model.proofs.KeepLaws.{keeps-turned}
use Rattle.mx_laws.specs.After.{core_after, kind_of, standing_at}
use Rattle.mx_laws.specs.Quiet.{AddedNothing, AddsNothing, AreQuiet, IsLeftByRow, SameEnd, SameRights, SameStandings, may_tell, row}
use Rattle.mx_laws.proofs.TurnParts.{apart, by-action, there}

-- where all harts are halted, each is
pub halted-each : (harts : List Hart) (h : ℕ) → list_all (λ (hart : Hart). is_halted hart.status) harts ≡ true →
    is_halted (get_or harts h no_hart).status ≡ true
halted-each [] h e = refl
halted-each (x ∷ xs) zero e = (and_parts (is_halted x.status) (list_all (λ (hart : Hart). is_halted hart.status) xs) e).0
halted-each (x ∷ xs) (suc h) e =
    halted-each xs h (and_parts (is_halted x.status) (list_all (λ (hart : Hart). is_halted hart.status) xs) e).1

loud-asked : (r : Reads) (c : Core) (h : ℕ) (x : Hart) (call : Call) (b : Bool) →
    may_tell (asked r c h x call b).kind ≡ false → ⊥
loud-asked r c h x call true e = cc
loud-asked r c h x call false e = cc

-- what an action adds
adds-acted : (r : Reads) (c : Core) (h : ℕ) (x : Hart) (a : Action) → may_tell (acted r c h x a).kind ≡ false →
    AddsNothing (acted r c h x a)
adds-acted r c h x Rests e = record { change = refl; give = refl; console = refl; note = refl }
adds-acted r c h x Waits e = record { change = refl; give = refl; console = refl; note = refl }
adds-acted r c h x (Serves call) e = absurd (let q : ⊥ = cc in q)
adds-acted r c h x (Asks call) e = absurd (loud-asked r c h x call (is_served_now c h call) e)
adds-acted r c h x (Traps cause value) e = absurd (let q : ⊥ = cc in q)
adds-acted r c h x Bounces e = record { change = refl; give = refl; console = refl; note = refl }
adds-acted r c h x (Crosses target) e = record { change = refl; give = refl; console = refl; note = refl }
adds-acted r c h x (Returns rd frame) e = record { change = refl; give = refl; console = refl; note = refl }
adds-acted r c h x (Runs regs pc) e = record { change = refl; give = refl; console = refl; note = refl }
adds-acted r c h x (Writes address size value) e = record { change = refl; give = refl; console = refl; note = refl }

pub adds-turned : (r : Reads) (c : Core) (h : ℕ) → may_tell (kind_of r c h) ≡ false → AddsNothing (turned r c h)
adds-turned r c h e =
    let t = by-action r c h in
    let x = hart_at c h in
    subst AddsNothing (sym t.is)
    (adds-acted r (apart c t.turns t.harts t.after) h x
    (by_status r (apart c t.turns t.harts t.before) h x x.status).action
    (ap (λ (m : Made). may_tell m.kind) (sym t.is) ∙ e))

pub added-turn : (s : State) (h : ℕ) → may_tell (kind s h) ≡ false → AddedNothing s (turn s h)
added-turn s h e =
    let a = adds-turned (reads s) s.core h e in
    record {
      grants = ap (grants_after s.grants) a.change;
      gives = ap (λ (o : Option Give). s.gives ++ option_to_list o) a.give ∙ search rules;
      console = ap (λ (bytes : List ℕ). s.console ++ bytes) a.console ∙ search rules;
      notes = ap (λ (o : Option Note). s.notes ++ option_to_list o) a.note ∙ search rules;
    }

pub same-turn : (f : Flat) (h : ℕ) → may_tell (flat_kind f h) ≡ false → SameRights f (flat_turn f h)
same-turn f h e =
    let a = adds-turned (flat_reads f) f.core h e in
    record { maps = ap (maps_after f.maps) a.change; owners = ap (owners_after f.owners) a.give }

-- the harts after a quiet action: as they were, or one that ran is set to one that runs
data IsSet (old new : List Hart) (h : ℕ) (x : Hart) : Type 0 where
  Left : new ≡ old → IsSet old new h x
  Set : (y : Hart) → x.status ≡ Running → y.status ≡ Running → new ≡ set old h y → IsSet old new h x

set-running : (r : Reads) (c : Core) (h : ℕ) (x : Hart) (a : Action) → x.status ≡ Running →
    may_tell (acted r c h x a).kind ≡ false → IsSet c.harts (acted r c h x a).core.harts h x
set-running r c h x Rests k e = Left refl
set-running r c h x Waits k e = Left refl
set-running r c h x (Serves call) k e = absurd (let q : ⊥ = cc in q)
set-running r c h x (Asks call) k e = absurd (loud-asked r c h x call (is_served_now c h call) e)
set-running r c h x (Traps cause value) k e = absurd (let q : ⊥ = cc in q)
set-running r c h x Bounces k e = Set _ k refl refl
set-running r c h x (Crosses target) k e = Set _ k refl refl
set-running r c h x (Returns rd frame) k e = Set _ k refl refl
set-running r c h x (Runs regs pc) k e = Set _ k refl refl
set-running r c h x (Writes address size value) k e = Set _ k refl refl

set-waiting : (r : Reads) (c : Core) (h : ℕ) (x : Hart) (call : Call) (b : Bool) →
    may_tell (acted r c h x (if b then Serves call else Waits)).kind ≡ false →
    IsSet c.harts (acted r c h x (if b then Serves call else Waits)).core.harts h x
set-waiting r c h x call true e = absurd (let q : ⊥ = cc in q)
set-waiting r c h x call false e = Left refl

set-status : (r : Reads) (c d : Core) (h : ℕ) (x : Hart) (s : Status) → x.status ≡ s →
    may_tell (acted r c h x (by_status r d h x s).action).kind ≡ false →
    IsSet c.harts (acted r c h x (by_status r d h x s).action).core.harts h x
set-status r c d h x Running k e = set-running r c h x (by_status r d h x Running).action k e
set-status r c d h x (Waiting call heard) k e = set-waiting r c h x call (is_ready d h heard) e
set-status r c d h x (Halted code) k e = Left refl

-- so each hart stands as before
abbrev standing_in : List Hart → ℕ → Standing
standing_in harts g = standing (get_or harts g no_hart).status

standing-set : (old new : List Hart) (h g : ℕ) (x : Hart) → (x.status ≡ Running → h < length old) →
    standing_in old h ≡ standing x.status → IsSet old new h x → standing_in new g ≡ standing_in old g
standing-set old new h g x l k (Left e) = ap (λ (hs : List Hart). standing_in hs g) e
standing-set old new h g x l k (Set y p q e) = ap (λ (hs : List Hart). standing_in hs g) e ∙ by (g == h) refl
  where
    by : (b : Bool) → (g == h) ≡ b → standing_in (set old h y) g ≡ standing_in old g
    by true n =
        let same : g ≡ h = eqb-true g h n in
        subst (λ (i : ℕ). standing_in (set old h y) i ≡ standing_in old i) (sym same)
        (ap (λ (z : Hart). standing z.status) (get_or-set_same old h y no_hart (l p))
        ∙ ap standing q ∙ sym (k ∙ ap standing p))
    by false n = ap (λ (z : Hart). standing z.status) (get_or-set_other old h g y no_hart (eqb-false g h n))

pub standing-turned : (r : Reads) (c : Core) (h : ℕ) → may_tell (kind_of r c h) ≡ false →
    SameStandings c (core_after r c h)
standing-turned r c h e g =
    let t = by-action r c h in
    let x = hart_at c h in
    let after = apart c t.turns t.harts t.after in
    let m = acted r after h x (by_status r (apart c t.turns t.harts t.before) h x x.status).action in
    ap (λ (n : Made). standing_at n.core g) t.is
    ∙ standing-set t.harts m.core.harts h g x
    (λ k. subst (λ (n : ℕ). h < n) (sym t.heard.count) (there c h (ap is_halted k)))
    (ap (λ (y : Hart). standing y.status) t.heard.own)
    (set-status r after (apart c t.turns t.harts t.before) h x x.status refl
    (ap (λ (n : Made). may_tell n.kind) (sym t.is) ∙ e))
    ∙ sym (t.heard.others g).standing

-- and all are halted where they were
abbrev has_ended : Standing → Bool
has_ended Going = false
has_ended Waited = false
has_ended Ended = true

pub ended-status : (s : Status) → is_halted s ≡ has_ended (standing s)
ended-status Running = refl
ended-status (Waiting call heard) = refl
ended-status (Halted code) = refl

ends-same : (xs ys : List Hart) → length xs ≡ length ys → ((g : ℕ) → standing_in xs g ≡ standing_in ys g) →
    list_all (λ (x : Hart). is_halted x.status) xs ≡ list_all (λ (x : Hart). is_halted x.status) ys
ends-same [] [] l k = refl
ends-same [] (y ∷ ys) l k = absurd (let q : ⊥ = omega (arith, l) in q)
ends-same (x ∷ xs) [] l k = absurd (let q : ⊥ = omega (arith, l) in q)
ends-same (x ∷ xs) (y ∷ ys) l k =
    let one : is_halted x.status ≡ is_halted y.status =
    ended-status x.status ∙ ap has_ended (k 0) ∙ sym (ended-status y.status) in
    let rest : list_all (λ (z : Hart). is_halted z.status) xs ≡ list_all (λ (z : Hart). is_halted z.status) ys =
    ends-same xs ys (omega (arith, l)) (λ g. k (suc g)) in
    rw (one, rest) refl

pub end-turned : (r : Reads) (c : Core) (h : ℕ) → may_tell (kind_of r c h) ≡ false → SameEnd c (core_after r c h)
end-turned r c h e = ends-same (core_after r c h).harts c.harts (keeps-turned r c h).harts (standing-turned r c h e)

-- rows of quiet turns
pub left-row : (hs : List ℕ) (s : State) → AreQuiet hs s → IsLeftByRow s (row hs s)
left-row [] s q = record {
  added = record { grants = refl; gives = refl; console = refl; notes = refl };
  standings = λ g. refl;
  end = refl;
}
left-row (h ∷ hs) s q =
    let n = turn s h in
    let a = added-turn s h q.0 in
    let l = left-row hs n q.1 in
    record {
      added = record {
        grants = l.added.grants ∙ a.grants;
        gives = l.added.gives ∙ a.gives;
        console = l.added.console ∙ a.console;
        notes = l.added.notes ∙ a.notes;
      };
      standings = λ g. l.standings g ∙ standing-turned (reads s) s.core h q.0 g;
      end = l.end ∙ end-turned (reads s) s.core h q.0;
    }

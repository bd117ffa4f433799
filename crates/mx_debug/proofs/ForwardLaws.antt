-- A search forward, along the rows of turns that a machine makes, and what is shown there.
use Rattle.std.proofs.Common.{◌≡◌, ◌≢◌, ◌⊎◌, inl, inr, ℕ, zero, suc, ◌+◌, ◌-◌, ◌<◌, ◌≤◌, Bool, true, false, not, ◌&&◌, ◌||◌, ◌==◌, nat_le}
use Rattle.std.proofs.Common.{nat_lt, List, [], ◌∷◌, ◌++◌, length, drop, Option, Some, None, refl, sym, ap, subst, ◌∙◌, arith}
use Rattle.std.proofs.Common.{if◌then◌else◌, append_assoc}
use Rattle.std.proofs.lemmas.Bool.{and_parts, and_right, or_from, or_left, or_right}
use Rattle.std.proofs.lemmas.List.{append-nil}
use Rattle.mx_model.specs.declared.values.Note.{Note}
use Rattle.mx_model.specs.declared.values.Note.TheVariants as N
use Rattle.mx_model.specs.declared.values.TurnKind.{TurnKind}
use Rattle.mx_model.specs.declared.values.TurnKind.TheVariants as K
use Rattle.mx_model.specs.Events.{Events}
use Rattle.mx_model.specs.Run.{all_halted, flat_kind, flat_made, flat_turn, is_stopped, kind, made_of, turn}
use Rattle.mx_model.specs.State.{Core, Flat, Hart, State, flat, hart_at}
use Rattle.mx_model.specs.Reads.{flat_reads, reads}
use Rattle.mx_laws.proofs.QuietLaws.{adds-turned, end-turned}
use Rattle.mx_machine.specs.Turning.{IsStretch, IsTold, IsTurn, turns_of}
use Rattle.mx_machine.specs.declared.views.Stretch.{Stretch}
use Rattle.mx_machine.proofs.StepLaws.{is-turn}
use Rattle.mx_turns.specs.Running.{IsRow, may_tell, named}
use Rattle.mx_turns.proofs.RunTexts.{goes_on, later_all, run_ends, run_more, stops_halted, stops_over}
use Rattle.mx_debug.specs.declared.stop.Stop.{Stop}
use Rattle.mx_debug.specs.declared.stop.Stop.TheVariants as S
use Rattle.mx_debug.specs.Entries.{IsFree, faults_in, last_stood}
use Rattle.mx_debug.specs.Looks.{IsAt, IsPast, news, news_at, row_stop, shows, stop_past}
use Rattle.mx_debug.specs.Session.{Asked, Looked, breaks_at, bytes_at, ends_at, faults_at, forward, is_last, is_trapped, next_at, note_at}
use Rattle.mx_debug.specs.Session.{stands, state_at, stop_after, stop_before}
use Rattle.mx_debug.specs.Texts.{shown_said}
use Rattle.mx_debug.proofs.EntryLaws.{is_trap, last_stands, none_stands, trap_silent}

-- what comes of a turn, by what stops after it
abbrev pub on : Looked → Asked → ℕ → ℕ → Option Stop → ℕ × Stop
on q a turns k after = elim after [
  | Some stop ↦ (k + 1, stop)
  | None ↦ forward q a turns (k + 1) false false
]

abbrev pub from_here : Looked → Asked → ℕ → ℕ → Option Stop → ℕ × Stop
from_here q a turns k before = elim before [
  | Some stop ↦ (k, stop)
  | None ↦ on q a turns k (stop_after q a.step k)
]

module _ (q : Looked) (a : Asked) (turns k : ℕ) (b g : Bool) where
  pub stopped_before : (stop : Stop) → stop_before q a k b g ≡ Some stop → forward q a (suc turns) k b g ≡ (k, stop)
  stopped_before stop e = ap (from_here q a turns k) e

  pub stopped_after : (stop : Stop) → stop_before q a k b g ≡ None → stop_after q a.step k ≡ Some stop
      → forward q a (suc turns) k b g ≡ (k + 1, stop)
  stopped_after stop e after = ap (from_here q a turns k) e ∙ ap (on q a turns k) after

  pub stopped_not : stop_before q a k b g ≡ None → stop_after q a.step k ≡ None
      → forward q a (suc turns) k b g ≡ forward q a turns (k + 1) false false
  stopped_not e after = ap (from_here q a turns k) e ∙ ap (on q a turns k) after

-- why it stops before a turn, by three tests
abbrev pub before_of : Bool → Bool → Bool → ℕ → Option Note → Option Stop
before_of ends breaks faults h noted =
    if ends then Some S.Ends
    else if breaks then Some (S.Breaks h)
    else if faults then Some (S.Faults h noted)
    else None

pub before_is : (q : Looked) (a : Asked) (k : ℕ) (b g x y z : Bool) → ends_at q k ≡ x → (breaks_at q a.breaks k && not b) ≡ y
    → (a.faults && faults_at q k && not g) ≡ z
    → stop_before q a k b g ≡ before_of x y z (next_at q k) (note_at q k)
before_is q a k b g x y z e f d =
    ap (λ u. before_of u (breaks_at q a.breaks k && not b) (a.faults && faults_at q k && not g) (next_at q k) (note_at q k)) e
    ∙ ap (λ u. before_of x u (a.faults && faults_at q k && not g) (next_at q k) (note_at q k)) f
    ∙ ap (λ u. before_of x y u (next_at q k) (note_at q k)) d

-- a search doesn't go back
up_after : (q : Looked) (a : Asked) (turns k : ℕ) (after : Option Stop) → k + 1 ≤ (forward q a turns (k + 1) false false).0
    → k ≤ (on q a turns k after).0
up_after q a turns k (Some stop) up = omega arith
up_after q a turns k None up = omega (arith, up)

up_before : (q : Looked) (a : Asked) (turns k : ℕ) (before : Option Stop) → k ≤ (on q a turns k (stop_after q a.step k)).0
    → k ≤ (from_here q a turns k before).0
up_before q a turns k (Some stop) up = omega arith
up_before q a turns k None up = up

pub upward : (q : Looked) (a : Asked) (turns k : ℕ) (b g : Bool) → k ≤ (forward q a turns k b g).0
upward q a zero k b g = omega arith
upward q a (suc turns) k b g =
    up_before q a turns k (stop_before q a k b g) (up_after q a turns k (stop_after q a.step k) (upward q a turns (k + 1) false false))

-- the run is at its end
pub forward_ends : (q : Looked) (a : Asked) (turns k : ℕ) (b g : Bool) → ends_at q k ≡ true → forward q a (suc turns) k b g ≡ (k, S.Ends)
forward_ends q a turns k b g e =
    stopped_before q a turns k b g S.Ends
    (before_is q a k b g true (breaks_at q a.breaks k && not b) (a.faults && faults_at q k && not g) e refl refl)

-- the machine of a place has made all turns, is halted, or its schedule is over
pub core_at : (q : Looked) (k : ℕ) (m : Flat) → IsAt q k m → m.core ≡ (state_at q k).core
core_at q k m at = ap (λ (f : Flat). f.core) at

reached : (n k : ℕ) → n ≤ k → nat_le n k ≡ true
reached n k h = grind arith

pub ends_most_at : (q : Looked) (k : ℕ) → q.most ≤ k → ends_at q k ≡ true
ends_most_at q k all = or_left (nat_le q.most k) (is_stopped q.schedule (state_at q k)) (reached q.most k all)

pub ends_halted_at : (q : Looked) (k : ℕ) (m : Flat) → IsAt q k m → all_halted m.core ≡ true → ends_at q k ≡ true
ends_halted_at q k m at e =
    or_right (nat_le q.most k) (is_stopped q.schedule (state_at q k))
    (stops_halted q.schedule (state_at q k) (ap all_halted (sym (core_at q k m at)) ∙ e))

pub ends_over_at : (q : Looked) (k : ℕ) (m : Flat) → IsAt q k m → named q.schedule m.core ≡ None → ends_at q k ≡ true
ends_over_at q k m at e =
    or_right (nat_le q.most k) (is_stopped q.schedule (state_at q k))
    (stops_over q.schedule (state_at q k) (ap (named q.schedule) (sym (core_at q k m at)) ∙ e))

-- where a hart's turn is next
pub record IsNext (q : Looked) (k h : ℕ) : Type 0 where
  pub going : ends_at q k ≡ false
  pub moves : is_stopped q.schedule (state_at q k) ≡ false
  pub hart : next_at q k ≡ h

below_most : (n k : ℕ) → k < n → nat_le n k ≡ false
below_most n k h = grind arith

pub is_next : (q : Looked) (k h : ℕ) (m : Flat) → IsAt q k m → k < q.most → all_halted m.core ≡ false → named q.schedule m.core ≡ Some h
    → IsNext q k h
is_next q k h m at few halted name =
    let go = goes_on q.schedule (state_at q k) h (ap all_halted (sym (core_at q k m at)) ∙ halted)
    (ap (named q.schedule) (sym (core_at q k m at)) ∙ name) in
    record {
      going = or_from (nat_le q.most k) (is_stopped q.schedule (state_at q k)) (below_most q.most k few) go.0;
      moves = go.0;
      hart = sym go.1;
    }

pub stands_at_next : (q : Looked) (breaks : List ℕ) (k h : ℕ) (m : Flat) → IsAt q k m → IsNext q k h
    → breaks_at q breaks k ≡ stands m.core h breaks
stands_at_next q breaks k h m at next =
    ap (λ j. stands (state_at q k).core j breaks) next.hart ∙ ap (λ (c : Core). stands c h breaks) (sym (core_at q k m at))

-- it stands at one that wasn't told
pub forward_breaks : (q : Looked) (a : Asked) (turns k h : ℕ) (m : Flat) (b g : Bool) → IsAt q k m → IsNext q k h
    → (stands m.core h a.breaks && not b) ≡ true
    → forward q a (suc turns) k b g ≡ (k, S.Breaks h)
forward_breaks q a turns k h m b g at next e =
    stopped_before q a turns k b g (S.Breaks h)
    (before_is q a k b g false true (a.faults && faults_at q k && not g) next.going
    (ap (λ s. s && not b) (stands_at_next q a.breaks k h m at next) ∙ e) refl
    ∙ ap (λ j. Some (S.Breaks j)) next.hart)

pub no_break : (r : Bool) → (r && false) ≡ false
no_break true = refl
no_break false = refl

neq_eqb : (m n : ℕ) → m ≢ n → (m == n) ≡ false
neq_eqb m n other = grind arith

pub and_true : (r : Bool) → (r && true) ≡ r
and_true true = refl
and_true false = refl

-- what turns show
pub shows_more : (q : Looked) (told k a b : ℕ) → shows q told k (a + b) ≡ shows q told k a ++ shows q told (k + a) b
shows_more q told k zero b =
    let one : zero + b ≡ b = omega arith in
    let same : k ≡ k + zero = omega arith in
    ap (shows q told k) one ∙ ap (λ j. shows q told j b) same
shows_more q told k (suc a) b =
    let one : suc a + b ≡ suc (a + b) = omega arith in
    let next : k + 1 + a ≡ k + suc a = omega arith in
    ap (shows q told k) one
    ∙ ap (λ (t : List ℕ). shown_said (news_at q told k) ++ t) (shows_more q told (k + 1) a b)
    ∙ sym (append_assoc (shown_said (news_at q told k)) (shows q told (k + 1) a) (shows q told (k + 1 + a) b))
    ∙ ap (λ j. (shown_said (news_at q told k) ++ shows q told (k + 1) a) ++ shows q told j b) next

drop_front : (a b : List ℕ) → drop (length a) (a ++ b) ≡ b
drop_front [] b = refl
drop_front (x ∷ a) b = let e : length (x ∷ a) ≡ suc (length a) = omega arith in
    subst (λ n. drop n (x ∷ (a ++ b)) ≡ b) (sym e) (drop_front a b)

nothing_new : (b : Bool) → ◌≡◌ {A = List ℕ} (if b then [] else []) []
nothing_new true = refl
nothing_new false = refl

-- why a row of turns stops, and where: before its last turn, which is made from there, or after it
abbrev pub row_of : ℕ → Option Stop → Option Stop → ℕ × Stop → ℕ × Stop
row_of j past after more = elim past [
  | Some stop ↦ (j, stop)
  | None ↦ elim after [ Some stop ↦ (j + 1, stop) | None ↦ more ]
]

picks : (w x y : Bool) (j h : ℕ) (noted : Option Note) (more : ℕ × Stop)
    → (if w then (j, S.Breaks h) else if x then (j, S.Faults h noted) else if y then (j + 1, S.Steps h) else more)
    ≡ row_of j (if w then Some (S.Breaks h) else if x then Some (S.Faults h noted) else None) (if y then Some (S.Steps h) else None) more
picks true x y j h noted more = refl
picks false true y j h noted more = refl
picks false false true j h noted more = refl
picks false false false j h noted more = refl

-- where it stops before its last turn, that traps
past_by : (stood faults faulted : Bool) (h : ℕ) (last : TurnKind) (noted : Option Note) (stop : Stop)
    → stop_past faults faulted stood h last noted ≡ Some stop → (stood ≡ true) ⊎ ((faults ≡ true) × (is_trapped last ≡ true))
past_by true faults faulted h last noted stop e = inl refl
past_by false true true h K.Trapped noted stop e = absurd (cc)
past_by false true false h K.Trapped noted stop e = inr (refl, refl)
past_by false false faulted h last noted stop e = absurd (cc)
past_by false true faulted h K.Idle noted stop e = absurd (cc)
past_by false true faulted h K.Waited noted stop e = absurd (cc)
past_by false true faulted h K.Ran noted stop e = absurd (cc)
past_by false true faulted h K.Crossed noted stop e = absurd (cc)
past_by false true faulted h K.Returned noted stop e = absurd (cc)
past_by false true faulted h K.Called noted stop e = absurd (cc)

stood_by : (breaks : List ℕ) (n : ℕ) (last : TurnKind) (noted : Option Note) → last_stood breaks false n last noted ≡ true
    → (0 < n) × (is_trapped last ≡ true) × (faults_in breaks noted ≡ true)
stood_by breaks zero last noted e = absurd (let q : ⊥ = cc in q)
stood_by breaks (suc n) last noted e =
    let later : (suc n == 0) ≡ false = neq_eqb (suc n) 0 (grind arith) in
    let both : (is_trapped last && faults_in breaks noted) ≡ true =
    sym (ap (λ b. if b then false else (is_trapped last && faults_in breaks noted)) later) ∙ e in
    let parts = and_parts (is_trapped last) (faults_in breaks noted) both in
    (omega arith, parts.0, parts.1)

none_in : (noted : Option Note) → faults_in [] noted ≡ false
none_in None = refl
none_in (Some (N.Fault step h d pc fault)) = refl
none_in (Some (N.Exit step h d code)) = refl

asked_by_break : (v : Bool) (breaks : List ℕ) (noted : Option Note) → (v ≡ false → breaks ≡ []) → faults_in breaks noted ≡ true → v ≡ true
asked_by_break true breaks noted stops e = refl
asked_by_break false breaks noted stops e =
    let k : false ≡ true = sym (none_in noted) ∙ ap (λ (bs : List ℕ). faults_in bs noted) (sym (stops refl)) ∙ e in
    absurd (let q : ⊥ = cc in q)

pub past_traps : (a : Asked) (faulted : Bool) (n h : ℕ) (last : TurnKind) (noted : Option Note) (stop : Stop)
    → (1 < n + 1 → a.faults ≡ false → a.breaks ≡ [])
    → stop_past a.faults faulted (last_stood a.breaks false n last noted) h last noted ≡ Some stop
    → (a.faults ≡ true) × (is_trapped last ≡ true)
past_traps a faulted n h last noted stop stops e = elim (past_by (last_stood a.breaks false n last noted) a.faults faulted h last noted stop
    e) [
      | inl stood ↦
          let s = stood_by a.breaks n last noted stood in
          let some = s.0 in
          (asked_by_break a.faults a.breaks noted (stops (omega (arith, some))) s.2, s.1)
      | inr both ↦ both
    ]

-- turns of one hart in a row from a place
module _ (q : Looked) (f : Flat) (k : ℕ) (at : IsAt q k f) (going : all_halted f.core ≡ false) (h most turns : ℕ)
    (row : IsRow q.schedule f.core most h turns)
    (fits : k + turns ≤ q.most) where
  abbrev pub Ran : ℕ → Type 0
  Ran n = (j : ℕ) → j < n → flat_kind (turns_of h f j) h ≡ K.Ran

  pub going_at : (n : ℕ) → Ran n → all_halted (turns_of h f n).core ≡ false
  going_at zero ran = going
  going_at (suc n) ran =
      let g = turns_of h f n in
      end-turned (flat_reads g) g.core h (ap may_tell (ran n (omega arith))) ∙ going_at n (λ j below. ran j (omega (arith, below)))

  pub named_at : (n : ℕ) → n < turns → named q.schedule (turns_of h f n).core ≡ Some h
  named_at n few = let l = later_all h f n in row.each n few (turns_of h f n).core l.turns l.harts

  pub before_suc : (n : ℕ) → Ran (suc n) → Ran n
  before_suc n ran j below = ran j (omega (arith, below))

  abbrev told_by_turn : (g : Flat) → Events
  told_by_turn g = record { bytes = (flat_made g h).console; note = (flat_made g h).note }

  turn_at : (n : ℕ) → IsAt q (k + n) (turns_of h f n) → IsTurn (state_at q (k + n)) h (flat_turn (turns_of h f n) h)
      (told_by_turn (turns_of h f n)) (flat_kind (turns_of h f n) h)
  turn_at n here =
      let g = turns_of h f n in
      let told : IsTold (flat_made g h) (told_by_turn g) = record { bytes = refl; note = refl } in
      is-turn g (flat_turn g h) h (told_by_turn g) (flat_kind g h) refl told refl (state_at q (k + n)) here

  pub next_here : (n : ℕ) → n < turns → Ran n → IsAt q (k + n) (turns_of h f n) → IsNext q (k + n) h
  next_here n few ran here = is_next q (k + n) h (turns_of h f n) here (omega (arith, few, fits)) (going_at n ran) (named_at n few)

  -- the next state is that of the turn
  state_next : (n : ℕ) → n < turns → Ran n → IsAt q (k + n) (turns_of h f n) → state_at q (k + n + 1) ≡ turn (state_at q (k + n)) h
  state_next n few ran here =
      let next = next_here n few ran here in
      run_more q.schedule (k + n) q.start h next.moves (sym next.hart)

  pub at_next : (n m : ℕ) → m ≡ k + n + 1 → n < turns → Ran n → IsAt q (k + n) (turns_of h f n) → IsAt q m (flat_turn (turns_of h f n) h)
  at_next n m next few ran here =
      let t = turn_at n here in
      t.turn ∙ ap flat (sym (state_next n few ran here)) ∙ ap (λ j. flat (state_at q j)) (sym next)

  -- each of them is one of the run
  pub at_along : (n : ℕ) → n < turns → Ran n → IsAt q (k + n) (turns_of h f n)
  at_along zero few ran = let same : k + 0 ≡ k = omega arith in subst (λ j. f ≡ flat (state_at q j)) (sym same) at
  at_along (suc n) few ran =
      let few_before : n < turns = omega (arith, few) in
      at_next n (k + suc n) (omega arith) few_before (before_suc n ran) (at_along n few_before (before_suc n ran))

  pub next_along : (n : ℕ) → n < turns → Ran n → IsNext q (k + n) h
  next_along n few ran = next_here n few ran (at_along n few ran)

  pub kind_at : (n : ℕ) → n < turns → Ran n → kind (state_at q (k + n)) (next_at q (k + n)) ≡ flat_kind (turns_of h f n) h
  kind_at n few ran =
      let t = turn_at n (at_along n few ran) in
      ap (kind (state_at q (k + n))) (next_along n few ran).hart ∙ sym t.kind

  -- the bytes that one of them adds
  bytes_along : (n : ℕ) → n < turns → Ran n → bytes_at q (k + n) ≡ (flat_made (turns_of h f n) h).console
  bytes_along n few ran =
      let here = at_along n few ran in
      let s = state_at q (k + n) in
      let t = turn_at n here in
      ap (λ (u : State). drop (length s.console) u.console) (state_next n few ran here)
      ∙ drop_front s.console (made_of s h).console ∙ sym t.told.bytes

  module _ (told : ℕ) where
    quiet_along : (n : ℕ) → n < turns → Ran (suc n) → news_at q told (k + n) ≡ []
    quiet_along n few ran =
        let g = turns_of h f n in
        ap (news told (k + n)) (bytes_along n few (before_suc n ran)
        ∙ (adds-turned (flat_reads g) g.core h (ap may_tell (ran n (omega arith)))).console)
        ∙ nothing_new (nat_lt (k + n) told)

    pub quiet_row : (n : ℕ) → n < turns → Ran n → shows q told k n ≡ []
    quiet_row zero few ran = refl
    quiet_row (suc n) few ran =
        let few_before : n < turns = omega (arith, few) in
        let one : suc n ≡ n + 1 = omega arith in
        ap (shows q told k) one ∙ shows_more q told k n 1 ∙ ap (λ (t : List ℕ). t ++ shows q told (k + n) 1)
        (quiet_row n few_before (before_suc n ran))
        ∙ ap (λ (t : List ℕ). shown_said t ++ []) (quiet_along n few_before ran)

    -- what they show is what the last one shows
    pub shows_row : (n : ℕ) → n < turns → Ran n → shows q told k (n + 1)
        ≡ shown_said (news told (k + n) (flat_made (turns_of h f n) h).console)
    shows_row n few ran =
        shows_more q told k n 1 ∙ ap (λ (t : List ℕ). t ++ shows q told (k + n) 1) (quiet_row n few ran)
        ∙ append-nil (shown_said (news_at q told (k + n))) ∙ ap (λ (t : List ℕ). shown_said (news told (k + n) t)) (bytes_along n few ran)

  pub traps_at : (n : ℕ) → n < turns → Ran n → faults_at q (k + n) ≡ is_trapped (flat_kind (turns_of h f n) h)
  traps_at n few ran = ap is_trapped (kind_at n few ran)

  pub noted_at : (n : ℕ) → n < turns → Ran n → note_at q (k + n) ≡ (flat_made (turns_of h f n) h).note
  noted_at n few ran =
      let t = turn_at n (at_along n few ran) in
      ap (λ j. (made_of (state_at q (k + n)) j).note) (next_along n few ran).hart ∙ sym t.told.note

  pub stands_along : (breaks : List ℕ) (n : ℕ) → n < turns → Ran n → breaks_at q breaks (k + n) ≡ stands (turns_of h f n).core h breaks
  stands_along breaks n few ran = stands_at_next q breaks (k + n) h (turns_of h f n) (at_along n few ran) (next_along n few ran)

-- what a search forward finds along them
module _ (q : Looked) (a : Asked) (told : ℕ) (f : Flat) (k : ℕ) (at : IsAt q k f) (going : all_halted f.core ≡ false) (h most turns : ℕ)
    (row : IsRow q.schedule f.core most h turns)
    (fits : k + turns ≤ q.most) where
  abbrev RanHere : ℕ → Type 0
  RanHere n = (j : ℕ) → j < n → flat_kind (turns_of h f j) h ≡ K.Ran

  -- why it stops before and after one of them
  before_at : (n : ℕ) → n < turns → RanHere n → (b g w x : Bool) → (stands (turns_of h f n).core h a.breaks && not b) ≡ w
      → (a.faults && is_trapped (flat_kind (turns_of h f n) h) && not g) ≡ x
      → stop_before q a (k + n) b g ≡ before_of false w x h (flat_made (turns_of h f n) h).note
  before_at n few ran b g w x stand trap =
      let next = next_along q f k at going h most turns row fits n few ran in
      before_is q a (k + n) b g false w x next.going
      (ap (λ s. s && not b) (stands_along q f k at going h most turns row fits a.breaks n few ran) ∙ stand)
      (ap (λ t. a.faults && t && not g) (traps_at q f k at going h most turns row fits n few ran) ∙ trap)
      ∙ ap (λ j. before_of false w x j (note_at q (k + n))) next.hart
      ∙ ap (before_of false w x h) (noted_at q f k at going h most turns row fits n few ran)

  abbrev after_of : Bool → ℕ → Option Stop
  after_of y j = if y then Some (S.Steps j) else None

  after_at : (n : ℕ) → n < turns → RanHere n → (y : Bool) → is_last a.step h (flat_kind (turns_of h f n) h)
      (hart_at (flat_turn (turns_of h f n) h).core h) ≡ y → stop_after q a.step (k + n) ≡ after_of y h
  after_at n few ran y e =
      let next = next_along q f k at going h most turns row fits n few ran in
      let s = state_at q (k + n) in
      let later = at_next q f k at going h most turns row fits n (k + n + 1) refl few ran
      (at_along q f k at going h most turns row fits n few ran) in
      let c = (state_at q (k + n + 1)).core in
      ap (λ j. after_of (is_last a.step j (kind s j) (hart_at c j)) j) next.hart
      ∙ ap (λ u. after_of (is_last a.step h u (hart_at c h)) h) (ap (kind s) (sym next.hart)
      ∙ kind_at q f k at going h most turns row fits n few ran)
      ∙ ap (λ (d : Core). after_of (is_last a.step h (flat_kind (turns_of h f n) h) (hart_at d h)) h)
      (sym (core_at q (k + n + 1) (flat_turn (turns_of h f n) h) later))
      ∙ ap (λ u. after_of u h) e

  -- the last of them, which stops the run or not
  last_stop : (n fuel : ℕ) → n < turns → RanHere n → (b g w x y : Bool) → (stands (turns_of h f n).core h a.breaks && not b) ≡ w
      → (a.faults && is_trapped (flat_kind (turns_of h f n) h) && not g) ≡ x
      → is_last a.step h (flat_kind (turns_of h f n) h) (hart_at (flat_turn (turns_of h f n) h).core h) ≡ y
      → forward q a (suc fuel) (k + n) b g ≡ (if w then (k + n, S.Breaks h) else if x then
      (k + n, S.Faults h (flat_made (turns_of h f n) h).note) else if y then (k + n + 1, S.Steps h) else forward q a fuel (k + n + 1)
      false false)
  last_stop n fuel few ran b g true x y stand trap e = stopped_before q a fuel (k + n) b g (S.Breaks h)
      (before_at n few ran b g true x stand trap)
  last_stop n fuel few ran b g false true y stand trap e = stopped_before q a fuel (k + n) b g
      (S.Faults h (flat_made (turns_of h f n) h).note) (before_at n few ran b g false true stand trap)
  last_stop n fuel few ran b g false false true stand trap e =
      stopped_after q a fuel (k + n) b g (S.Steps h) (before_at n few ran b g false false stand trap) (after_at n few ran true e)
  last_stop n fuel few ran b g false false false stand trap e =
      stopped_not q a fuel (k + n) b g (before_at n few ran b g false false stand trap) (after_at n few ran false e)

  -- those before the last, where none begins at a breakpoint and the hart's step isn't asked
  module _ (free : IsFree f a h) where
    no_stand : (n : ℕ) → RanHere (suc n) → (b : Bool) → (stands (turns_of h f n).core h a.breaks && not b) ≡ false
    no_stand n ran b = ap (λ s. s && not b) (none_stands h f a.breaks free.clear n ran)

    one_on : (n fuel : ℕ) → n < turns → RanHere (suc n) → (b g : Bool)
        → forward q a (suc fuel) (k + n) b g ≡ forward q a fuel (k + n + 1) false false
    one_on n fuel few ran b g =
        let is : flat_kind (turns_of h f n) h ≡ K.Ran = ran n (omega arith) in
        let x = hart_at (flat_turn (turns_of h f n) h).core h in
        let quiet : (a.faults && is_trapped K.Ran && not g) ≡ false = ap (λ u. u && not g) (no_break a.faults) in
        last_stop n fuel few (before_suc q f k at going h most turns row fits n ran) b g false false false (no_stand n ran b)
        (ap (λ u. a.faults && is_trapped u && not g) is ∙ quiet) (ap (λ u. is_last a.step h u x) is ∙ free.other x)

    pub all_on : (n fuel : ℕ) → suc n < turns → RanHere (suc n) → (b g : Bool)
        → forward q a (suc n + fuel) k b g ≡ forward q a fuel (k + suc n) false false
    all_on zero fuel few ran b g =
        let same : k + 0 ≡ k = omega arith in
        let one : suc zero + fuel ≡ suc fuel = omega arith in
        ap (λ j. forward q a j k b g) one ∙ ap (λ j. forward q a (suc fuel) j b g) (sym same) ∙ one_on 0 fuel (omega (arith, few)) ran b g
        ∙ ap (λ j. forward q a fuel j false false) (omega arith)
    all_on (suc n) fuel few ran b g =
        let same : suc (suc n) + fuel ≡ suc n + suc fuel = omega arith in
        ap (λ j. forward q a j k b g) same ∙ all_on n (suc fuel) (omega (arith, few))
        (before_suc q f k at going h most turns row fits (suc n) ran) b g
        ∙ one_on (suc n) fuel (omega (arith, few)) ran false false ∙ ap (λ j. forward q a fuel j false false) (omega arith)

    -- whether the last one does
    last_stand : (n : ℕ) → RanHere (suc n) → (last : TurnKind) (noted : Option Note) → last ≡ flat_kind (turns_of h f (suc n)) h
        → noted ≡ (flat_made (turns_of h f (suc n)) h).note
        → (stands (turns_of h f (suc n)).core h a.breaks && not false) ≡ last_stood a.breaks false (suc n) last noted
    last_stand n ran last noted kind told =
        let g = turns_of h f (suc n) in
        let first : false ≡ stands f.core h a.breaks = sym (none_stands h f a.breaks free.clear 0 (λ j less. ran j (omega (arith, less))))
        in
        and_true (stands g.core h a.breaks)
        ∙ last_stands h f a.breaks (suc n) ran (λ some. free.clear) false first
        ∙ ap (λ t. last_stood a.breaks false (suc n) t (flat_made g h).note) (sym kind)
        ∙ ap (λ (t : Option Note). last_stood a.breaks false (suc n) last t) (sym told)

  row_end : (n fuel : ℕ) → n < turns → RanHere n → (b g w : Bool) (last : TurnKind) (noted : Option Note) (x : Hart)
      → last ≡ flat_kind (turns_of h f n) h → noted ≡ (flat_made (turns_of h f n) h).note
      → x ≡ hart_at (flat_turn (turns_of h f n) h).core h
      → (stands (turns_of h f n).core h a.breaks && not b) ≡ w
      → forward q a (suc fuel) (k + n) b g ≡ row_of (k + n) (stop_past a.faults g w h last noted) (row_stop a.step h last x)
      (forward q a fuel (k + n + 1) false false)
  row_end n fuel few ran b g w last noted x kind told hart stand =
      last_stop n fuel few ran b g w (a.faults && is_trapped last && not g) (is_last a.step h last x) stand
      (ap (λ u. a.faults && is_trapped u && not g) (sym kind))
      (ap (λ u. is_last a.step h u (hart_at (flat_turn (turns_of h f n) h).core h)) (sym kind) ∙ ap (is_last a.step h last) (sym hart))
      ∙ ap (λ (t : Option Note). if w then (k + n, S.Breaks h) else if a.faults && is_trapped last
      && not g then (k + n, S.Faults h t) else if is_last a.step h last x then (k + n + 1, S.Steps h) else forward q a fuel (k + n + 1)
      false false) (sym told)
      ∙ picks w (a.faults && is_trapped last && not g) (is_last a.step h last x) (k + n) h noted (forward q a fuel (k + n + 1) false false)

  pub row_found : (n fuel m : ℕ) → m ≡ k + n → n < turns → RanHere n → (b g : Bool) (last : TurnKind) (noted : Option Note) (x : Hart)
      → last ≡ flat_kind (turns_of h f n) h
      → noted ≡ (flat_made (turns_of h f n) h).note → x ≡ hart_at (flat_turn (turns_of h f n) h).core h
      → (stands f.core h a.breaks && not b) ≡ false
      → (1 < n + 1 → IsFree f a h)
      → forward q a (suc n + fuel) k b g ≡ row_of m (stop_past a.faults (g && (n == 0)) (last_stood a.breaks false n last noted) h last
      noted) (row_stop a.step h last x) (forward q a fuel (m + 1) false false)
  row_found zero fuel m next few ran b g last noted x kind told hart stand free =
      let same : k + 0 ≡ k = omega arith in
      let one : suc zero + fuel ≡ suc fuel = omega arith in
      ap (λ j. forward q a j k b g) one ∙ ap (λ j. forward q a (suc fuel) j b g) (sym same)
      ∙ row_end 0 fuel few ran b g false last noted x kind told hart stand
      ∙ ap (λ u. row_of (k + 0) (stop_past a.faults u false h last noted) (row_stop a.step h last x)
      (forward q a fuel (k + 0 + 1) false false)) (sym (and_true g))
      ∙ ap (λ j. row_of j (stop_past a.faults (g && true) false h last noted) (row_stop a.step h last x)
      (forward q a fuel (j + 1) false false)) (sym next)
  row_found (suc n) fuel m next few ran b g last noted x kind told hart stand free =
      let alone = free (omega arith) in
      let stood = last_stood a.breaks false (suc n) last noted in
      let same : suc (suc n) + fuel ≡ suc n + suc fuel = omega arith in
      ap (λ j. forward q a j k b g) same ∙ all_on alone n (suc fuel) few ran b g
      ∙ row_end (suc n) fuel few ran false false stood last noted x kind told hart (last_stand alone n ran last noted kind told)
      ∙ ap (λ u. row_of (k + suc n) (stop_past a.faults u stood h last noted) (row_stop a.step h last x)
      (forward q a fuel (k + suc n + 1) false false)) (sym (and_right g (suc n == 0) (neq_eqb (suc n) 0 (grind arith))))
      ∙ ap (λ j. row_of j (stop_past a.faults (g && (suc n == 0)) stood h last noted) (row_stop a.step h last x)
      (forward q a fuel (j + 1) false false)) (sym next)

  after_up : (after : Option Stop) (j : ℕ) (more : ℕ × Stop) → j + 1 ≤ more.0 → j + 1 ≤ (row_of j None after more).0
  after_up (Some stop) j more up = omega arith
  after_up None j more up = up

  -- a row that a machine made: it stops the run before its last turn, at m, or after it, or the search goes on behind it
  module _ (from budget : ℕ) (b0 g0 b g : Bool) (begun : from ≤ k)
      (same : forward q a budget from b0 g0 ≡ forward q a (from + budget - k) k b g) (r : ℕ) (few : r ≤ turns)
      (upto : k + r ≤ from + budget)
      (alone : 1 < r → IsFree f a h)
      (new : Flat) (events : Events) (stretch : Stretch) (is : IsStretch f h r new events stretch)
      (stand : (stands f.core h a.breaks && not b) ≡ false) (m : ℕ) (next : m ≡ k + stretch.ran) where
    row_few : stretch.ran < turns
    row_few = let less = is.few in omega (arith, less, few)

    pub row_place : IsAt q (m + 1) new
    row_place =
        is.turn ∙ at_next q f k at going h most turns row fits stretch.ran (m + 1) (omega (arith, next)) row_few is.ran
        (at_along q f k at going h most turns row fits stretch.ran row_few is.ran)

    abbrev fuel : ℕ
    fuel = from + budget - (m + 1)

    abbrev past_stop : Option Stop
    past_stop = stop_past a.faults (g && (stretch.ran == 0)) (last_stood a.breaks false stretch.ran stretch.last events.note) h stretch.last
        events.note

    abbrev after_stop : Option Stop
    after_stop = row_stop a.step h stretch.last (hart_at new.core h)

    row_is : forward q a budget from b0 g0 ≡ row_of m past_stop after_stop (forward q a fuel (m + 1) false false)
    row_is =
        let less = is.few in
        let whole : from + budget - k ≡ suc stretch.ran + fuel = omega (arith, less, upto, next) in
        same ∙ ap (λ j. forward q a j k b g) whole
        ∙ row_found stretch.ran fuel m next row_few is.ran b g stretch.last events.note (hart_at new.core h) is.kind is.told.note
        (ap (λ (x : Flat). hart_at x.core h) is.turn) stand (λ many. alone (omega (arith, less, many)))

    pub row_shows : shows q told from (m + 1 - from) ≡ shows q told from (k - from) ++ shown_said (news told m events.bytes)
    row_shows =
        let split : m + 1 - from ≡ k - from + (stretch.ran + 1) = omega (arith, next, begun) in
        let here : from + (k - from) ≡ k = omega (arith, begun) in
        ap (shows q told from) split ∙ shows_more q told from (k - from) (stretch.ran + 1)
        ∙ ap (λ j. shows q told from (k - from) ++ shows q told j (stretch.ran + 1)) here
        ∙ ap (λ (t : List ℕ). shows q told from (k - from) ++ t)
        (shows_row q f k at going h most turns row fits told stretch.ran row_few is.ran
        ∙ ap (λ (t : List ℕ). shown_said (news told (k + stretch.ran) t)) (sym is.told.bytes)
        ∙ ap (λ j. shown_said (news told j events.bytes)) (sym next))

    pub row_quiet : shows q told from (m - from) ≡ shows q told from (k - from)
    row_quiet =
        let split : m - from ≡ k - from + stretch.ran = omega (arith, next, begun) in
        let here : from + (k - from) ≡ k = omega (arith, begun) in
        ap (shows q told from) split ∙ shows_more q told from (k - from) stretch.ran
        ∙ ap (λ j. shows q told from (k - from) ++ shows q told j stretch.ran) here
        ∙ ap (λ (t : List ℕ). shows q told from (k - from) ++ t)
        (quiet_row q f k at going h most turns row fits told stretch.ran row_few is.ran)
        ∙ append-nil (shows q told from (k - from))

    -- its last turn traps, and that stops the run
    module _ (stop : Stop) (e : past_stop ≡ Some stop) where
      pub row_past : (m, stop) ≡ forward q a budget from b0 g0
      row_past = sym (row_is ∙ ap (λ (o : Option Stop). row_of m o after_stop (forward q a fuel (m + 1) false false)) e)

      pub row_traps : IsPast q a (m, stop)
      row_traps =
          let less = is.few in
          let p = past_traps a (g && (stretch.ran == 0)) stretch.ran h stretch.last events.note stop (λ many.
          (alone (omega (arith, less, many))).stops) e in
          let n = next_along q f k at going h most turns row fits stretch.ran row_few is.ran in
          record {
            asked = p.0;
            going = subst (λ j. ends_at q j ≡ false) (sym next) n.going;
            traps = subst (λ j. faults_at q j ≡ true) (sym next) (traps_at q f k at going h most turns row fits stretch.ran row_few is.ran
                ∙ ap is_trapped (sym is.kind) ∙ p.1);
          }

    -- it doesn't
    module _ (on_past : past_stop ≡ None) where
      row_after : forward q a budget from b0 g0 ≡ row_of m None after_stop (forward q a fuel (m + 1) false false)
      row_after = row_is ∙ ap (λ (o : Option Stop). row_of m o after_stop (forward q a fuel (m + 1) false false)) on_past

      pub row_up : m + 1 ≤ (forward q a budget from b0 g0).0
      row_up = subst (λ (t : ℕ × Stop). m + 1 ≤ t.0) (sym row_after)
          (after_up after_stop m (forward q a fuel (m + 1) false false) (upward q a fuel (m + 1) false false))

      pub row_stops : (stop : Stop) → after_stop ≡ Some stop → (m + 1, stop) ≡ forward q a budget from b0 g0
      row_stops stop e = sym (row_after ∙ ap (λ (o : Option Stop). row_of m None o (forward q a fuel (m + 1) false false)) e)

      pub row_goes : after_stop ≡ None → forward q a budget from b0 g0 ≡ forward q a fuel (m + 1) false false
      row_goes e = row_after ∙ ap (λ (o : Option Stop). row_of m None o (forward q a fuel (m + 1) false false)) e

-- a search that ended, or goes on
module _ (q : Looked) (a : Asked) (from budget made : ℕ) (b0 g0 b g : Bool)
    (same : forward q a budget from b0 g0 ≡ forward q a (from + budget - made) made b g) (less : made < from + budget) where
  one_more : from + budget - made ≡ suc (from + budget - (made + 1))
  one_more = omega (arith, less)

  pub ended : ends_at q made ≡ true → (made, S.Ends) ≡ forward q a budget from b0 g0
  ended e = sym (same ∙ ap (λ j. forward q a j made b g) one_more ∙ forward_ends q a (from + budget - (made + 1)) made b g e)

  pub broken : (h : ℕ) (m : Flat) → IsAt q made m → IsNext q made h → (stands m.core h a.breaks && not b) ≡ true
      → (made, S.Breaks h) ≡ forward q a budget from b0 g0
  broken h m at next e = sym (same ∙ ap (λ j. forward q a j made b g) one_more
      ∙ forward_breaks q a (from + budget - (made + 1)) made h m b g at next e)

pub paused : (q : Looked) (a : Asked) (from budget made : ℕ) (b0 g0 b g : Bool)
    → forward q a budget from b0 g0 ≡ forward q a (from + budget - made) made b g → from + budget ≤ made
    → (made, S.Pauses) ≡ forward q a budget from b0 g0
paused q a from budget made b0 g0 b g same all =
    let none : from + budget - made ≡ 0 = omega (arith, all) in
    sym (same ∙ ap (λ j. forward q a j made b g) none)

over_by : (x y : Bool) → (x || y) ≡ true → (x ≡ true) ⊎ (y ≡ true)
over_by true y e = inl refl
over_by false y e = inr e

-- all turns were made, or all harts are halted
pub over_at : (q : Looked) (k : ℕ) (m : Flat) → IsAt q k m → (nat_le q.most k || all_halted m.core) ≡ true → ends_at q k ≡ true
over_at q k m at e = elim (over_by (nat_le q.most k) (all_halted m.core) e) [
  | inl all ↦ or_left (nat_le q.most k) (is_stopped q.schedule (state_at q k)) all
  | inr halted ↦ ends_halted_at q k m at halted
]

pub not_over : (x y : Bool) → (x || y) ≡ false → (x ≡ false) × (y ≡ false)
not_over true y e = absurd (cc)
not_over false y e = (refl, e)

-- where a machine stands after turns in a row
pub stretch_place : (q : Looked) (f : Flat) (k m : ℕ) → IsAt q k f → all_halted f.core ≡ false → (h most turns : ℕ)
    → IsRow q.schedule f.core most h turns → (r : ℕ) → r ≤ turns
    → (new : Flat) (events : Events) (stretch : Stretch) → IsStretch f h r new events stretch → m ≡ k + stretch.ran + 1 → IsAt q m new
stretch_place q f k m at going h most turns row r upto new events stretch is next =
    let p : Looked = record q { most = k + turns } in
    let less = is.few in
    let few : stretch.ran < turns = omega (arith, less, upto) in
    is.turn ∙ at_next p f k at going h most turns row (omega arith) stretch.ran m next few is.ran
    (at_along p f k at going h most turns row (omega arith) stretch.ran few is.ran)

-- a turn that traps adds nothing to the console
fault_by : (q : Looked) (k : ℕ) (v : Bool) → is_stopped q.schedule (state_at q k) ≡ v → faults_at q k ≡ true → bytes_at q k ≡ []
fault_by q k true e fault =
    let s = state_at q k in
    ap (λ (u : State). drop (length s.console) u.console) (run_ends q.schedule k (k + 1) q.start (omega arith) e)
    ∙ ap (drop (length s.console)) (sym (append-nil s.console)) ∙ drop_front s.console []
fault_by q k false e fault =
    let s = state_at q k in
    let h = next_at q k in
    let silent : (made_of s h).console ≡ [] = trap_silent (reads s) s.core h (is_trap (kind s h) fault) in
    ap (λ (u : State). drop (length s.console) u.console) (run_more q.schedule k q.start h e refl)
    ∙ drop_front s.console (made_of s h).console ∙ silent

pub faults_are_silent : (q : Looked) (k : ℕ) → faults_at q k ≡ true → bytes_at q k ≡ []
faults_are_silent q k fault = fault_by q k (is_stopped q.schedule (state_at q k)) refl fault

-- A search backward, along the rows of turns that a machine makes.
use Rattle.std.proofs.Common.{◌≡◌, ℕ, zero, suc, ◌+◌, ◌-◌, ◌<◌, ◌≤◌, Bool, true, false, ◌&&◌, nat_le, nat_lt, Option, Some, None, IfSome}
use Rattle.std.proofs.Common.{refl, sym, ap, ◌∙◌, arith, if◌then◌else◌}
use Rattle.std.proofs.lemmas.Bool.{or_right}
use Rattle.mx_model.specs.declared.values.Note.{Note}
use Rattle.mx_model.specs.declared.values.TurnKind.{TurnKind}
use Rattle.mx_model.specs.declared.values.TurnKind.TheVariants as K
use Rattle.mx_model.specs.Run.{all_halted, flat_kind, flat_made, is_stopped}
use Rattle.mx_model.specs.State.{Flat}
use Rattle.mx_machine.specs.Turning.{turns_of}
use Rattle.mx_turns.specs.Running.{IsRow, named}
use Rattle.mx_turns.proofs.RunTexts.{run_ends, stops_halted, stops_over}
use Rattle.mx_debug.specs.declared.stop.Stop.{Stop}
use Rattle.mx_debug.specs.declared.stop.Stop.TheVariants as S
use Rattle.mx_debug.specs.Entries.{IsClear, last_stood}
use Rattle.mx_debug.specs.Looks.{IsAt}
use Rattle.mx_debug.specs.Back.{Sought, is_sought, is_sought_at, last_stop, row_back, stop_back}
use Rattle.mx_debug.specs.Session.{Looked, breaks_at, ends_at, faults_at, is_trapped, next_at, note_at, stands, state_at}
use Rattle.mx_debug.proofs.EntryLaws.{last_stands, none_stands}
use Rattle.mx_debug.proofs.ForwardLaws.{core_at, kind_at, next_along, no_break, noted_at, stands_along, traps_at}

-- why one who goes back stops, by four tests
abbrev pub back_of : Bool → Bool → Bool → Bool → ℕ → Option Note → Option Stop
back_of ends breaks faults sought h noted =
    if ends then None
    else if breaks then Some (S.Breaks h)
    else if faults then Some (S.Faults h noted)
    else if sought then Some (S.Steps h)
    else None

pub back_is : (q : Looked) (a : Sought) (k : ℕ) (x y z w : Bool) → ends_at q k ≡ x → breaks_at q a.breaks k ≡ y → faults_at q k ≡ z
    → is_sought_at q a.hart k ≡ w
    → stop_back q a k ≡ back_of x y z w (next_at q k) (note_at q k)
back_is q a k x y z w e f g i =
    ap (λ u. back_of u (breaks_at q a.breaks k) (faults_at q k) (is_sought_at q a.hart k) (next_at q k) (note_at q k)) e
    ∙ ap (λ u. back_of x u (faults_at q k) (is_sought_at q a.hart k) (next_at q k) (note_at q k)) f
    ∙ ap (λ u. back_of x y u (is_sought_at q a.hart k) (next_at q k) (note_at q k)) g
    ∙ ap (λ u. back_of x y z u (next_at q k) (note_at q k)) i

-- the last stop of one turn more
abbrev pub last_of : Looked → Sought → ℕ → ℕ → Option Stop → Option (ℕ × Stop)
last_of q a low n stop = elim stop [
  | Some s ↦ Some (low + n, s)
  | None ↦ last_stop q a low n
]

pub last_more : (q : Looked) (a : Sought) (low n : ℕ) (stop : Option Stop) → stop_back q a (low + n) ≡ stop
    → last_stop q a low (n + 1) ≡ last_of q a low n stop
last_more q a low n stop e =
    let one : n + 1 ≡ suc n = omega arith in
    ap (last_stop q a low) one ∙ ap (last_of q a low n) e

-- nothing stops it where the run doesn't go on
pub nothing_on : (q : Looked) (a : Sought) (low n d : ℕ) → ((j : ℕ) → j < d → ends_at q (low + (n + j)) ≡ true)
    → last_stop q a low (n + d) ≡ last_stop q a low n
nothing_on q a low n zero over = let e : n + zero ≡ n = omega arith in ap (last_stop q a low) e
nothing_on q a low n (suc d) over =
    let e : n + suc d ≡ n + d + 1 = omega arith in
    let k = low + (n + d) in
    ap (last_stop q a low) e
    ∙ last_more q a low (n + d) None (back_is q a k true (breaks_at q a.breaks k) (faults_at q k) (is_sought_at q a.hart k)
    (over d (omega arith)) refl refl refl)
    ∙ nothing_on q a low n d (λ j less. over j (omega (arith, less)))

pub ends_later : (q : Looked) (k j : ℕ) → k ≤ j → is_stopped q.schedule (state_at q k) ≡ true → ends_at q j ≡ true
ends_later q k j up e =
    or_right (nat_le q.most j) (is_stopped q.schedule (state_at q j)) (ap (is_stopped q.schedule) (run_ends q.schedule k j q.start up e)
    ∙ e)

pub nothing_behind : (q : Looked) (a : Sought) (low k top : ℕ) → low ≤ k → k ≤ top → is_stopped q.schedule (state_at q k) ≡ true
    → last_stop q a low (top - low) ≡ last_stop q a low (k - low)
nothing_behind q a low k top begun up e =
    let whole : top - low ≡ k - low + (top - k) = omega (arith, begun, up) in
    ap (last_stop q a low) whole ∙ nothing_on q a low (k - low) (top - k) (λ j less.
    ends_later q k (low + (k - low + j)) (omega (arith, begun)) e)

pub stopped_halted : (q : Looked) (k : ℕ) (m : Flat) → IsAt q k m → all_halted m.core ≡ true → is_stopped q.schedule (state_at q k) ≡ true
stopped_halted q k m at e = stops_halted q.schedule (state_at q k) (ap all_halted (sym (core_at q k m at)) ∙ e)

pub stopped_over : (q : Looked) (k : ℕ) (m : Flat) → IsAt q k m → named q.schedule m.core ≡ None
    → is_stopped q.schedule (state_at q k) ≡ true
stopped_over q k m at e = stops_over q.schedule (state_at q k) (ap (named q.schedule) (sym (core_at q k m at)) ∙ e)

-- turns of one hart in a row from a place
module _ (q : Looked) (a : Sought) (f : Flat) (k : ℕ) (at : IsAt q k f) (going : all_halted f.core ≡ false) (h most turns : ℕ)
    (row : IsRow q.schedule f.core most h turns)
    (fits : k + turns ≤ q.most) where
  abbrev RanHere : ℕ → Type 0
  RanHere n = (j : ℕ) → j < n → flat_kind (turns_of h f j) h ≡ K.Ran

  back_at : (n : ℕ) → n < turns → RanHere n → (y z w : Bool) → stands (turns_of h f n).core h a.breaks ≡ y
      → is_trapped (flat_kind (turns_of h f n) h) ≡ z → is_sought a.hart h (flat_kind (turns_of h f n) h) ≡ w
      → stop_back q a (k + n) ≡ back_of false y z w h (flat_made (turns_of h f n) h).note
  back_at n few ran y z w stand trap sought =
      let next = next_along q f k at going h most turns row fits n few ran in
      back_is q a (k + n) false y z w next.going
      (stands_along q f k at going h most turns row fits a.breaks n few ran ∙ stand)
      (traps_at q f k at going h most turns row fits n few ran ∙ trap)
      (ap (is_sought a.hart (next_at q (k + n))) (kind_at q f k at going h most turns row fits n few ran)
      ∙ ap (λ u. is_sought a.hart u (flat_kind (turns_of h f n) h)) next.hart ∙ sought)
      ∙ ap (λ j. back_of false y z w j (note_at q (k + n))) next.hart
      ∙ ap (back_of false y z w h) (noted_at q f k at going h most turns row fits n few ran)

  -- those before the last, where none begins at a breakpoint
  abbrev middle : ℕ → ℕ → Bool → Option (ℕ × Stop) → Option (ℕ × Stop)
  middle n place sought before = if nat_lt 0 n && sought then Some (place, S.Steps h) else before

  some_before : (n : ℕ) → nat_lt 0 (suc n) ≡ true
  some_before n = grind arith

  skipped : (b : Bool) (place : ℕ) (before : Option (ℕ × Stop)) → (if b && false then Some (place, S.Steps h) else before) ≡ before
  skipped b place before = ap (λ u. if u then Some (place, S.Steps h) else before) (no_break b)

  middle_by : (low c n : ℕ) → low + c ≡ k → (w : Bool) (noted : Option Note) → is_sought a.hart h K.Ran ≡ w
      → stop_back q a (low + (c + n)) ≡ back_of false false false w h noted
      → last_stop q a low (c + n) ≡ middle n (k + n - 1) w (last_stop q a low c)
      → last_stop q a low (c + n + 1) ≡ middle (suc n) (k + suc n - 1) w (last_stop q a low c)
  middle_by low c n here true noted is back before =
      let place : low + (c + n) ≡ k + suc n - 1 = omega (arith, here) in
      last_more q a low (c + n) (Some (S.Steps h)) back ∙ ap (λ j. Some (j, S.Steps h)) place
      ∙ ap (λ u. if u && true then Some (k + suc n - 1, S.Steps h) else last_stop q a low c) (sym (some_before n))
  middle_by low c n here false noted is back before =
      last_more q a low (c + n) None back ∙ before
      ∙ skipped (nat_lt 0 n) (k + n - 1) (last_stop q a low c) ∙ sym (skipped (nat_lt 0 (suc n)) (k + suc n - 1) (last_stop q a low c))

  middle_row : (low c n : ℕ) → low + c ≡ k → n < turns → RanHere n → (0 < n → IsClear f h a.breaks)
      → last_stop q a low (c + n) ≡ middle n (k + n - 1) (is_sought a.hart h K.Ran) (last_stop q a low c)
  middle_row low c zero here few ran free = let e : c + zero ≡ c = omega arith in ap (last_stop q a low) e
  middle_row low c (suc n) here few ran free =
      let clear = free (omega arith) in
      let more : c + suc n ≡ c + n + 1 = omega arith in
      let place : low + (c + n) ≡ k + n = omega (arith, here) in
      let few_before : n < turns = omega (arith, few) in
      let ran_before : RanHere n = λ j less. ran j (omega (arith, less)) in
      let is : flat_kind (turns_of h f n) h ≡ K.Ran = ran n (omega arith) in
      ap (last_stop q a low) more
      ∙ middle_by low c n here (is_sought a.hart h K.Ran) (flat_made (turns_of h f n) h).note refl
      (ap (stop_back q a) place ∙ back_at n few_before ran_before false false (is_sought a.hart h K.Ran)
      (none_stands h f a.breaks clear n ran) (ap is_trapped is) (ap (is_sought a.hart h) is))
      (middle_row low c n here few_before ran_before (λ some. clear))

  ends_row : (low c n : ℕ) (y z w v : Bool) (noted : Option Note) → low + c ≡ k
      → stop_back q a (low + (c + n)) ≡ back_of false y z w h noted
      → last_stop q a low (c + n) ≡ middle n (k + n - 1) v (last_stop q a low c)
      → last_stop q a low (c + n + 1) ≡ (if y then Some (k + n, S.Breaks h) else if z then Some (k + n, S.Faults h noted) else if w then
      Some (k + n, S.Steps h) else middle n (k + n - 1) v (last_stop q a low c))
  ends_row low c n true z w v noted here back before =
      let place : low + (c + n) ≡ k + n = omega (arith, here) in
      last_more q a low (c + n) (Some (S.Breaks h)) back ∙ ap (λ j. Some (j, S.Breaks h)) place
  ends_row low c n false true w v noted here back before =
      let place : low + (c + n) ≡ k + n = omega (arith, here) in
      last_more q a low (c + n) (Some (S.Faults h noted)) back ∙ ap (λ j. Some (j, S.Faults h noted)) place
  ends_row low c n false false true v noted here back before =
      let place : low + (c + n) ≡ k + n = omega (arith, here) in
      last_more q a low (c + n) (Some (S.Steps h)) back ∙ ap (λ j. Some (j, S.Steps h)) place
  ends_row low c n false false false v noted here back before = last_more q a low (c + n) None back ∙ before

  -- the last stop after such a row
  pub row_last : (low n : ℕ) → low ≤ k → n < turns → RanHere n → (last : TurnKind) (noted : Option Note)
      → last ≡ flat_kind (turns_of h f n) h → noted ≡ (flat_made (turns_of h f n) h).note
      → (s t : Bool) → s ≡ stands f.core h a.breaks → t ≡ last_stood a.breaks s n last noted → (1 < n + 1 → IsClear f h a.breaks)
      → last_stop q a low (k + (n + 1) - low) ≡ row_back a.hart h k t n last noted (last_stop q a low (k - low))
  row_last low n begun few ran last noted kind told s t stand stood free =
      let c = k - low in
      let here : low + c ≡ k = omega (arith, begun) in
      let whole : k + (n + 1) - low ≡ c + n + 1 = omega (arith, begun) in
      let place : low + (c + n) ≡ k + n = omega (arith, here) in
      let clear : 0 < n → IsClear f h a.breaks = λ some. free (omega (arith, some)) in
      let g = turns_of h f n in
      let last_one : stands g.core h a.breaks ≡ t = last_stands h f a.breaks n ran clear s stand
      ∙ ap (λ u. last_stood a.breaks s n u (flat_made g h).note) (sym kind)
      ∙ ap (λ (u : Option Note). last_stood a.breaks s n last u) (sym told) ∙ sym stood in
      ap (last_stop q a low) whole
      ∙ ends_row low c n t (is_trapped last) (is_sought a.hart h last) (is_sought a.hart h K.Ran) noted here
      (ap (stop_back q a) place ∙ back_at n few ran t (is_trapped last) (is_sought a.hart h last) last_one (ap is_trapped (sym kind))
      (ap (is_sought a.hart h) (sym kind))
      ∙ ap (back_of false t (is_trapped last) (is_sought a.hart h last) h) (sym told))
      (middle_row low c n here few ran clear)

-- it isn't behind them
below_by : (x y z w : Bool) (h made n : ℕ) (noted : Option Note) (before : Option (ℕ × Stop)) → IfSome before (λ found. found.0 ≤ made)
    → IfSome (if x then Some (made + n, S.Breaks h) else if y then Some (made + n, S.Faults h noted) else if z then Some
    (made + n, S.Steps h) else if w then Some (made + n - 1, S.Steps h) else before) (λ found. found.0 ≤ made + (n + 1))
below_by true y z w h made n noted before up = omega arith
below_by false true z w h made n noted before up = omega arith
below_by false false true w h made n noted before up = omega arith
below_by false false false true h made n noted before up = omega arith
below_by false false false false h made n noted None up = tt
below_by false false false false h made n noted (Some found) up = omega (arith, up)

pub row_below : (hart : Option ℕ) (h made : ℕ) (s : Bool) (n : ℕ) (last : TurnKind) (noted : Option Note) (before : Option (ℕ × Stop))
    → IfSome before (λ found. found.0 ≤ made)
    → IfSome (row_back hart h made s n last noted before) (λ found. found.0 ≤ made + (n + 1))
row_below hart h made s n last noted before up = below_by s (is_trapped last) (is_sought hart h last) (nat_lt 0 n && is_sought hart h K.Ran)
    h made n noted before up

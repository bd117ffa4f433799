-- The turns of a run whose texts are counted.
use Rattle.std.proofs.Common.{◌≡◌, ℕ, ◌+◌, ◌^◌, ◌<◌, false, [], length, option_to_list, Option, None, Result, Ok, Err, count_by, sym, ap}
use Rattle.std.proofs.Common.{subst, ◌∙◌, arith, length-append}
use Rattle.std.proofs.lemmas.List.Sums.{sum_by-append}
use Rattle.std.specs.Prelude.{cond}
use Rattle.mx_io.specs.Real.{stream}
use Rattle.mx_machine.specs.declared.views.Stretch.{Stretch}
use Rattle.mx_machine.specs.Turning.{IsStretch}
use Rattle.mx_model.specs.Events.{Events}
use Rattle.mx_model.specs.Run.{Schedule, all_halted, made_of, run, turn}
use Rattle.mx_model.specs.State.{State, Flat, flat}
use Rattle.mx_model.specs.declared.values.Note.{Note}
use Rattle.mx_turns.specs.declared.counting.Tally.{Tally}
use Rattle.mx_turns.specs.declared.fault.SinkFault.{SinkFault}
use Rattle.mx_turns.specs.Counting.{IsCounted, IsSum, IsTallied, is_exit, is_fault, tally_of}
use Rattle.mx_turns.specs.Rows.{EndsOrStops}
use Rattle.mx_turns.specs.Running.{IsNew, IsRow, IsTurnOf, Places, places}
use Rattle.mx_turns.proofs.RunTexts.{last_along, last_is, last_more, run_over}

-- a tally by its three counts
pub tally_is : (t u : Tally) → t.bytes ≡ u.bytes → t.faults ≡ u.faults → t.exits ≡ u.exits → t ≡ u
tally_is t u b f e =
    ap (λ n. record t { bytes = n }) b ∙ ap (λ n. record { bytes = u.bytes; faults = n; exits = t.exits }) f
    ∙ ap (λ n. record { bytes = u.bytes; faults = u.faults; exits = n }) e

-- a count has no places
pub no_places : Places
no_places = places (stream None 0 0) [] (stream None 0 0) []

-- a run begins
pub counted_none : (s : State) (machine : Flat) (t : Tally) → IsNew s → machine ≡ flat s → t.bytes ≡ 0 → t.faults ≡ 0 → t.exits ≡ 0
    → IsCounted s machine t
counted_none s machine t new is b f e = record {
  state = is;
  counts = tally_is t (tally_of s) (b ∙ ap length (sym new.console)) (f ∙ ap (count_by is_fault) (sym new.notes)) (e
      ∙ ap (count_by is_exit) (sym new.notes));
}

pub tallied_none : (s : State) (machine : Flat) (t : Tally) → IsNew s → machine ≡ flat s → t.bytes ≡ 0 → t.faults ≡ 0 → t.exits ≡ 0
    → IsTallied 0 s machine t
tallied_none s machine t new is b f e few = record {
  counted = counted_none s machine t new is b f e;
  bytes = omega (arith, b);
  faults =
      omega (arith, f);
  exits = omega (arith, e);
}

-- one more turn was made
pub counted_turn : (s : State) (h : ℕ) (k : Flat) (events : Events) (t u : Tally) → IsTurnOf s h k events → t ≡ tally_of s
    → u.bytes ≡ t.bytes + length events.bytes
    → u.faults ≡ t.faults + count_by is_fault (option_to_list events.note)
    → u.exits ≡ t.exits + count_by is_exit (option_to_list events.note) → IsCounted (turn s h) k u
counted_turn s h k events t u is e bytes faults exits =
    let made = made_of s h in record {
      state = is.state;
      counts = tally_is u (tally_of (turn s h))
          (bytes ∙ ap (λ (x : Tally). x.bytes + length events.bytes) e ∙ ap (λ xs. length s.console + length xs) is.bytes
          ∙ sym (length-append s.console made.console))
          (faults ∙ ap (λ (x : Tally). x.faults + count_by is_fault (option_to_list events.note)) e
          ∙ ap (λ (o : Option Note). count_by is_fault s.notes + count_by is_fault (option_to_list o)) is.note
          ∙ sym (sum_by-append (λ x. cond (is_fault x) 1 0) s.notes (option_to_list made.note)))
          (exits ∙ ap (λ (x : Tally). x.exits + count_by is_exit (option_to_list events.note)) e
          ∙ ap (λ (o : Option Note). count_by is_exit s.notes + count_by is_exit (option_to_list o)) is.note
          ∙ sym (sum_by-append (λ x. cond (is_exit x) 1 0) s.notes (option_to_list made.note)));
    }

-- a row of turns was made, and what the last one adds was counted
pub counted_row : (schedule : Schedule) (f : Flat) → all_halted f.core ≡ false → (h turns : ℕ) → IsRow schedule f.core turns h turns
    → (i : ℕ) (s : State) (t u : Tally) (k : Flat) (events : Events)
    (stretch : Stretch) → IsStretch f h turns k events stretch → IsSum t events u → IsTallied i (run schedule i s) f t
    → IsTallied (i + (stretch.ran + 1)) (run schedule (i + (stretch.ran + 1)) s) k u
counted_row schedule f going h turns row i s t u k events stretch is sum has few =
    let c = has (omega (arith, few)) in
    let along = last_along schedule f going h turns row i s c.counted.state k events stretch is in
    let v = run schedule (i + stretch.ran) s in
    let same : t ≡ tally_of v = c.counted.counts ∙ tally_is (tally_of (run schedule i s)) (tally_of v) (ap length (sym along.console))
    (ap (count_by is_fault) (sym along.notes)) (ap (count_by is_exit) (sym along.notes)) in
    let bytes = c.bytes in
    let faults = c.faults in
    let exits = c.exits in
    let most_written = sum.few_bytes in
    let most_faults = sum.few_faults in
    let most_exits = sum.few_exits in
    let counted = counted_turn v h k events t u (last_is schedule f going h turns row i s c.counted.state k events stretch is) same
    (sum.bytes (omega (arith, bytes, few))) (sum.faults (omega (arith, faults, few))) (sum.exits (omega (arith, exits, few))) in
    record {
      counted = rw (last_more schedule f going h turns row i s c.counted.state k events stretch is) counted;
      bytes = omega (arith, bytes, most_written);
      faults = omega (arith, faults, most_faults);
      exits = omega (arith, exits, most_exits);
    }

-- all turns were made
pub counted_over : {A : Type 0} (schedule : Schedule) (s : State) (n : ℕ) (m : Flat) (t : Tally) (r : Result A SinkFault)
    → EndsOrStops (λ j. IsTallied j (run schedule j s) m t) (λ j which. ⊥) schedule 0 n m.core r → n < 2 ^ 32
    → IsCounted (run schedule n s) m t
counted_over schedule s n m t (Ok a) (k, few, end, has) short =
    let c = (has (omega (arith, few, short))).counted in
    let e : n ≡ 0 + n = omega arith in
    subst (λ (u : State). IsCounted u m t) (sym (ap (λ j. run schedule j s) e ∙ run_over schedule s 0 n k m c.state few end)) c
counted_over schedule s n m t (Err which) (k, few, stops) short = absurd stops

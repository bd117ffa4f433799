-- Turns and runs of states that are the same, and what runs add to console and notes.
use Rattle.std.proofs.Common.{◌≡◌, ℕ, zero, suc, ◌+◌, ◌&&◌, ◌||◌, true, false, List, [], ◌∷◌, ◌++◌, refl, sym, ◌∙◌, ap, subst, arith}
use Rattle.std.proofs.Common.{map as list_map}
use Rattle.std.specs.Prelude.{option_to_list}
use Rattle.std.specs.List.{list_all}
use Rattle.std.proofs.lemmas.List.{append-nil, append_assoc, length-map}
use Rattle.mx_model.specs.declared.values.Note.{Note}
use Rattle.mx_model.specs.Checks.{is_halted}
use Rattle.mx_model.specs.Run.{Schedule, turn, flat_turn, made_of, flat_made, hart_of, is_over, all_halted, is_stopped, run}
use Rattle.mx_model.specs.Reads.{flat_reads}
use Rattle.mx_model.specs.State.{Core, Hart, State, Flat, flat}
use Rattle.mx_model.proofs.FlatLaws.{flat-turn, made-flat}
use Rattle.mx_model.proofs.RunLaws.{run-add}
use Rattle.mx_model.proofs.RunSteps.{next_of}
use Rattle.mx_snapshot.specs.Same.{bare_hart, bare, bare_flat, AreSame, silent, TakesUp}
use Rattle.mx_snapshot.proofs.BareLaws.{bare_made, bare-turned, halted-bare}

-- what a turn makes of flat states that are the same
pub made-same : (f g : Flat) (h : ℕ) → AreSame f g → bare_made (flat_made f h) ≡ bare_made (flat_made g h)
made-same f g h p =
    bare-turned (flat_reads f) f.core h ∙ ap (λ (x : Flat). bare_made (flat_made x h)) p ∙ sym (bare-turned (flat_reads g) g.core h)

pub turn-same : (f g : Flat) (h : ℕ) → AreSame f g → AreSame (flat_turn f h) (flat_turn g h)
turn-same f g h p = search (arith, bare_made, made-same)

-- what a turn makes of states whose flat states are the same
pub made-alike : (s t : State) (h : ℕ) → AreSame (flat s) (flat t) → bare_made (made_of s h) ≡ bare_made (made_of t h)
made-alike s t h p = ap bare_made (made-flat s h) ∙ made-same (flat s) (flat t) h p ∙ sym (ap bare_made (made-flat t h))

pub turn-alike : (s t : State) (h : ℕ) → AreSame (flat s) (flat t) → AreSame (flat (turn s h)) (flat (turn t h))
turn-alike s t h p = ap bare_flat (flat-turn s h) ∙ turn-same (flat s) (flat t) h p ∙ sym (ap bare_flat (flat-turn t h))

-- which hart makes the next turn, and whether there is one
halted-all : (hs : List Hart) → list_all (λ (hart : Hart). is_halted hart.status) (list_map bare_hart hs)
    ≡ list_all (λ (hart : Hart). is_halted hart.status) hs
halted-all [] = refl
halted-all (x ∷ xs) =
    ap (λ b. b && list_all (λ (hart : Hart). is_halted hart.status) (list_map bare_hart xs)) (halted-bare x.status)
    ∙ ap (λ b. is_halted x.status && b) (halted-all xs)

stopped-same : (schedule : Schedule) (s t : State) → AreSame (flat s) (flat t) → is_stopped schedule s ≡ is_stopped schedule t
stopped-same schedule s t p =
    ap (λ b. b || is_over schedule s.core.turns) (sym (halted-all s.core.harts))
    ∙ ap (λ (f : Flat). all_halted f.core || is_over schedule f.core.turns) p
    ∙ ap (λ b. b || is_over schedule t.core.turns) (halted-all t.core.harts)

hart-same : (schedule : Schedule) (c : Core) → hart_of schedule c ≡ hart_of schedule (bare c)
hart-same x c = grind (arith, length-map)

next-same : (schedule : Schedule) (s t : State) → AreSame (flat s) (flat t) → hart_of schedule s.core ≡ hart_of schedule t.core
next-same schedule s t p = hart-same schedule s.core ∙ ap (λ (f : Flat). hart_of schedule f.core) p ∙ sym (hart-same schedule t.core)

-- states that are the same, with the same console bytes and notes
pub record Match (s t : State) : Type 0 where
  pub same : AreSame (flat s) (flat t)
  pub console : s.console ≡ t.console
  pub notes : s.notes ≡ t.notes

match-turn : (s t : State) (h : ℕ) → Match s t → Match (turn s h) (turn t h)
match-turn s t h p = search (arith, made-alike, turn-alike, t.console, t.notes)

match-run : (schedule : Schedule) (n : ℕ) (s t : State) → Match s t → Match (run schedule n s) (run schedule n t)
match-run schedule zero s t p = p
match-run schedule (suc n) s t p =
    subst (λ b. Match (run schedule (suc n) s) (next_of schedule n t b)) (stopped-same schedule s t p.same)
    (elim (is_stopped schedule s) as (λ b. Match (next_of schedule n s b) (next_of schedule n t b)) [
      | true ↦ p
      | false ↦ match-run schedule n _ _ (subst (λ h. Match (turn s (hart_of schedule s.core)) (turn t h)) (next-same schedule s t p.same)
          (match-turn s t (hart_of schedule s.core) p))
    ])

-- a state with console bytes and notes before its own
abbrev behind : List ℕ → List Note → State → State
behind bytes notes s = record s { console = bytes ++ s.console; notes = notes ++ s.notes }

turn-behind : (bytes : List ℕ) (notes : List Note) (s : State) (h : ℕ) → turn (behind bytes notes s) h ≡ behind bytes notes (turn s h)
turn-behind bytes notes s h =
    ap (λ (xs : List ℕ). record (turn (behind bytes notes s) h) { console = xs }) (append_assoc bytes s.console (made_of s h).console)
    ∙ ap (λ (xs : List Note). record (behind bytes notes (turn s h)) { notes = xs })
    (append_assoc notes s.notes (option_to_list (made_of s h).note))

run-behind : (schedule : Schedule) (n : ℕ) (bytes : List ℕ) (notes : List Note) (s : State) →
    run schedule n (behind bytes notes s) ≡ behind bytes notes (run schedule n s)
run-behind schedule zero bytes notes s = refl
run-behind schedule (suc n) bytes notes s = elim (is_stopped schedule s) as (λ b.
    next_of schedule n (behind bytes notes s) b ≡ behind bytes notes (next_of schedule n s b)) [
      | true ↦ refl
      | false ↦ ap (run schedule n) (turn-behind bytes notes s (hart_of schedule s.core))
          ∙ run-behind schedule n bytes notes (turn s (hart_of schedule s.core))
    ]

-- a run is that from the same state with neither, after its console bytes and notes
pub run-silent : (schedule : Schedule) (n : ℕ) (s : State) → run schedule n s ≡ behind s.console s.notes (run schedule n (silent s))
run-silent schedule n s = ap (run schedule n) (sym whole) ∙ run-behind schedule n s.console s.notes (silent s)
  where
    whole : behind s.console s.notes (silent s) ≡ s
    whole = ap (λ (xs : List ℕ). record (behind s.console s.notes (silent s)) { console = xs }) (append-nil s.console)
        ∙ ap (λ (xs : List Note). record s { notes = xs }) (append-nil s.notes)

-- runs of states whose flat states are the same
pub run-same : (schedule : Schedule) (n : ℕ) (s t : State) → AreSame (flat s) (flat t)
    → Match (run schedule n (silent s)) (run schedule n (silent t))
run-same schedule n s t p = match-run schedule n (silent s) (silent t) (record { same = p; console = refl; notes = refl })

pub run-alike : (schedule : Schedule) (n : ℕ) (s t : State) → AreSame (flat s) (flat t)
    → AreSame (flat (run schedule n s)) (flat (run schedule n t))
run-alike schedule n s t p = grind (arith, run-silent, run-same)

-- a run taken up, and the rest of the whole run
pub run-taken : (schedule : Schedule) (n m : ℕ) (s t : State) → TakesUp (run schedule n s) t →
    Match (run schedule (n + m) s) (behind (run schedule n s).console (run schedule n s).notes (run schedule m t))
run-taken schedule n m s t p = grind (arith, behind, run-add, run-silent, match-run)

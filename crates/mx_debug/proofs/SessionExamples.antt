-- Worked examples of where a run stops, forward and backward, computed.
use Rattle.std.specs.Prelude.{◌≡◌, ℕ, Bool, true, false, List, [], ◌∷◌, ◌++◌, codes, Option, Some, None, refl}
use Rattle.mx_words.specs.Bytes.{number_at, put_at, cleared_at}
use Rattle.mx_isa.specs.Fields.{imm_i, imm_s, imm_b, imm_u, imm_j, extended}
use Rattle.mx_isa.specs.Table.{decoded}
use Rattle.mx_model.specs.declared.values.Note.{Note}
use Rattle.mx_model.specs.declared.values.Note.TheVariants as N
use Rattle.mx_model.specs.Effect.{holds, imm_result, reg_result, loaded, effect}
use Rattle.mx_model.specs.Run.{ByQuantum}
use Rattle.mx_model.proofs.Boots.{one_module}
use Rattle.mx_packets.specs.declared.request.Request.TheVariants as R
use Rattle.mx_packets.specs.Streams.{sent}
use Rattle.mx_debug.specs.declared.stop.Step.{Step}
use Rattle.mx_debug.specs.declared.stop.Stop.TheVariants as S
use Rattle.mx_debug.specs.Back.{Sought, backward}
use Rattle.mx_debug.specs.Session.{Asked, Looked, first_session, forward, stopped}
use Rattle.mx_debug.specs.Replies.{noted_said, reply}
use Rattle.mx_debug.proofs.KnownExample.{known}

-- `addi x5, x5, 1` and a jump back to it; at most 20 turns
abbrev looping : Looked
looping = record { start = one_module (0x00128293 ∷ 0xFFDFF06F ∷ []); schedule = ByQuantum 1; most = 20; known = known }

-- a store into the code, which traps: the second turn
abbrev trapping : Looked
trapping = record { start = one_module (0x00000097 ∷ 0x0000A023 ∷ []); schedule = ByQuantum 1; most = 20; known = known }

-- what it notes
abbrev noted : Option Note
noted = Some (N.Fault 2 0 1 0x80000004 (record { cause = 7; value = 0x80000000 }))

abbrev asked : List ℕ → Bool → Option Step → Asked
asked breaks faults step = record { breaks = breaks; faults = faults; step = step }

abbrev sought : List ℕ → Option ℕ → Sought
sought breaks hart = record { breaks = breaks; hart = hart }

abbrev step : ℕ → ℕ → Option Step
step first end = Some (record { hart = 0; first = first; end = end })

abbrev second : List ℕ
second = 0x80000004 ∷ []

-- before the turn at a breakpoint; one that was told isn't told again, and the next time it is
at-a-breakpoint : forward looping (asked second true None) 9 0 false false ≡ (1, S.Breaks 0)
unfolding decoded effect holds imm_result reg_result loaded number_at put_at cleared_at imm_i imm_s imm_b imm_u imm_j extended
at-a-breakpoint = refl

not-again : forward looping (asked second true None) 9 1 true false ≡ (3, S.Breaks 0)
unfolding decoded effect holds imm_result reg_result loaded number_at put_at cleared_at imm_i imm_s imm_b imm_u imm_j extended
not-again = refl

not-told : forward looping (asked second true None) 9 1 false false ≡ (1, S.Breaks 0)
unfolding decoded effect holds imm_result reg_result loaded number_at put_at cleared_at imm_i imm_s imm_b imm_u imm_j extended
not-told = refl

-- after a step's turn, or when the hart leaves its range
a-step : forward looping (asked [] true (step 0 0)) 9 3 false false ≡ (4, S.Steps 0)
unfolding decoded effect holds imm_result reg_result loaded number_at put_at cleared_at imm_i imm_s imm_b imm_u imm_j extended
a-step = refl

a-range : forward looping (asked [] true (step 0x80000004 0x80000008)) 9 0 false false ≡ (2, S.Steps 0)
unfolding decoded effect holds imm_result reg_result loaded number_at put_at cleared_at imm_i imm_s imm_b imm_u imm_j extended
a-range = refl

-- after so many turns, or where the run ends
a-pause : forward looping (asked [] true None) 5 2 false false ≡ (7, S.Pauses)
unfolding decoded effect holds imm_result reg_result loaded number_at put_at cleared_at imm_i imm_s imm_b imm_u imm_j extended
a-pause = refl

an-end : forward (record looping { most = 4 }) (asked [] true None) 9 2 false false ≡ (4, S.Ends)
unfolding decoded effect holds imm_result reg_result loaded number_at put_at cleared_at imm_i imm_s imm_b imm_u imm_j extended
an-end = refl

-- before the turn that traps; one that was told is made, and halts the only hart
a-fault : forward trapping (asked [] true None) 9 0 false false ≡ (1, S.Faults 0 noted)
unfolding decoded effect holds imm_result reg_result loaded number_at put_at cleared_at imm_i imm_s imm_b imm_u imm_j extended
a-fault = refl

over-a-fault : forward trapping (asked [] true None) 9 1 true true ≡ (2, S.Ends)
unfolding decoded effect holds imm_result reg_result loaded number_at put_at cleared_at imm_i imm_s imm_b imm_u imm_j extended
over-a-fault = refl

no-fault-asked : forward trapping (asked [] false None) 9 0 false false ≡ (2, S.Ends)
unfolding decoded effect holds imm_result reg_result loaded number_at put_at cleared_at imm_i imm_s imm_b imm_u imm_j extended
no-fault-asked = refl

-- both at one place: the breakpoint first, and then the fault
both : forward trapping (asked second true None) 9 0 false false ≡ (1, S.Breaks 0)
unfolding decoded effect holds imm_result reg_result loaded number_at put_at cleared_at imm_i imm_s imm_b imm_u imm_j extended
both = refl

then-the-fault : forward trapping (asked second true None) 9 1 true false ≡ (1, S.Faults 0 noted)
unfolding decoded effect holds imm_result reg_result loaded number_at put_at cleared_at imm_i imm_s imm_b imm_u imm_j extended
then-the-fault = refl

-- what is known of a place after a stop there: a fault is told after a breakpoint; what was told of the console stays told
known-after-a-fault : stopped (record first_session { told = 9 }) (4, S.Faults 2 noted)
    ≡ record first_session { made = 4; broke = true; faulted = true; told = 9; stop = S.Faults 2 noted; shown = 2; followed = 2 }
known-after-a-fault = refl

known-after-a-breakpoint : stopped (record first_session { told = 3 }) (4, S.Breaks 2)
    ≡ record first_session { made = 4; broke = true; faulted = false; told = 4; stop = S.Breaks 2; shown = 2; followed = 2 }
known-after-a-breakpoint = refl

-- backward: the turn before, the breakpoint before, and the one before that; the place itself isn't looked at
a-turn-back : backward looping (sought [] (Some 0)) 100 7 ≡ (6, S.Steps 0)
unfolding decoded effect holds imm_result reg_result loaded number_at put_at cleared_at imm_i imm_s imm_b imm_u imm_j extended
a-turn-back = refl

back-to-a-breakpoint : backward looping (sought second None) 100 7 ≡ (5, S.Breaks 0)
unfolding decoded effect holds imm_result reg_result loaded number_at put_at cleared_at imm_i imm_s imm_b imm_u imm_j extended
back-to-a-breakpoint = refl

back-from-a-breakpoint : backward looping (sought second None) 100 5 ≡ (3, S.Breaks 0)
unfolding decoded effect holds imm_result reg_result loaded number_at put_at cleared_at imm_i imm_s imm_b imm_u imm_j extended
back-from-a-breakpoint = refl

-- none of hart 1, which isn't there: to the begin, or a pause after so many turns
back-to-the-begin : backward looping (sought [] (Some 1)) 100 7 ≡ (0, S.Begins)
unfolding decoded effect holds imm_result reg_result loaded number_at put_at cleared_at imm_i imm_s imm_b imm_u imm_j extended
back-to-the-begin = refl

back-to-a-pause : backward looping (sought [] (Some 1)) 3 7 ≡ (4, S.Pauses)
unfolding decoded effect holds imm_result reg_result loaded number_at put_at cleared_at imm_i imm_s imm_b imm_u imm_j extended
back-to-a-pause = refl

-- a fault, also from behind the run's end, and a breakpoint at the same place before it
back-to-a-fault : backward trapping (sought [] None) 100 6 ≡ (1, S.Faults 0 noted)
unfolding decoded effect holds imm_result reg_result loaded number_at put_at cleared_at imm_i imm_s imm_b imm_u imm_j extended
back-to-a-fault = refl

back-to-both : backward trapping (sought second (Some 0)) 100 2 ≡ (1, S.Breaks 0)
unfolding decoded effect holds imm_result reg_result loaded number_at put_at cleared_at imm_i imm_s imm_b imm_u imm_j extended
back-to-both = refl

-- on to the fault: its text and its signal; for want of memory it stands behind the turn, and has told the fault
goes-to-the-fault : reply trapping false first_session R.Go ≡ record {
  said = noted_said trapping (1, S.Faults 0 noted) ++ sent (codes "T0bthread:p1.1;");
  session = record first_session { made = 1; broke = true; faulted = true; told = 1; stop = S.Faults 0 noted };
  leaves = false;
}
unfolding decoded effect holds imm_result reg_result loaded number_at put_at cleared_at imm_i imm_s imm_b imm_u imm_j extended
goes-to-the-fault = refl

wanting-at-the-fault : reply trapping true first_session R.Go
    ≡ record { said = sent (codes "E0c"); session = record first_session { made = 2; told = 2; stop = S.Faults 0 noted }; leaves = false }
unfolding decoded effect holds imm_result reg_result loaded number_at put_at cleared_at imm_i imm_s imm_b imm_u imm_j extended
wanting-at-the-fault = refl

-- to the state after so many turns, past the fault, and back by booting again
after-two : (reply trapping false first_session (R.After 2)).session ≡ record first_session { made = 2; told = 2; stop = S.Pauses }
unfolding decoded effect holds imm_result reg_result loaded number_at put_at cleared_at imm_i imm_s imm_b imm_u imm_j extended
after-two = refl

back-to-one : (reply trapping false (record first_session { made = 2; told = 2 }) (R.After 1)).session
    ≡ record first_session { made = 1; told = 2; stop = S.Pauses }
unfolding decoded effect holds imm_result reg_result loaded number_at put_at cleared_at imm_i imm_s imm_b imm_u imm_j extended
back-to-one = refl

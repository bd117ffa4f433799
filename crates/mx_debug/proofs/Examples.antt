-- Worked examples of where a run stops, of texts, and of replies, computed.
use Rattle.std.specs.Prelude.{◌≡◌, ℕ, true, false, List, [], ◌∷◌, ◌++◌, codes, replicate, refl, Option, Some, None}
use Rattle.std.specs.Prelude.{map as list_map}
use Rattle.std.specs.Fmt.{digits}
use Rattle.mx_words.specs.declared.perm.Perm.TheVariants as P
use Rattle.mx_words.specs.Bytes.{number_at, put_at, cleared_at}
use Rattle.mx_isa.specs.Fields.{imm_i, imm_s, imm_b, imm_u, imm_j, extended}
use Rattle.mx_isa.specs.Table.{decoded}
use Rattle.mx_model.specs.Effect.{holds, imm_result, reg_result, loaded, effect}
use Rattle.mx_model.specs.Run.{ByQuantum}
use Rattle.mx_model.specs.State.{Core, State, Status, Running, Halted, no_module}
use Rattle.mx_model.proofs.Boots.{regs_with}
use Rattle.mx_model.proofs.Smalls.{grant, hart_of, small}
use Rattle.mx_packets.specs.declared.request.Object.TheVariants as O
use Rattle.mx_packets.specs.declared.request.Request.{Request}
use Rattle.mx_packets.specs.declared.request.Request.TheVariants as R
use Rattle.mx_packets.specs.declared.request.Thread.TheVariants as T
use Rattle.mx_packets.specs.Streams.{sent}
use Rattle.mx_debug.specs.declared.stop.Step.{Step}
use Rattle.mx_debug.specs.declared.stop.Stop.TheVariants as S
use Rattle.mx_debug_texts.specs.Pieces.{short_digits}
use Rattle.mx_debug.specs.Replies.{reply, told}
use Rattle.mx_debug.specs.Session.{Asked, Looked, Session, first_session, forward, stopped}
use Rattle.mx_debug.specs.Talks.{first_talk, said_to}
use Rattle.mx_debug.specs.Texts.{document_said, memory_text, pairs, place_text, register_of, registers_of, shown_said, stop_text}
use Rattle.mx_debug.specs.Texts.{threads_text, type_of, window_text, word_text}
use Rattle.mx_debug.proofs.KnownExample.{known}

-- two harts that count in a loop of two instructions, each hart a turn in order
abbrev looping : Status → State
looping second = small ((0, 0x00128293) ∷ (1, 0xFFDFF06F) ∷ []) (no_module ∷ []) ((grant 0 2 P.ExecuteRead ∷ []) ∷ []) [] []
    (hart_of 1 0x80000000 (regs_with []) [] Running ∷ hart_of 1 0x80000000 (regs_with []) [] second ∷ []) 8

abbrev run_of : Status → ℕ → Looked
run_of second most = record { start = looping second; schedule = ByQuantum 1; most = most; known = known }

abbrev both : Looked
both = run_of Running 100

abbrev a_step : ℕ → ℕ → ℕ → Option Step
a_step h first end = Some (record { hart = h; first = first; end = end })

abbrev asked : List ℕ → Option Step → Asked
asked breaks step = record { breaks = breaks; faults = true; step = step }

-- so many turns are made at a time, and no more than the run has
pauses : forward both (asked [] None) 3 0 false false ≡ (3, S.Pauses)
unfolding decoded effect holds imm_result reg_result loaded number_at put_at cleared_at imm_i imm_s imm_b imm_u imm_j extended
pauses = refl

ends : forward (run_of Running 2) (asked (0x80000004 ∷ []) None) 9 0 false false ≡ (2, S.Ends)
unfolding decoded effect holds imm_result reg_result loaded number_at put_at cleared_at imm_i imm_s imm_b imm_u imm_j extended
ends = refl

-- a breakpoint stops the run before the turn of a hart that stands there, and each hart's once: one that was told isn't told again
breaks_first : forward both (asked (0x80000008 ∷ 0x80000004 ∷ []) None) 9 0 false false ≡ (2, S.Breaks 0)
unfolding decoded effect holds imm_result reg_result loaded number_at put_at cleared_at imm_i imm_s imm_b imm_u imm_j extended
breaks_first = refl

breaks_next : forward both (asked (0x80000004 ∷ []) None) 9 2 true false ≡ (3, S.Breaks 1)
unfolding decoded effect holds imm_result reg_result loaded number_at put_at cleared_at imm_i imm_s imm_b imm_u imm_j extended
breaks_next = refl

-- a halted hart stands at no breakpoint, and makes no step
halted_passes : forward (run_of (Halted None) 100) (asked (0x80000000 ∷ []) None) 9 1 false false ≡ (4, S.Breaks 0)
unfolding decoded effect holds imm_result reg_result loaded number_at put_at cleared_at imm_i imm_s imm_b imm_u imm_j extended
halted_passes = refl

halted_steps : forward (run_of (Halted None) 100) (asked [] (a_step 1 0 0)) 9 0 false false ≡ (9, S.Pauses)
unfolding decoded effect holds imm_result reg_result loaded number_at put_at cleared_at imm_i imm_s imm_b imm_u imm_j extended
halted_steps = refl

-- a step is over after a turn of its hart, and in a range only once the hart has left that
steps : forward both (asked [] (a_step 1 0 0)) 9 0 false false ≡ (2, S.Steps 1)
unfolding decoded effect holds imm_result reg_result loaded number_at put_at cleared_at imm_i imm_s imm_b imm_u imm_j extended
steps = refl

steps_out : forward both (asked [] (a_step 0 0x80000000 0x80000004)) 9 0 false false ≡ (1, S.Steps 0)
unfolding decoded effect holds imm_result reg_result loaded number_at put_at cleared_at imm_i imm_s imm_b imm_u imm_j extended
steps_out = refl

steps_within : forward both (asked [] (a_step 0 0x80000000 0x80000008)) 9 0 false false ≡ (9, S.Pauses)
unfolding decoded effect holds imm_result reg_result loaded number_at put_at cleared_at imm_i imm_s imm_b imm_u imm_j extended
steps_within = refl

-- where a session stands after a stop: the hart of a stop is the one that is shown, and makes steps, from then on
stands_after : stopped (record first_session { shown = 1 }) (7, S.Breaks 0)
    ≡ record first_session { made = 7; broke = true; told = 7; stop = S.Breaks 0 }
stands_after = refl

keeps_hart : stopped (record first_session { shown = 1; followed = 1; broke = true }) (7, S.Pauses)
    ≡ record first_session { made = 7; told = 7; stop = S.Pauses; shown = 1; followed = 1 }
keeps_hart = refl

-- texts: a word from its lowest byte on, registers, memory, stops, threads, parts, and the console's bytes
words : list_map word_text (0x12345678 ∷ 0x800000ab ∷ []) ≡ codes "78563412" ∷ codes "ab000080" ∷ []
words = refl

abbrev core : Core
core = (looping Running).core

registers : registers_of core 1 0x100000002 ≡ replicate 256 48 ++ codes "0000008001000000000000000200000001000000"
registers = refl

register_names : list_map (register_of core 0 7) (32 ∷ 33 ∷ 35 ∷ 36 ∷ []) ≡ codes "00000080" ∷ codes "01000000" ∷ codes "0700000000000000"
    ∷ codes "E01" ∷ []
register_names = refl

no_hart : registers_of core 2 0 ∷ register_of core 2 0 0 ∷ [] ≡ codes "E01" ∷ codes "E01" ∷ []
no_hart = refl

memory : list_map (memory_text core 0x80000002) (0 ∷ 1 ∷ 4 ∷ []) ≡ [] ∷ codes "12" ∷ codes "12006ff0" ∷ []
memory = refl

outside : memory_text core 0x7fffffff 1 ∷ memory_text core 0x80000100 1 ∷ memory_text core 0x800000fe 9 ∷ [] ≡ codes "E01" ∷ codes "E01"
    ∷ codes "0000" ∷ []
outside = refl

stops : list_map (stop_text 2) (S.Breaks 0 ∷ S.Steps 1 ∷ S.Ends ∷ S.Begins ∷ S.Pauses ∷ S.Breaks 9 ∷ [])
    ≡ codes "T05thread:p1.1;" ∷ codes "T05thread:p1.2;" ∷ codes "T05replaylog:end;thread:p1.3;" ∷ codes "T05replaylog:begin;thread:p1.3;"
    ∷ codes "T02thread:p1.3;" ∷ codes "T05thread:p1.?;" ∷ []
stops = refl

threads : list_map threads_text (1 ∷ 3 ∷ []) ≡ codes "mp1.1" ∷ codes "mp1.1,p1.2,p1.3" ∷ []
threads = refl

parts : window_text (codes "abcdef") 0 4 ∷ window_text (codes "abcdef") 4 2 ∷ window_text (codes "abcdef") 4 9
    ∷ window_text (codes "abcdef") 9 1 ∷ []
    ≡ codes "mabcd" ∷ codes "lef" ∷ codes "lef" ∷ codes "l" ∷ []
parts = refl

shown : shown_said (codes "Hi") ∷ shown_said [] ∷ [] ≡ sent (codes "O4869") ∷ [] ∷ []
shown = refl

shown_twice : shown_said (replicate 2041 0) ≡ sent (codes "O" ++ replicate 4080 48) ++ sent (codes "O00")
shown_twice = refl

register_types : list_map type_of (0 ∷ 1 ∷ 2 ∷ 4 ∷ 5 ∷ 8 ∷ 9 ∷ []) ≡ codes "int" ∷ codes "code_ptr" ∷ codes "data_ptr" ∷ codes "data_ptr"
    ∷ codes "int" ∷ codes "data_ptr" ∷ codes "int" ∷ []
register_types = refl

places : list_map place_text (0 ∷ 9 ∷ 10 ∷ 31 ∷ []) ≡ codes "0" ∷ codes "9" ∷ codes "10" ∷ codes "31" ∷ []
places = refl

-- replies: the session after each, and what is said
abbrev sessions : Session → List Request → List Session
sessions s requests = list_map (λ request. (reply both false s request).session) requests

abbrev texts : Session → List Request → List (List ℕ)
texts s requests = list_map (λ request. (reply both false s request).said) requests

abbrev one_break : Session
one_break = record first_session { breaks = 16 ∷ 32 ∷ [] }

breakpoints : sessions one_break (R.Set 16 ∷ R.Set 48 ∷ R.Clear 16 ∷ R.Clear 48 ∷ [])
    ≡ one_break ∷ record first_session { breaks = 16 ∷ 32 ∷ 48 ∷ [] } ∷ record first_session { breaks = 32 ∷ [] } ∷ one_break ∷ []
breakpoints = refl

chosen : sessions first_session (R.Show (T.Hart 1) ∷ R.Show (T.Hart 2) ∷ R.Show T.Any ∷ R.Follow (T.Hart 1) ∷ R.IsThere (T.Hart 1)
    ∷ R.NoAcks ∷ [])
    ≡ record first_session { shown = 1 } ∷ first_session ∷ first_session ∷ record first_session { followed = 1 } ∷ first_session
    ∷ record first_session { acknowledges = false } ∷ []
chosen = refl

answers : texts first_session (R.Set 16 ∷ R.Show (T.Hart 2) ∷ R.IsThere (T.Hart 1) ∷ R.Change ∷ R.Why ∷ R.Attached ∷ R.MoreThreads
    ∷ R.Current ∷ R.Leave ∷ R.Kill ∷ R.End ∷ R.Unknown ∷ [])
    ≡ sent (codes "OK") ∷ sent (codes "E01") ∷ sent (codes "OK") ∷ sent (codes "E01") ∷ sent (codes "T05thread:p1.1;") ∷ sent (codes "1")
    ∷ sent (codes "l") ∷ sent (codes "QCp1.1") ∷ sent (codes "OK") ∷ []
    ∷ sent (codes "OK") ∷ sent [] ∷ []
answers = refl

-- of harts and objects: a hart that isn't there, and parts of which more follows or not
abouts : texts first_session (R.About (T.Hart 0) ∷ R.About (T.Hart 1) ∷ R.About (T.Hart 2) ∷ R.About T.Any ∷ R.Part O.File 0 9
    ∷ R.Part O.Threads 0 9 ∷ R.Part O.Libraries 1 4000 ∷ [])
    ≡ sent (pairs (codes "m, running, next")) ∷ sent (pairs (codes "m, running")) ∷ sent (codes "E01") ∷ sent (codes "E01")
    ∷ sent (codes "lm.elf") ∷ sent (codes "m<threads>")
    ∷ sent (codes "llibrary-list></library-list>") ∷ []
unfolding digits short_digits
abouts = refl

-- back, for want of memory and at the begin; and past the last turn of the run
wanting : list_map (reply both true one_break) (R.StepBack ∷ R.GoBack ∷ []) ≡ told one_break (codes "E0c") ∷ told one_break (codes "E0c")
    ∷ []
wanting = refl

begins : reply both false first_session R.StepBack
    ≡ record {
      said = document_said (codes "before the first turn\n") ++ sent (codes "T05replaylog:begin;thread:p1.1;");
      session =
          record first_session { stop = S.Begins };
      leaves = false;
    }
begins = refl

too_many : reply both false first_session (R.After 101) ≡ told first_session (codes "E01")
too_many = refl

-- the run goes on to a stop, and the next goes on from there
went_on : (reply both false one_break (R.Step T.Any)).session ≡ record one_break { made = 1; told = 1; stop = S.Steps 0 }
unfolding decoded effect holds imm_result reg_result loaded number_at put_at cleared_at imm_i imm_s imm_b imm_u imm_j extended
went_on = refl

-- a talk: acknowledgements until they are asked no longer, a wrong sum, and nothing after the session was left
talked : said_to both first_talk (list_map (λ b. (b, false)) (codes "+$qC#b4$qC#b5$QStartNoAckMode#b0$qC#b4$qC#b5$D#44$qC#b4"))
    ≡ codes "+$QCp1.1#94-+$OK#9a$QCp1.1#94$OK#9a"
talked = refl

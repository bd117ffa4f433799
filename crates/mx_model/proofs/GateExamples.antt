-- Worked examples of gates, returns and faults inside a call, computed.
use Rattle.std.specs.Prelude.{◌≡◌, ℕ, true, List, [], ◌∷◌, refl}
use Rattle.mx_words.specs.declared.perm.Perm.TheVariants as P
use Rattle.mx_words.specs.Bytes.{number_at, put_at, cleared_at}
use Rattle.mx_isa.specs.Fields.{imm_i, imm_s, imm_b, imm_u, imm_j, extended}
use Rattle.mx_isa.specs.Table.{decoded}
use Rattle.mx_model.specs.declared.values.Gate.{Gate}
use Rattle.mx_model.specs.Effect.{holds, imm_result, reg_result, loaded, effect}
use Rattle.mx_model.specs.Run.{ByQuantum, run}
use Rattle.mx_model.specs.State.{State, module_at}
use Rattle.mx_model.proofs.Boots.{end, fault, inline, boot, regs_with}

-- two modules, execute-read at words 0 and 1024, with gates
abbrev two : List ℕ → List ℕ → List Gate → ℕ → ℕ → State
two a b gates d pc = boot (inline 0 P.ExecuteRead a ∷ inline 1024 P.ExecuteRead b ∷ []) gates ((d, pc) ∷ [])

abbrev gate : ℕ → ℕ → ℕ → Gate
gate domain word target = record { domain = domain; word = word; target = target }

-- gates in a circle: 64 crossings, then a fault by a full cross stack, which gives up a frame
abbrev circle : State
circle = two (0x800012B7 ∷ 0x000280E7 ∷ 0x00100073 ∷ []) (0x800002B7 ∷ 0x000280E7 ∷ 0x00100073 ∷ []) (gate 2 0 1 ∷ gate 1 1024 2 ∷ []) 1
    0x80000000

gates-in-a-circle : end (run (ByQuantum 1) 195 circle)
    ≡ record {
      notes = fault 195 0 1 0x80001000 16 0x80001000 ∷ [];
      turns = 195;
      harts =
          record { pc = 0x80001008; domain = 2; frames = 63; regs = regs_with ((1, 0x80000008) ∷ (5, 0x80001000) ∷ (10, 0xffffff10) ∷ []) }
          ∷ [];
    }
unfolding decoded effect holds imm_result reg_result loaded number_at put_at cleared_at imm_i imm_s imm_b imm_u imm_j extended
gates-in-a-circle = refl

-- return to another address: the return gate lets the hart go to the saved address alone
abbrev returning : ℕ → State
returning last =
    two (0x800012B7 ∷ 0x000280E7 ∷ 0x00100073 ∷ 0x00100073 ∷ []) (0x00700113 ∷ 0x00900413 ∷ last ∷ []) (gate 1 1024 2 ∷ gate 2 1026 2 ∷ [])
    1 0x80000000

return-to-another-address : end (run (ByQuantum 1) 10 (returning 0x00408067))
    ≡ record {
      notes = fault 6 0 2 0x80001008 17 0x8000000c ∷ fault 7 0 1 0x80000008 3 0x80000008 ∷ [];
      turns = 7;
      harts =
          record { pc = 0x80000008; domain = 1; frames = 0; regs = regs_with ((1, 0x80000008) ∷ (5, 0x80001000) ∷ (10, 0xffffff11) ∷ []) }
          ∷ [];
    }
unfolding decoded effect holds imm_result reg_result loaded number_at put_at cleared_at imm_i imm_s imm_b imm_u imm_j extended
return-to-another-address = refl

return-to-the-saved-address : end (run (ByQuantum 1) 10 (returning 0x00008067))
    ≡ record {
      notes = fault 7 0 1 0x80000008 3 0x80000008 ∷ [];
      turns = 7;
      harts =
          record { pc = 0x80000008; domain = 1; frames = 0; regs = regs_with ((1, 0x80000008) ∷ (5, 0x80001000) ∷ []) } ∷ [];
    }
unfolding decoded effect holds imm_result reg_result loaded number_at put_at cleared_at imm_i imm_s imm_b imm_u imm_j extended
return-to-the-saved-address = refl

-- exit inside a call: the exit is refused by -10, and the hart goes on
abbrev exiting : State
exiting =
    two (0x80000537 ∷ 0x00400593 ∷ 0x00200613 ∷ 0x00100893 ∷ 0x00000073 ∷ 0x00100073 ∷ []) (0x800002B7 ∷ 0x000280E7 ∷ 0x00100073 ∷ [])
    (gate 2 0 1 ∷ []) 2 0x80001000

exit-inside-a-call : end (run (ByQuantum 1) 9 exiting)
    ≡ record {
      notes = fault 9 0 1 0x80000014 3 0x80000014 ∷ [];
      turns = 9;
      harts =
          record {
            pc = 0x80001008;
            domain = 2;
            frames = 0;
            regs =
                regs_with ((1, 0x80001008) ∷ (5, 0x80000000) ∷ (10, 0xffffff03) ∷ (11, 0x00000004) ∷ (12, 0x00000002)
                ∷ (17, 0x00000001) ∷ []);
          }
          ∷ [];
    }
unfolding decoded effect holds imm_result reg_result loaded number_at put_at cleared_at imm_i imm_s imm_b imm_u imm_j extended
exit-inside-a-call = refl

-- a return gate used with no frame, and a gate crossed with x1 no multiple of 4
abbrev frameless : State
frameless = two (0x00008067 ∷ []) (0x00100073 ∷ []) (gate 1 0 1 ∷ []) 1 0x80000000

return-with-no-frame : end (run (ByQuantum 1) 5 frameless)
    ≡ record {
      notes = fault 1 0 1 0x80000000 18 0 ∷ [];
      turns = 1;
      harts =
          record { pc = 0x80000000; domain = 1; frames = 0; regs = regs_with [] } ∷ [];
    }
unfolding decoded effect holds imm_result reg_result loaded number_at put_at cleared_at imm_i imm_s imm_b imm_u imm_j extended
return-with-no-frame = refl

-- x1 = 2, then a jump to the gate that writes x0
abbrev crooked : State
crooked = two (0x00200093 ∷ 0x800012B7 ∷ 0x00028067 ∷ []) (0x00100073 ∷ []) (gate 1 1024 2 ∷ []) 1 0x80000000

crossing-with-a-crooked-return : end (run (ByQuantum 1) 5 crooked)
    ≡ record {
      notes = fault 4 0 1 0x80001000 19 2 ∷ [];
      turns = 4;
      harts =
          record { pc = 0x80001000; domain = 1; frames = 0; regs = regs_with ((1, 0x2) ∷ (5, 0x80001000) ∷ []) } ∷ [];
    }
unfolding decoded effect holds imm_result reg_result loaded number_at put_at cleared_at imm_i imm_s imm_b imm_u imm_j extended
crossing-with-a-crooked-return = refl

-- call into a dead module: the second call finds it dead and is sent back at once
abbrev dying : State
dying =
    boot (inline 0 P.ExecuteRead (0x800012B7 ∷ 0x000280E7 ∷ 0x000280E7 ∷ 0x00100073 ∷ [])
    ∷ record (inline 1024 P.ExecuteRead (0x00100073 ∷ [])) { kills = true } ∷ [])
    (gate 1 1024 2 ∷ []) ((1, 0x80000000) ∷ [])

call-into-a-dead-module : end (run (ByQuantum 1) 20 dying)
    ≡ record {
      notes = fault 4 0 2 0x80001000 3 0x80001000 ∷ fault 7 0 1 0x8000000c 3 0x8000000c ∷ [];
      turns = 7;
      harts =
          record { pc = 0x8000000c; domain = 1; frames = 0; regs = regs_with ((1, 0x8000000c) ∷ (5, 0x80001000) ∷ (10, 0xffffff14) ∷ []) }
          ∷ [];
    }
unfolding decoded effect holds imm_result reg_result loaded number_at put_at cleared_at imm_i imm_s imm_b imm_u imm_j extended
call-into-a-dead-module = refl

dead-module-is-dead : (module_at (run (ByQuantum 1) 20 dying).core 2).dead
    ≡ true
unfolding decoded effect holds imm_result reg_result loaded number_at put_at cleared_at imm_i imm_s imm_b imm_u imm_j extended
dead-module-is-dead = refl

-- dead domain, two harts: the first kills it, and the second faults by that
abbrev dead_domain : State
dead_domain = boot (record (inline 0 P.ExecuteRead (0x00100073 ∷ [])) { kills = true } ∷ []) [] ((1, 0x80000000) ∷ (1, 0x80000000) ∷ [])

dead-domain-two-harts : end (run (ByQuantum 1) 10 dead_domain)
    ≡ record {
      notes = fault 1 0 1 0x80000000 3 0x80000000 ∷ fault 2 1 1 0x80000000 20 0x80000000 ∷ [];
      turns = 2;
      harts =
          record { pc = 0x80000000; domain = 1; frames = 0; regs = regs_with [] }
          ∷ record { pc = 0x80000000; domain = 1; frames = 0; regs = regs_with [] } ∷ [];
    }
unfolding decoded effect holds imm_result reg_result loaded number_at put_at cleared_at imm_i imm_s imm_b imm_u imm_j extended
dead-domain-two-harts = refl

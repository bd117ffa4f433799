-- Worked examples of what a snapshot stores, of its bytes and of reading it, computed. The bytes are those that a writer in another
-- language makes from the rule.
use Rattle.std.proofs.Common.{◌≡◌, [], ◌∷◌, ◌++◌, length, take, replicate, refl}
use Rattle.std.specs.Prelude.{slice_set}
use Rattle.mx_words.specs.declared.perm.Perm.TheVariants as P
use Rattle.mx_words.specs.declared.tables.Kind.TheVariants as K
use Rattle.mx_words.specs.Bytes.{number_at, put_at, cleared_at}
use Rattle.mx_isa.specs.Fields.{imm_i, imm_s, imm_b, imm_u, imm_j, extended}
use Rattle.mx_isa.specs.Table.{decoded}
use Rattle.mx_model.specs.Effect.{holds, imm_result, reg_result, loaded, effect}
use Rattle.mx_model.specs.Run.{ByQuantum, run}
use Rattle.mx_model.specs.State.{State, flat, no_module}
use Rattle.mx_model.proofs.Boots.{one_module}
use Rattle.mx_machine.specs.declared.views.HartStatus.TheVariants as V
use Rattle.mx_snapshot.specs.Kept.{KeptPlan}
use Rattle.mx_snapshot.specs.Stored.{Stored, stored_of}
use Rattle.mx_snapshot.specs.Spelling.{area_bytes, block_bytes, counted, flag_bytes, name_bytes, state_bytes, frame_bytes, gate_bytes}
use Rattle.mx_snapshot.specs.Spelling.{hart_bytes, head_bytes, map_run_bytes, module_bytes, owner_run_bytes, front_bytes, spelling}
use Rattle.mx_snapshot.specs.Reader.{Took, Fails}
use Rattle.mx_snapshot.specs.Fields.{block_in, fields_in, frame_in, gate_in, hart_in, head_in, map_run_in, module_in, owner_run_in}
use Rattle.mx_snapshot.specs.Fields.{stored_in}

-- three words, of which one was carried out: a7 = 1, a0 = 5, exit
abbrev three : State
three = run (ByQuantum 1) 1 (one_module (0x00100893 ∷ 0x00500513 ∷ 0x00000073 ∷ []))

abbrev kept : KeptPlan
kept = record {
  kind = K.Packed;
  limit = record { upper = 128; leaf = 4096; spill = 4096 };
  lookaside = 32;
  quantum = 1;
  names = (109 ∷ []) ∷ [];
}

abbrev first : Stored
first = record {
  head = record {
    words = 16384;
    kind = K.Packed;
    limit = record { upper = 128; leaf = 4096; spill = 4096 };
    lookaside = 32;
    quantum = 1;
    modules = 1;
    harts = 1;
    turns = 1;
  };
  modules = record {
    name = 109 ∷ [];
    home = no_module;
    map = record { count = 3; value = P.ExecuteRead } ∷ record { count = 16381; value = P.None } ∷ [];
  } ∷ [];
  owners = record { count = 3; value = 1 } ∷ record { count = 16381; value = 0 } ∷ [];
  gates = [];
  harts = record {
    status = V.Running;
    domain = 1;
    pc = 0x80000004;
    regs = slice_set (replicate 32 0) 17 1;
    frames = [];
    heard = 0;
  } ∷ [];
  ram = 0x93 ∷ 0x08 ∷ 0x10 ∷ 0x00 ∷ 0x13 ∷ 0x05 ∷ 0x50 ∷ 0x00 ∷ 0x73 ∷ replicate 65527 0;
}

first-stored : stored_of kept (flat three) ≡ first
unfolding decoded effect holds imm_result reg_result loaded number_at put_at cleared_at imm_i imm_s imm_b imm_u imm_j extended
first-stored = refl

-- its bytes before RAM's
first-bytes : take 269 (spelling first) ≡
    77 ∷ 88 ∷ 83 ∷ 78 ∷ 1 ∷ 0 ∷ 0 ∷ 0 ∷ 0 ∷ 64 ∷ 0 ∷ 0 ∷ 2 ∷ 0 ∷ 0 ∷ 0 ∷ 128 ∷ 0 ∷ 0 ∷ 0 ∷ 0 ∷ 16 ∷ 0 ∷ 0 ∷ 0 ∷ 16 ∷ 0 ∷ 0 ∷ 32 ∷ 0 ∷ 0
    ∷ 0 ∷
    1 ∷ 0 ∷ 0 ∷ 0 ∷ 1 ∷ 0 ∷ 0 ∷ 0 ∷ 1 ∷ 0 ∷ 0 ∷ 0 ∷ 1 ∷ 0 ∷ 0 ∷ 0 ∷ 0 ∷ 0 ∷ 0 ∷ 0 ∷ 1 ∷ 0 ∷ 0 ∷ 0 ∷ 109 ∷ 0 ∷ 0 ∷ 0 ∷ 0 ∷ 0 ∷ 0 ∷ 0 ∷
    0 ∷ 0 ∷ 0 ∷ 0 ∷ 0 ∷ 0 ∷ 0 ∷ 0 ∷ 0 ∷ 0 ∷ 0 ∷ 0 ∷ 0 ∷ 0 ∷ 0 ∷ 0 ∷ 0 ∷ 0 ∷ 0 ∷ 0 ∷ 0 ∷ 2 ∷ 0 ∷ 0 ∷ 0 ∷ 15 ∷ 0 ∷ 0 ∷ 0 ∷ 244 ∷ 255 ∷ 0 ∷
    0 ∷ 2 ∷ 0 ∷ 0 ∷ 0 ∷ 3 ∷ 0 ∷ 0 ∷ 0 ∷ 1 ∷ 0 ∷ 0 ∷ 0 ∷ 253 ∷ 63 ∷ 0 ∷ 0 ∷ 0 ∷ 0 ∷ 0 ∷ 0 ∷ 0 ∷ 0 ∷ 0 ∷ 0 ∷ 0 ∷ 0 ∷ 0 ∷ 0 ∷ 1 ∷ 0 ∷ 0 ∷
    0 ∷ 4 ∷ 0 ∷ 0 ∷ 128 ∷ 0 ∷ 0 ∷ 0 ∷ 0 ∷ 0 ∷ 0 ∷ 0 ∷ 0 ∷ 0 ∷ 0 ∷ 0 ∷ 0 ∷ 0 ∷ 0 ∷ 0 ∷ 0 ∷ 0 ∷ 0 ∷ 0 ∷ 0 ∷ 0 ∷ 0 ∷ 0 ∷ 0 ∷ 0 ∷ 0 ∷ 0 ∷
    0 ∷ 0 ∷ 0 ∷ 0 ∷ 0 ∷ 0 ∷ 0 ∷ 0 ∷ 0 ∷ 0 ∷ 0 ∷ 0 ∷ 0 ∷ 0 ∷ 0 ∷ 0 ∷ 0 ∷ 0 ∷ 0 ∷ 0 ∷ 0 ∷ 0 ∷ 0 ∷ 0 ∷ 0 ∷ 0 ∷ 0 ∷ 0 ∷ 0 ∷ 0 ∷ 0 ∷ 0 ∷
    0 ∷ 0 ∷ 0 ∷ 0 ∷ 0 ∷ 0 ∷ 0 ∷ 0 ∷ 0 ∷ 1 ∷ 0 ∷ 0 ∷ 0 ∷ 0 ∷ 0 ∷ 0 ∷ 0 ∷ 0 ∷ 0 ∷ 0 ∷ 0 ∷ 0 ∷ 0 ∷ 0 ∷ 0 ∷ 0 ∷ 0 ∷ 0 ∷ 0 ∷ 0 ∷ 0 ∷ 0 ∷
    0 ∷ 0 ∷ 0 ∷ 0 ∷ 0 ∷ 0 ∷ 0 ∷ 0 ∷ 0 ∷ 0 ∷ 0 ∷ 0 ∷ 0 ∷ 0 ∷ 0 ∷ 0 ∷ 0 ∷ 0 ∷ 0 ∷ 0 ∷ 0 ∷ 0 ∷ 0 ∷ 0 ∷ 0 ∷ 0 ∷ 0 ∷ 0 ∷ 0 ∷ 0 ∷ 0 ∷ 0 ∷
    0 ∷ 0 ∷ 0 ∷ 0 ∷ 0 ∷ 0 ∷ 0 ∷ 0 ∷ 0 ∷ 0 ∷ 0 ∷ 0 ∷ 0 ∷ []
unfolding spelling front_bytes head_bytes counted name_bytes area_bytes flag_bytes state_bytes module_bytes map_run_bytes owner_run_bytes
    gate_bytes hart_bytes block_bytes frame_bytes
first-bytes = refl

first-length : length (spelling first) ≡ 65805
unfolding spelling front_bytes head_bytes counted name_bytes area_bytes flag_bytes state_bytes module_bytes map_run_bytes owner_run_bytes
    gate_bytes hart_bytes block_bytes frame_bytes
first-length = refl

-- it is read back whole
first-read : stored_in (spelling first) ≡ Took first 65805
unfolding spelling front_bytes head_bytes counted name_bytes area_bytes flag_bytes state_bytes module_bytes map_run_bytes owner_run_bytes
    gate_bytes hart_bytes block_bytes frame_bytes stored_in fields_in head_in module_in block_in map_run_in owner_run_in gate_in frame_in
    hart_in number_at
first-read = refl

-- its first eight bytes alone; another first byte; a byte behind it; all before RAM alone
cut-at-8 : stored_in (take 8 (spelling first)) ≡ Fails 8 2
unfolding spelling front_bytes head_bytes counted name_bytes area_bytes flag_bytes state_bytes module_bytes map_run_bytes owner_run_bytes
    gate_bytes hart_bytes block_bytes frame_bytes stored_in fields_in head_in module_in block_in map_run_in owner_run_in gate_in frame_in
    hart_in number_at
cut-at-8 = refl

other-sign : stored_in (slice_set (spelling first) 0 0) ≡ Fails 0 3
unfolding spelling front_bytes head_bytes counted name_bytes area_bytes flag_bytes state_bytes module_bytes map_run_bytes owner_run_bytes
    gate_bytes hart_bytes block_bytes frame_bytes stored_in fields_in head_in module_in block_in map_run_in owner_run_in gate_in frame_in
    hart_in number_at
other-sign = refl

one-byte-more : stored_in (spelling first ++ 0 ∷ []) ≡ Fails 65805 5
unfolding spelling front_bytes head_bytes counted name_bytes area_bytes flag_bytes state_bytes module_bytes map_run_bytes owner_run_bytes
    gate_bytes hart_bytes block_bytes frame_bytes stored_in fields_in head_in module_in block_in map_run_in owner_run_in gate_in frame_in
    hart_in number_at
one-byte-more = refl

no-ram : stored_in (take 269 (spelling first)) ≡ Fails 269 2
unfolding spelling front_bytes head_bytes counted name_bytes area_bytes flag_bytes state_bytes module_bytes map_run_bytes owner_run_bytes
    gate_bytes hart_bytes block_bytes frame_bytes stored_in fields_in head_in module_in block_in map_run_in owner_run_in gate_in frame_in
    hart_in number_at
no-ram = refl

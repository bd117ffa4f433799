-- Writes to bytes in memory and to the system meet the trait of the sinks.
use Rattle.std.proofs.Common.{◌≡◌, ℕ, zero, suc, ◌+◌, ◌-◌, ◌^◌, ◌<◌, ◌≤◌, Bool, true, false, ◌&&◌, ◌||◌, cond, min, List, length, refl, sym}
use Rattle.std.proofs.Common.{◌∙◌, ap, arith, Ok, Err, nat_eq, nat_lt}
use Rattle.std.proofs.lemmas.Bool.{lt-ltb, eqb-true, and_parts, or_parts, both_ways}
use Rattle.mx_io.specs.Calls.{fails_next, after_call, is_quiet}
use Rattle.mx_io.specs.Sink.{Writes}
use Rattle.mx_io.specs.Bytes.{BytesState, refuses, takes, after_refusal, after_taking, bytes_sink}
use Rattle.mx_io.proofs.Text.{appends_nothing}
use Rattle.mx_io.proofs.CallLaws.{Rose-raised, fails_next-quiet, is_quiet-after_call}

-- a write that is refused is not one that the sink was sure of
not_sure : (fails quiet : Bool) (room n : ℕ) → (quiet ≡ true → fails ≡ false) → (fails || (nat_eq room 0 && nat_lt 0 n)) ≡ true → 0 < n
    → n ≤ cond quiet room 0 → ⊥
not_sure fails true room n safe refused more fits =
    let p : (nat_eq room 0 && nat_lt 0 n) ≡ true = ap (λ b. b || (nat_eq room 0 && nat_lt 0 n)) (sym (safe refl)) ∙ refused in
    omega (arith, eqb-true room 0 (and_parts (nat_eq room 0) (nat_lt 0 n) p).0)
not_sure fails false room n safe refused more fits = omega arith

-- a write with bytes that is not refused has room
has_room : (fails : Bool) (room n : ℕ) → (fails || (nat_eq room 0 && nat_lt 0 n)) ≡ false → 0 < n → 0 < room
has_room fails zero n taken more = absurd (both_ways (nat_lt 0 n) (or_parts fails (nat_lt 0 n) taken).1 (lt-ltb 0 n more))
has_room fails (suc room) n taken more = omega arith

-- what is left of the room that the sink was sure of
room_left : (quiet later : Bool) (room n : ℕ) → (quiet ≡ true → later ≡ true) → 0 < n → n ≤ cond quiet room 0
    → cond quiet room 0 ≤ cond later (room - min n room) 0 + min n room
room_left true later room n stays more fits = rw (stays refl) (omega arith)
room_left false later room n stays more fits = omega arith

module _ {E : Type 0} (s : BytesState) (piece : List ℕ) (fits : s.faults < 2 ^ 64) where
  pub writes_refused : {e : E} → refuses s piece ≡ true → Writes (bytes_sink s) (bytes_sink (after_refusal s)) piece (Err e)
  writes_refused {e} refused =
      record {
        later = omega arith;
        counted = omega arith;
        kept = tt;
        bound = tt;
        moves = tt;
        taken = tt;
        nothing = appends_nothing _;
        failed = Rose-raised s.faults;
        sure = λ more room. absurd (not_sure (fails_next s.calls) (is_quiet s.calls) s.room (length piece) (fails_next-quiet s.calls)
            refused more room);
      }

  pub writes_taken : s.calls.made < 2 ^ 64 → refuses s piece ≡ false
      → Writes {E = E} (bytes_sink s) (bytes_sink (after_taking s piece)) piece (Ok (takes s piece))
  writes_taken made taken =
      record {
        later = omega arith;
        counted = fits;
        kept = refl;
        bound = omega arith;
        moves = λ more. let r = has_room (fails_next s.calls) s.room (length piece) taken more in omega arith;
        taken = record { grows = refl };
        nothing = tt;
        failed = tt;
        sure = λ more room. (
          refl,
          room_left (is_quiet s.calls) (is_quiet (after_call s.calls)) s.room (length piece)
              (is_quiet-after_call s.calls made) more room,
        );
      }

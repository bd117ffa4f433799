-- Bytes in memory that are written to, as values.
use Rattle.std.specs.Prelude.{ℕ, ◌-◌, Bool, ◌&&◌, ◌||◌, List, [], ◌++◌, length, take, min, Some, nat_eq, nat_lt, if◌then◌else◌}
use Rattle.mx_io.specs.Count.{raised}
use Rattle.mx_io.specs.Calls.{CallLog, fresh_log, fails_next, after_call, with_listed, is_quiet}
use Rattle.mx_io.specs.Sink.{SinkState}

-- the bytes written, how many more there is room for, the count of faults, and the calls made and listed
pub record BytesState : Type 0 where
  pub written : List ℕ
  pub room : ℕ
  pub faults : ℕ
  pub calls : CallLog

-- nothing written, and no calls yet
abbrev pub no_bytes : ℕ → BytesState
no_bytes room = record { written = []; room = room; faults = 0; calls = fresh_log }

-- with one more call listed
abbrev pub with_refusing : BytesState → ℕ → BytesState
with_refusing s call =
    record {
      written = s.written;
      room = s.room;
      faults = s.faults;
      calls = with_listed s.calls call;
    }

-- a write fails where its call is listed, and where it has bytes and no room is left
abbrev pub refuses : BytesState → List ℕ → Bool
refuses s piece = fails_next s.calls || (nat_eq s.room 0 && nat_lt 0 (length piece))

-- how many bytes of a piece a write takes that does not fail
abbrev pub takes : BytesState → List ℕ → ℕ
takes s piece = min (length piece) s.room

-- after a write that failed: its fault is counted
abbrev pub after_refusal : BytesState → BytesState
after_refusal s =
    record {
      written = s.written;
      room = s.room;
      faults = raised s.faults;
      calls = after_call s.calls;
    }

-- after another write: the bytes that it takes are appended
abbrev pub after_taking : BytesState → List ℕ → BytesState
after_taking s piece =
    record {
      written = s.written ++ take (takes s piece) piece;
      room = s.room - takes s piece;
      faults = s.faults;
      calls = after_call s.calls;
    }

-- after a write
abbrev pub after_write : BytesState → List ℕ → BytesState
after_write s piece = if refuses s piece then after_refusal s else after_taking s piece

-- as a sink: it tells its bytes, and is sure of its room where no call that is to come is listed
abbrev pub bytes_sink : BytesState → SinkState
bytes_sink s =
    record {
      written = Some s.written;
      faults = s.faults;
      room = if is_quiet s.calls then s.room else 0;
    }

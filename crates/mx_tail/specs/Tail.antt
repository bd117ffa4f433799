-- A buffer of 4096 bytes before a sink: what has left for the sink, and what is held.
-- The rules: docs/COMMANDS.md, "How texts leave".
use Rattle.std.specs.Prelude.{◌≡◌, ℕ, ◌*◌, ◌/◌, List, ◌++◌, length, take, drop, Result, OnOk, OnErr}
use Rattle.mx_io.specs.Sink.{SinkState, Puts}

-- how many bytes leave at once
abbrev pub piece_bytes : ℕ
piece_bytes = 4096

-- of bytes that were added one after another: those of the whole pieces, which have left, and those after them, which are held
unfoldable pub sent : List ℕ → List ℕ
sent all = take (length all / piece_bytes * piece_bytes) all

unfoldable pub held : List ℕ → List ℕ
held all = drop (length all / piece_bytes * piece_bytes) all

-- bytes were added to those held: the whole pieces of all of them were put on the sink, and the rest is held
pub record Adds {A E : Type 0} (before : List ℕ) (old new : SinkState) (after bytes : List ℕ)
    (result : Result A E) : Type 0 where
  pub left : Puts old new (sent (before ++ bytes)) result
  pub kept : OnOk result (after ≡ held (before ++ bytes))

-- whole pieces
abbrev pub IsPieces : List ℕ → Type 0
IsPieces bytes = (pieces : ℕ) × (length bytes ≡ pieces * piece_bytes)

-- a text was put on a sink through a buffer: what was held and then the text are what was put on the sink, which is whole pieces,
-- and then what is held; where it failed, the whole pieces of what was held and then the text couldn't all be put
pub record Passes {A E : Type 0} (before : List ℕ) (old new : SinkState) (after text : List ℕ)
    (result : Result A E) : Type 0 where
  pub whole : OnOk result ((gone : List ℕ) × (before ++ text ≡ gone ++ after) × IsPieces gone ×
      Puts old new gone result)
  pub stopped : OnErr result (Puts old new (sent (before ++ text)) result)

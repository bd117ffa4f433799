-- Steps of a talk.
use Rattle.std.specs.Prelude.{◌≡◌, ℕ, Bool, ◌++◌, List, length, Result, Ok, Err}
use Rattle.mx_model.specs.State.{Flat}
use Rattle.mx_packets.specs.Lines.{Fails, Speaks}
use Rattle.mx_debug.specs.declared.reply.Next.{Next}
use Rattle.mx_debug.specs.declared.talking.Talking.{Talking}
use Rattle.mx_debug.specs.Ended.{Replies}
use Rattle.mx_debug.specs.Looks.{IsAt}
use Rattle.mx_debug.specs.Replies.{Reply}
use Rattle.mx_debug.specs.Session.{Looked, Session}
use Rattle.mx_debug.specs.Talks.{Byte, Dialogue, Talk, bytes_of, first_talk, reply_byte, said_to, talk_after, talk_byte, talk_pieces}

-- where the code's talk stands
abbrev pub talk_of : Talking → Talk
talk_of t = record { session = t.session; gathered = t.receiver; left = t.left }

-- a reply that goes by whether memory is wanting was said, for one of the two
abbrev pub RepliesBy : {L E : Type 0} → (L → List ℕ → L → Type 0) → (L → ℕ) → Looked → (Bool → Reply) → Session → Flat → L → L →
    Result Next E → Type 0
RepliesBy says room q reply s machine l m result = (wanting : Bool) × Replies says room q (reply wanting) s machine l m result

-- a byte was heard, and what is said to it was said; or the line failed on that
pub record IsSaidByte {L : Type 0} (says : L → List ℕ → L → Type 0) (room : L → ℕ) (q : Looked) (t : Talk) (byte : Byte)
    (now : Talk) (machine : Flat) (l m : L) : Type 0 where
  pub talk : now ≡ talk_byte q t byte
  pub place : IsAt q now.session.made machine
  pub said : Speaks says room l (reply_byte q t byte).said m

abbrev pub SaysByte : {L A E : Type 0} → (L → List ℕ → L → Type 0) → (L → ℕ) → Looked → Talk → ℕ → Talk → Flat → L → L →
    Result A E → Type 0
SaysByte says room q t byte now machine l m (Ok a) = (wanting : Bool) × IsSaidByte says room q t (byte, wanting) now machine l m
SaysByte says room q t byte now machine l m (Err e) =
    (wanting : Bool) × Fails says room l (reply_byte q t (byte, wanting)).said m

-- the same of several bytes
pub record IsTalkedTo {L : Type 0} (says : L → List ℕ → L → Type 0) (room : L → ℕ) (q : Looked) (t : Talk)
    (piece : List ℕ) (now : Talk) (machine : Flat) (l m : L) : Type 0 where
  pub bytes : List Byte
  pub heard : bytes_of bytes ≡ piece
  pub talk : now ≡ talk_after q t bytes
  pub place : IsAt q now.session.made machine
  pub said : Speaks says room l (said_to q t bytes) m

pub record IsTalkLost {L : Type 0} (says : L → List ℕ → L → Type 0) (room : L → ℕ) (q : Looked) (t : Talk)
    (piece : List ℕ) (l m : L) : Type 0 where
  pub bytes : List Byte
  pub heard : bytes_of bytes ≡ piece
  pub fails : Fails says room l (said_to q t bytes) m

abbrev pub TalksTo : {L A E : Type 0} → (L → List ℕ → L → Type 0) → (L → ℕ) → Looked → Talk → List ℕ → Talk → Flat →
    L → L → Result A E → Type 0
TalksTo says room q t piece now machine l m (Ok a) = IsTalkedTo says room q t piece now machine l m
TalksTo says room q t piece now machine l m (Err e) = IsTalkLost says room q t piece l m

-- the bytes so far were answered, and whatever comes is still to be
pub record HasTalked {L : Type 0} (says : L → List ℕ → L → Type 0) (room : L → ℕ) (q : Looked) (t : Talk)
    (begun : List ℕ) (now : Talk) (machine : Flat) (l m : L) : Type 0 where
  pub bytes : List Byte
  pub heard : bytes_of bytes ≡ begun
  pub front : List ℕ
  pub place : IsAt q now.session.made machine
  pub said : Speaks says room l front m
  pub all : (rest : List Byte) → said_to q t (bytes ++ rest) ≡ front ++ said_to q now rest
  pub talk : (rest : List Byte) → talk_after q t (bytes ++ rest) ≡ talk_after q now rest

-- pieces were heard and answered
pub record HasAnswered {L : Type 0} (hears says : L → List ℕ → L → Type 0) (room : L → ℕ) (q : Looked) (count : ℕ) (now : Talk)
    (machine : Flat) (l m : L) : Type 0 where
  pub pieces : List (List Byte)
  pub dialogue : Dialogue hears says room q first_talk l pieces m
  pub talk : now ≡ talk_pieces q first_talk pieces
  pub place : IsAt q now.session.made machine
  pub many : length pieces ≡ count

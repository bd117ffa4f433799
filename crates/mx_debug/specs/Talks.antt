-- A talk: what is said to the bytes that are heard.
use Rattle.std.specs.Prelude.{◌≡◌, ◌⊎◌, ℕ, ◌-◌, ◌^◌, ◌<◌, ◌≤◌, Bool, true, false, List, [], ◌∷◌, ◌++◌, length, map, Result, Ok, Err, IsOk}
use Rattle.std.specs.Prelude.{if◌then◌else◌}
use Rattle.mx_packets.specs.declared.receiver.Heard.{Heard}
use Rattle.mx_packets.specs.declared.receiver.Heard.TheVariants as H
use Rattle.mx_packets.specs.Packets.{Gathered, after, heard, none_gathered}
use Rattle.mx_packets.specs.Requests.{request_of}
use Rattle.mx_packets.specs.Streams.{sent}
use Rattle.mx_packets.specs.Lines.{Fails, Speaks}
use Rattle.mx_debug.specs.Replies.{Reply, reply}
use Rattle.mx_debug.specs.Session.{Looked, Session, first_session}

-- a byte that tells that a packet came, whole or not, while bytes are acknowledged
abbrev pub mark : Session → ℕ → List ℕ
mark s byte = if s.acknowledges then byte ∷ [] else []

-- the reply to what a byte completed
abbrev pub reply_to : Looked → Bool → Session → List ℕ → Heard → Reply
reply_to q wanting s body H.Nothing = record { said = []; session = s; leaves = false }
reply_to q wanting s body H.Wrong = record { said = mark s 45; session = s; leaves = false }
reply_to q wanting s body H.Long = record { said = mark s 43 ++ sent []; session = s; leaves = false }
reply_to q wanting s body H.Packet =
    let r = reply q wanting s (request_of body) in
    record { said = mark s 43 ++ r.said; session = r.session; leaves = r.leaves }

-- where a talk stands: the session, the packet as far as it was heard, and whether the session was left
pub record Talk : Type 0 where
  pub session : Session
  pub gathered : Gathered
  pub left : Bool

abbrev pub first_talk : Talk
first_talk = record { session = first_session; gathered = none_gathered; left = false }

-- a byte that is heard, and whether memory is wanting while what it completes is answered
abbrev pub Byte : Type 0
Byte = ℕ × Bool

abbrev pub bytes_of : List Byte → List ℕ
bytes_of bytes = map (λ (b : Byte). b.0) bytes

-- the reply to a byte, and where the talk stands after it
abbrev pub reply_byte : Looked → Talk → Byte → Reply
reply_byte q t b = reply_to q b.1 t.session (after t.gathered b.0).body (heard t.gathered b.0)

abbrev pub talk_byte : Looked → Talk → Byte → Talk
talk_byte q t b = record {
  session = (reply_byte q t b).session;
  gathered = after t.gathered b.0;
  left = (reply_byte q t b).leaves;
}

-- what is said to bytes, and where the talk stands after them: nothing more is heard once the session was left
abbrev pub said_to : Looked → Talk → List Byte → List ℕ
said_to q t [] = []
said_to q t (b ∷ more) = if t.left then [] else (reply_byte q t b).said ++ said_to q (talk_byte q t b) more

abbrev pub talk_after : Looked → Talk → List Byte → Talk
talk_after q t [] = t
talk_after q t (b ∷ more) = if t.left then t else talk_after q (talk_byte q t b) more

-- the bytes of pieces
abbrev pub all_of : List (List Byte) → List Byte
all_of [] = []
all_of (piece ∷ more) = piece ++ all_of more

-- a dialogue: to each piece that was heard just its answer was said, before anything else was heard
abbrev pub Dialogue : {L : Type 0} → (L → List ℕ → L → Type 0) → (L → List ℕ → L → Type 0) → (L → ℕ) → Looked → Talk → L →
    List (List Byte) → L → Type 0
Dialogue hears says room q t l [] m = m ≡ l
Dialogue {L} hears says room q t l (piece ∷ more) m =
    (heard said : L) × hears l (bytes_of piece) heard × (room heard ≡ room l)
    × Speaks says room heard (said_to q t piece) said
    × Dialogue hears says room q (talk_after q t piece) said more m

-- the talk after pieces
abbrev pub talk_pieces : Looked → Talk → List (List Byte) → Talk
talk_pieces q t [] = t
talk_pieces q t (piece ∷ more) = talk_pieces q (talk_after q t piece) more

-- the last piece had no byte, the session was left, or as many pieces were heard as can be counted
abbrev pub IsOver : Looked → Talk → List (List Byte) → Type 0
IsOver q t pieces =
    ((front : List (List Byte)) × (pieces ≡ front ++ [] ∷ []))
    ⊎ ((talk_pieces q t pieces).left ≡ true)
    ⊎ (2 ^ 64 - 1 ≤ length pieces)

-- a dialogue that came to its end
pub record IsWhole {L : Type 0} (hears says : L → List ℕ → L → Type 0) (room : L → ℕ) (q : Looked) (t : Talk) (l m : L)
    : Type 0 where
  pub pieces : List (List Byte)
  pub dialogue : Dialogue hears says room q t l pieces m
  pub over : IsOver q t pieces

-- a dialogue in which the line failed: to the piece that was heard last a part of its answer was said that lacks some, and the line wasn't
-- sure to say the answers to all that was heard
pub record IsBroken {L : Type 0} (hears says : L → List ℕ → L → Type 0) (room : L → ℕ) (q : Looked) (t : Talk) (l m : L)
    : Type 0 where
  pub pieces : List (List Byte)
  pub before : L
  pub dialogue : Dialogue hears says room q t l pieces before
  pub piece : List Byte
  pub heard : L
  pub came : hears before (bytes_of piece) heard
  pub same : room heard ≡ room before
  pub fails : Fails says room heard (said_to q (talk_pieces q t pieces) piece) m
  pub short : room l < length (said_to q t (all_of pieces ++ piece))

abbrev pub Answered : {L A E : Type 0} → (L → List ℕ → L → Type 0) → (L → List ℕ → L → Type 0) → (L → ℕ) → Looked →
    L → L → Result A E → Type 0
Answered hears says room q l m (Ok a) = IsWhole hears says room q first_talk l m
Answered hears says room q l m (Err e) = IsBroken hears says room q first_talk l m

-- over a line that tells: some bytes were heard, and what was said is what is said to these
abbrev pub Headline : {L A E : Type 0} → (L → List ℕ → L → Type 0) → (L → List ℕ → L → Type 0) → Looked → L → L →
    Result A E → Type 0
Headline {L} hears says q l m result =
    (told : L → List ℕ) → (log : L → List ℕ)
    → ((a : L) (piece : List ℕ) (b : L) → hears a piece b → (told b ≡ told a ++ piece) × (log b ≡ log a))
    → ((a : L) (text : List ℕ) (b : L) → says a text b → (told b ≡ told a) × (log b ≡ log a ++ text))
    → IsOk result → (bytes : List Byte) × (told m ≡ told l ++ bytes_of bytes) × (log m ≡ log l ++ said_to q first_talk bytes)

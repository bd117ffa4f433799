-- What is told of the console, and where the run is looked at.
use Rattle.std.specs.Prelude.{◌≡◌, ◌⊎◌, ℕ, ◌≤◌, ◌==◌, Bool, true, false, ⊤, List, [], ◌∷◌, ◌++◌, length, flat_map}
use Rattle.std.specs.List.{AllByRecursion}
use Rattle.mx_packets.specs.declared.request.Request.{Request}
use Rattle.mx_packets.specs.declared.request.Request.TheVariants as R
use Rattle.mx_packets.specs.Frames.{cut}
use Rattle.mx_packets.specs.Streams.{sent}
use Rattle.mx_debug.specs.Replies.{reply}
use Rattle.mx_debug.specs.Session.{Looked, Session, state_at}
use Rattle.mx_debug.specs.Talks.{Byte, first_talk, said_to, talk_after}
use Rattle.mx_debug.specs.Texts.{memory_text, most_shown, registers_of, shown_text}

-- what is said: bytes of the console as a packet, what is told of a stop as one, another answer, or a byte that tells whether a packet
-- came whole
pub data Item : Type 0 where
  Shows : (bytes : List ℕ) → Item
  Notes : (bytes : List ℕ) → Item
  Answers : (text : List ℕ) → Item
  Marks : (byte : ℕ) → Item

abbrev pub item_said : Item → List ℕ
item_said (Shows bytes) = sent (cut (shown_text bytes))
item_said (Notes bytes) = sent (cut (shown_text bytes))
item_said (Answers text) = sent text
item_said (Marks byte) = byte ∷ []

-- what an item tells of the console
abbrev pub item_shown : Item → List ℕ
item_shown (Shows bytes) = bytes
item_shown (Notes bytes) = []
item_shown (Answers text) = []
item_shown (Marks byte) = []

-- whether gdb takes an answer for bytes of the console: `O` and two digits at least
abbrev pub is_shown : List ℕ → Bool
is_shown [] = false
is_shown (a ∷ []) = false
is_shown (a ∷ b ∷ []) = false
is_shown (a ∷ b ∷ c ∷ more) = a == 79

-- the bytes of one packet are told whole, no other answer is taken for such, and `+` and `-` are marks
abbrev pub IsItem : Item → Type 0
IsItem (Shows bytes) = length bytes ≤ most_shown
IsItem (Notes bytes) = ⊤
IsItem (Answers text) = is_shown text ≡ false
IsItem (Marks byte) = (byte ≡ 43) ⊎ (byte ≡ 45)

-- what was said, while the console was told from so many turns on to so many, tells just what it got in these
pub record Tells (q : Looked) (from to : ℕ) (said : List ℕ) : Type 0 where
  pub items : List Item
  pub each : AllByRecursion IsItem items
  pub whole : said ≡ flat_map item_said items
  pub told : (state_at q from).console ++ flat_map item_shown items ≡ (state_at q to).console

-- all that was told of the console together is the console of the run after the turns that were told, which are no fewer than those
-- after which the run is looked at: nothing is told twice, however one goes back and forth
pub record AllIsTold (q : Looked) (bytes : List Byte) : Type 0 where
  pub tells : Tells q 0 (talk_after q first_talk bytes).session.told (said_to q first_talk bytes)
  pub made : (talk_after q first_talk bytes).session.made ≤ (talk_after q first_talk bytes).session.told

abbrev pub ConsoleIsTold : Type 0
ConsoleIsTold = (q : Looked) (bytes : List Byte) → AllIsTold q bytes

-- whatever is heard, a state of the one run is looked at: registers and memory are told of the state after so many turns of it
pub record LooksAt (q : Looked) (s : Session) : Type 0 where
  pub within : s.made ≤ q.most
  pub registers : (wanting : Bool) →
      (reply q wanting s R.Registers).said ≡ sent (cut (registers_of (state_at q s.made).core s.shown s.made))
  pub memory : (wanting : Bool) (address count : ℕ) →
      (reply q wanting s (R.Memory address count)).said ≡ sent (cut (memory_text (state_at q s.made).core address count))

abbrev pub NoPacketChangesTheRun : Type 0
NoPacketChangesTheRun = (q : Looked) (bytes : List Byte) → LooksAt q (talk_after q first_talk bytes).session

-- but for those that go on or back, whether memory is wanting changes no reply
abbrev pub wants : Request → Bool
wants R.Go = true
wants (R.Step thread) = true
wants (R.Range thread first end) = true
wants R.StepBack = true
wants R.GoBack = true
wants (R.After n) = true
wants request = false

abbrev pub WantChangesNoOther : Type 0
WantChangesNoOther = (q : Looked) (s : Session) (request : Request) → wants request ≡ false →
    reply q true s request ≡ reply q false s request

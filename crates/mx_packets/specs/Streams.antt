-- What is heard of bytes that come one after another, however they are cut.
use Rattle.std.specs.Prelude.{◌≡◌, ℕ, ◌%◌, ◌==◌, ◌||◌, ◌≤◌, Bool, List, [], ◌∷◌, ◌++◌, length, sum, flat_map, if◌then◌else◌}
use Rattle.mx_packets.specs.declared.receiver.Heard.{Heard}
use Rattle.mx_packets.specs.declared.receiver.Heard.TheVariants as H
use Rattle.mx_packets.specs.Packets.{Gathered, after, flipped, heard, most_packet, none_gathered}
use Rattle.mx_packets.specs.Frames.{pair}

-- what is heard on a line: a packet's bytes, one that is too long, or one whose sum is wrong
pub data Told : Type 0 where
  Packet : (body : List ℕ) → Told
  Long : Told
  Wrong : Told

abbrev pub told : Gathered → Heard → List Told
told g H.Nothing = []
told g H.Packet = Packet g.body ∷ []
told g H.Long = Long ∷ []
told g H.Wrong = Wrong ∷ []

-- after bytes, and what they tell
abbrev pub after_all : Gathered → List ℕ → Gathered
after_all g [] = g
after_all g (b ∷ more) = after_all (after g b) more

abbrev pub told_all : Gathered → List ℕ → List Told
told_all g [] = []
told_all g (b ∷ more) = told (after g b) (heard g b) ++ told_all (after g b) more

-- a text as it is sent, by gdb and as an answer: `#`, `$`, `}` and `*` are `}` and the same byte with bit 5 changed
abbrev pub is_special : ℕ → Bool
is_special b = (b == 35) || ((b == 36) || ((b == 42) || (b == 125)))

abbrev pub escaped : ℕ → List ℕ
escaped b = if is_special b then 125 ∷ flipped b ∷ [] else b ∷ []

abbrev pub sent : List ℕ → List ℕ
sent body = 36 ∷ flat_map escaped body ++ 35 ∷ pair (sum (flat_map escaped body) % 256)

-- reads may be cut anywhere
abbrev pub CutsDontMatter : Type 0
CutsDontMatter = (g : Gathered) (a b : List ℕ) → told_all g (a ++ b) ≡ told_all g a ++ told_all (after_all g a) b

-- each text that fits is heard as it was meant
abbrev pub TextsAreHeard : Type 0
TextsAreHeard = (body : List ℕ) → length body ≤ most_packet →
    told_all none_gathered (sent body) ≡ Packet body ∷ []

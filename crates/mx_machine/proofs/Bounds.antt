-- Bounds of numbers, where a proof holds too many facts to search among.
use Rattle.std.proofs.Common.{◌≡◌, ◌≢◌, ℕ, ◌+◌, ◌-◌, ◌<◌, ◌≤◌, max, min, arith}

pub both-ways : (a b : ℕ) → a ≤ b → b ≤ a → a ≡ b
both-ways a b p q = omega arith

pub less-less : (a b c : ℕ) → a < b → b < c → a < c
less-less a b c p q = omega arith

pub less-le : (a b c : ℕ) → a < b → b ≤ c → a < c
less-le a b c p q = omega arith

pub le-le : (a b c : ℕ) → a ≤ b → b ≤ c → a ≤ c
le-le a b c p q = omega arith

pub least-le : (a b c : ℕ) → c ≡ min a b → c ≤ a
least-le a b c e = omega arith

pub least-other : (a b c : ℕ) → c ≡ min a b → c ≤ b
least-other a b c e = omega arith

pub most-ge : (a b c : ℕ) → c ≡ max a b → a ≤ c
most-ge a b c e = omega arith

pub most-other : (a b c : ℕ) → c ≡ max a b → b ≤ c
most-other a b c e = omega arith

pub few-left : (now before ran first room most most_turns : ℕ) → now ≡ before + ran → ran ≡ first → first ≤ room → room < most
    → before + most < most_turns →
    now + (room - first) < most_turns
few-left now before ran first room most most_turns e all upto below few = omega arith

pub few-last : (now before room most most_turns : ℕ) → now ≡ before + room → room < most → before + most < most_turns → now < most_turns - 1
few-last now before room most most_turns e below few = omega arith

pub few-rest : (now before made ran room most_turns : ℕ) → now + made ≡ before + ran → made ≤ room → ran ≤ room
    → before + (room - made) < most_turns → now + (room - ran) < most_turns
few-rest now before made ran room most_turns e upto within few = omega arith

pub few-next : (now before made ran room most_turns : ℕ) → now + made ≡ before + ran → ran < room → before + (room - made) < most_turns
    → made ≤ room → now < most_turns - 1
few-next now before made ran room most_turns e below few upto = omega arith

pub counted-on : (old now before made ran n : ℕ) → old + made ≡ before + ran → now ≡ old + n → now + made ≡ before + (ran + n)
counted-on old now before made ran n e c = omega arith

pub upto-left : (n ran room : ℕ) → n ≤ room - ran → ran ≤ room → ran + n ≤ room
upto-left n ran room le within = omega arith

pub below-left : (n ran room : ℕ) → n < room - ran → ran + n < room
below-left n ran room lt = omega arith

pub below-but : (a b : ℕ) → a ≤ b → a ≢ b → a < b
below-but a b le ne = omega arith

pub one-more : (a b : ℕ) → a < b → a + 1 ≤ b
one-more a b lt = omega arith

pub few-tally : (now before n turns most most_turns : ℕ) → now + n ≡ before + n → turns ≤ most → before + most < most_turns
    → now + turns < most_turns
few-tally now before n turns most most_turns e upto few = omega arith

pub le-self : (a b : ℕ) → a ≡ b → a ≤ b
le-self a b e = omega arith

pub less-left : (a b : ℕ) → a < b → a ≤ b
less-left a b lt = omega arith

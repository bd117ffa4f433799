-- What a change of the words first to first + count - 1 does to the runs of one map.
use Rattle.std.specs.Prelude.{ℕ, ◌≡◌, ◌+◌, ◌-◌, ◌*◌, ◌/◌, ◌<◌, ◌≤◌, true, not, ◌==◌, ◌&&◌, ◌||◌, nat_lt, List, length, min}
use Rattle.mx_words.specs.declared.perm.Perm.{Perm}
use Rattle.mx_words.specs.Rights.{same, perm_at}
use Rattle.mx_words.specs.Counting.{bit, count_below}
use Rattle.mx_words.specs.Runs.{runs}
use Rattle.mx_words.specs.Starts.{is_start}
use Rattle.mx_segments.specs.declared.plan.Plan.{Plan}
use Rattle.mx_segments.specs.Entries.{entry_word}

-- a plan counts the runs that begin before the range, those that begin before its end or right there, and all; and it tells
-- whether runs begin at the range and right after it afterwards, and the permission of the word after it
pub record IsPlan (m : List Perm) (first count : ℕ) (perm : Perm) (plan : Plan) : Type 0 where
  pub before : plan.before ≡ count_below first (is_start m)
  pub behind : plan.behind ≡ count_below (min (first + count + 1) (length m)) (is_start m)
  pub all : plan.all ≡ runs m
  pub starts : plan.starts ≡ ((first == 0) || not (same (perm_at m (first - 1)) perm))
  pub next : plan.next ≡ perm_at m (first + count)
  pub ends : plan.ends ≡ (nat_lt (first + count) (length m) && not (same perm plan.next))

-- how many runs stand before those that only move
abbrev pub kept : Plan → ℕ
kept plan = plan.before + bit plan.starts + bit plan.ends

-- how many runs there are afterwards
abbrev pub total : Plan → ℕ
total plan = plan.all + kept plan - plan.behind

-- the words after a planned change of the entries, in as many frames as hold them
pub record IsLaid (old : ℕ → ℕ) (frames : ℕ) (new : ℕ → ℕ) (first count : ℕ) (perm : Perm)
    (plan : Plan) : Type 0 where
  pub frames_are : frames ≡ (total plan + 63) / 64
  pub same : (k : ℕ) → k < plan.before → new k ≡ old k
  pub begins : plan.starts ≡ true → new plan.before ≡ entry_word first perm
  pub ends : plan.ends ≡ true →
      new (plan.before + bit plan.starts) ≡ entry_word (first + count) plan.next
  pub moved : (k : ℕ) → plan.behind ≤ k → k < plan.all → new (k + kept plan - plan.behind) ≡ old k
  pub rest : (k : ℕ) → total plan ≤ k → k < 64 * frames → new k ≡ 0

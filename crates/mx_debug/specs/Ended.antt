-- How a reply ended.
use Rattle.std.specs.Prelude.{◌≡◌, ℕ, Bool, true, false, List, Result, Ok, Err}
use Rattle.mx_model.specs.State.{Flat}
use Rattle.mx_packets.specs.Lines.{Fails, Speaks}
use Rattle.mx_debug.specs.declared.reply.Next.{Next}
use Rattle.mx_debug.specs.declared.reply.Next.TheVariants as N
use Rattle.mx_debug.specs.Looks.{IsAt}
use Rattle.mx_debug.specs.Replies.{Reply}
use Rattle.mx_debug.specs.Session.{Looked, Session}

-- what a reply came to: it was said whole, session and machine are as it says; or the line failed on it
abbrev pub leaves_by : Next → Bool
leaves_by N.Goes = false
leaves_by N.Leaves = true

pub record IsReplied {L : Type 0} (says : L → List ℕ → L → Type 0) (room : L → ℕ) (q : Looked) (r : Reply) (s : Session)
    (machine : Flat) (l m : L) (next : Next) : Type 0 where
  pub session : s ≡ r.session
  pub leaves : leaves_by next ≡ r.leaves
  pub place : IsAt q r.session.made machine
  pub said : Speaks says room l r.said m

abbrev pub Replies : {L E : Type 0} → (L → List ℕ → L → Type 0) → (L → ℕ) → Looked → Reply → Session → Flat → L → L →
    Result Next E → Type 0
Replies says room q r s machine l m (Ok next) = IsReplied says room q r s machine l m next
Replies says room q r s machine l m (Err e) = Fails says room l r.said m

-- What stands through a withdrawal of rights that two harts share: hart 0 calls, hart 1 checks addresses in domain 2.
use Rattle.std.specs.Prelude.{◌≡◌, ℕ, false, List, length, IfSome, Option, None}
use Rattle.std.specs.Option.{option_map}
use Rattle.mx_check.specs.declared.flight.Flight.{Flight}
use Rattle.mx_check.specs.Harts.{Kept, kept_at}

-- the first word and the number of words that hart 0's call changes, if it has one in flight
abbrev pub called : List Kept → Option (ℕ × ℕ)
called harts = option_map (λ (f : Flight). (f.first, f.count)) (kept_at harts 0).flight

-- two harts, neither of them halted, of which hart 1 has no call in flight and has named no domain but 2
pub record IsReader (harts : List Kept) : Type 0 where
  pub two : length harts ≡ 2
  pub caller : (kept_at harts 0).halted ≡ false
  pub running : (kept_at harts 1).halted ≡ false
  pub free : (kept_at harts 1).flight ≡ None
  pub same_domain : IfSome (kept_at harts 1).domain (λ d. d ≡ 2)

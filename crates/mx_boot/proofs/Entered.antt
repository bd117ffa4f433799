-- Entries of a plan without a fault: they are aligned and lie in RAM.
use Rattle.std.proofs.Common.{◌≡◌, ℕ, ◌+◌, ◌/◌, ◌%◌, ◌<◌, ◌≤◌, true, not, ◌==◌, List, Option, None, unwrap_or, arith}
use Rattle.std.specs.List.{AllByRecursion, list_any}
use Rattle.std.specs.Option.{is_some}
use Rattle.std.proofs.lemmas.Bool.{and_parts, not-false}
use Rattle.std.proofs.lemmas.Bool.Decides.{nat_tests}
use Rattle.mx_words.specs.FirstRow.{first_row}
use Rattle.mx_words.specs.Ranges.{covers}
use Rattle.mx_manifest.specs.declared.fault.Place.{Place}
use Rattle.mx_boot.specs.declared.area.Area.{Area}
use Rattle.mx_boot.specs.Entries.{word_at}
use Rattle.mx_boot.specs.Faults.{is_in_ram, holds_entry, is_entry, entry_rows}
use Rattle.mx_words.proofs.OptionLaws.{row_none}
use Rattle.mx_boot.proofs.Apart.{in_ram}
use Rattle.mx_model.proofs.EachLaws.{all_at, any_some}

-- an aligned address in RAM
pub record IsInside (words address : ℕ) : Type 0 where
  pub aligned : address % 4 ≡ 0
  pub from : 2147483648 ≤ address
  pub to : word_at address < words

pub entry_inside : (words : ℕ) (all : List Area) (domain address : ℕ) → AllByRecursion (λ a. is_in_ram words a ≡ true) all
    → is_entry all domain address ≡ true → IsInside words address
entry_inside words all domain address inside h =
    let parts = and_parts (address % 4 == 0) (list_any (holds_entry domain address) all) h in
    let found = any_some (holds_entry domain address) all parts.1 in
    let area = found.0 in
    let r = in_ram words area (all_at (λ a. is_in_ram words a ≡ true) all found.1 area inside found.2) in
    let over = (and_parts (area.domain == domain) (covers (area.address / 4) area.count (address / 4)) found.3).1 in
    record {
      aligned = aligned_is address parts.0;
      from = low area.address area.count address words r.from r.to over;
      to = high area.address area.count address words r.from r.to over;
    }
  where
    aligned_is : (x : ℕ) → (x % 4 == 0) ≡ true → x % 4 ≡ 0
    aligned_is x h = grind (arith, nat_tests)

    covered : (first count w : ℕ) → covers first count w ≡ true → (first ≤ w) × (w < first + count)
    covered first count w h = (grind (arith, nat_tests), grind (arith, nat_tests))

    low : (first count x w : ℕ) → 2147483648 ≤ first → first / 4 + count ≤ 536870912 + w → covers (first / 4) count (x / 4) ≡ true
        → 2147483648 ≤ x
    low first count x w a b c = let p = covered (first / 4) count (x / 4) c in let q = p.0 in omega (arith, a, q)

    high : (first count x w : ℕ) → 2147483648 ≤ first → first / 4 + count ≤ 536870912 + w → covers (first / 4) count (x / 4) ≡ true
        → word_at x < w
    high first count x w a b c = let p = covered (first / 4) count (x / 4) c in let q = p.0 in let r = p.1 in omega (arith, a, b, q, r)

-- an entry without a fault
pub record IsEntered (all : List Area) (domain : ℕ) (address : Option ℕ) : Type 0 where
  pub there : is_some address ≡ true
  pub entry : is_entry all domain (unwrap_or address 0) ≡ true

pub entry_clear : (all : List Area) (place : Place) (domain : ℕ) (address : Option ℕ)
    → first_row (entry_rows all place domain address) ≡ None → IsEntered all domain address
entry_clear all place domain address h =
    let first = row_none (not (is_some address)) _ _ h in
    let second = row_none (not (is_entry all domain (unwrap_or address 0))) _ _ first.1 in
    record { there = not-false (is_some address) first.0; entry = not-false (is_entry all domain (unwrap_or address 0)) second.0 }

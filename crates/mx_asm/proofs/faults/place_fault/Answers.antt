use Rattle.std.proofs.Common.{rules}
use Rattle.mx_asm.specs.Faults.{place_fault}
use Rattle.mx_asm.proofs.faults.place_fault.Goals as goal

pub returns-then-not-begins : goal.returns-then-not-begins
unfolding place_fault
returns-then-not-begins c = search rules

pub returns-then-address-ne0 : goal.returns-then-address-ne0
unfolding place_fault
returns-then-address-ne0 c = search rules

pub returns-then-address-place : goal.returns-then-address-place
unfolding place_fault
returns-then-address-place c = search rules

pub returns-then-place-ge-MOST_SEGMENTS : goal.returns-then-place-ge-MOST_SEGMENTS
unfolding place_fault
returns-then-place-ge-MOST_SEGMENTS c = search rules

pub returns-then-is_full : goal.returns-then-is_full
unfolding place_fault
returns-then-is_full c = search rules

pub returns : goal.returns
unfolding place_fault
returns c = search rules

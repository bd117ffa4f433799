-- Worked examples, computed: the draws and words of the first modules, and the four lines.
use Rattle.std.specs.Prelude.{◌≡◌, [], ◌∷◌, codes, drop, refl, take}
use Rattle.std.specs.Fmt.{digits}
use Rattle.mx_isa.specs.Table.{encoded}
use Rattle.mx_report.specs.declared.lines.EndState.TheVariants as E
use Rattle.mx_mill.specs.Draws.{draws, number_after}
use Rattle.mx_mill.specs.Lines.{mill_line, sums_line, tally_line, used_line}
use Rattle.mx_mill.specs.Table.{call_gate, name, return_gate}
use Rattle.mx_mill.specs.Words.{base, mill_words, module_after, module_before}

-- the draws of modules 1, 2 and 15 for k = 1, and of the first module for the greatest k
draws-first : draws 1 1 ≡ record { words = 7; domain = 14; right = 1 }
unfolding draws number_after
draws-first = refl

draws-second : draws 1 2 ≡ record { words = 12; domain = 2; right = 3 }
unfolding draws number_after
draws-second = refl

draws-last : draws 1 15 ≡ record { words = 6; domain = 4; right = 2 }
unfolding draws number_after
draws-last = refl

draws-greatest : draws 2147483647 1 ≡ record { words = 10; domain = 15; right = 2 }
unfolding draws number_after
draws-greatest = refl

-- the words of modules 1 and 2 for k = 1: they differ in words 0, 5, 6, 7 and 10
words-first : mill_words 1 (draws 1 1)
    ≡ 0x00700513 ∷ 0x00600893 ∷ 0x00000073 ∷ 0x00050413 ∷ 0x01142023 ∷ 0x01C00593 ∷ 0x00E00613 ∷ 0x00100693 ∷ 0x00300893 ∷ 0x00000073
    ∷ 0x800082B7 ∷ 0x040280E7 ∷ 0x00040513 ∷ 0x00700893 ∷ 0x00000073 ∷ 0xFC5FF06F ∷ 0x0002A303 ∷ 0x00008067 ∷ []
unfolding draws number_after encoded
words-first = refl

words-second : mill_words 2 (draws 1 2)
    ≡ 0x00C00513 ∷ 0x00600893 ∷ 0x00000073 ∷ 0x00050413 ∷ 0x01142023 ∷ 0x03000593 ∷ 0x00200613 ∷ 0x00300693 ∷ 0x00300893 ∷ 0x00000073
    ∷ 0x800102B7 ∷ 0x040280E7 ∷ 0x00040513 ∷ 0x00700893 ∷ 0x00000073 ∷ 0xFC5FF06F ∷ 0x0002A303 ∷ 0x00008067 ∷ []
unfolding draws number_after encoded
words-second = refl

-- module 15 crosses into module 1
word-last : take 1 (drop 10 (mill_words 15 (draws 1 15))) ≡ 0x800002B7 ∷ []
unfolding encoded
word-last = refl

places : base 1 ∷ base 15 ∷ call_gate 2 ∷ return_gate 2 ∷ module_after 14 ∷ module_after 15 ∷ module_before 1 ∷ module_before 2 ∷ []
    ≡ 0x80000000 ∷ 0x80070000 ∷ 0x80008040 ∷ 0x80008044 ∷ 15 ∷ 1 ∷ 15 ∷ 1 ∷ []
places = refl

names : name 1 ∷ name 15 ∷ [] ≡ codes "m1" ∷ codes "m15" ∷ []
unfolding digits
names = refl

-- the four lines
line-steps : mill_line 1 200000 E.Steps ≡ codes "mill k=1 steps=200000 state=steps\n"
unfolding mill_line digits
line-steps = refl

line-halted : mill_line 2147483647 7 E.Halted ≡ codes "mill k=2147483647 steps=7 state=halted\n"
unfolding mill_line digits
line-halted = refl

line-tally : tally_line (record { bytes = 3; faults = 20; exits = 4 }) ≡ codes "console=3 faults=20 exits=4\n"
unfolding tally_line digits
line-tally = refl

line-sums : sums_line 145452 36893488147419103232 9100 ≡ codes "counts sidecar=145452 lookaside=36893488147419103232 walks=9100\n"
unfolding sums_line digits
line-sums = refl

line-used : used_line (record { upper = 30; leaf = 22; spill = 1 }) ≡ codes "tables kind=packed upper=30 leaf=22 spill=1\n"
unfolding used_line digits
line-used = refl

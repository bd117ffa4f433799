use Rattle.std.proofs.Common.{◌≡◌, ℕ, ◌+◌, ◌-◌, ◌<◌, ◌≤◌, List, [], ◌∷◌, ◌++◌, length, take, drop, slice_index, ap, ◌∙◌, arith, length-take}
use Rattle.std.proofs.Common.{length-drop, get_or-drop}
use Rattle.std.proofs.lemmas.List.{take_more}
use Rattle.mx_supervisor.proofs.supervisor.Supervisor.print.Goals as goal

next : (s : List ℕ) (at i n : ℕ) → i < n → at + n ≤ length s →
    take (i + 1) (drop at s) ≡ take i (drop at s) ++ slice_index s (at + i) ∷ []
next s at i n below ends = take_more (drop at s) i 0 (omega (arith, length-drop at s))
    ∙ ap (λ (b : ℕ). take i (drop at s) ++ b ∷ []) (get_or-drop at s i 0)

few : (i n : ℕ) (s : List ℕ) → i < n → n ≤ 4096 → length (take i s) < 4096
few i n s below most = omega (arith, length-take i s)

pub loop-i-init : goal.loop-i-init
loop-i-init g c = ap (λ (b : List ℕ). record c.args.out.now { bytes = b }) c.requires.empty

pub push-requires : goal.push-requires
push-requires g c = rw c.loop-i.invariant (few _ _ _ c.loop-i-test.true c.requires.few)

pub loop-i-preserved : goal.loop-i-preserved
loop-i-preserved g c =
    let more = next c.args.self.now.ram (c.args.addr - 2147483648) c.loop-i.i c.args.count c.loop-i-test.true
    (omega (arith, c.requires.begins, c.requires.inside)) in
    c.push.ensures ∙ rw (c.loop-i.invariant, c.byte.ensures, more)

use Rattle.std.proofs.Common.{◌≡◌, ℕ, ◌+◌, ◌-◌, ◌<◌, ◌≤◌, List, true, ◌||◌, ◌&&◌, ◌==◌, nat_le, Option, refl, sym, subst, ◌∙◌, arith}
use Rattle.mx_any.specs.Machines.{meaning}
use Rattle.mx_model.specs.Run.{all_halted}
use Rattle.mx_machine.specs.Turning.{turns_of}
use Rattle.mx_packets.specs.Lines.{Fails, Speaks}
use Rattle.mx_packets.proofs.LineLaws.{fails_behind, speaks_more}
use Rattle.mx_turns.specs.Running.{IsNamed, schedule_of}
use Rattle.mx_turns.proofs.RunTexts.{later_all, later_turn}
use Rattle.mx_debug.specs.declared.stop.Stop.TheVariants as S
use Rattle.mx_debug.specs.Looks.{asked_by, news, shows}
use Rattle.mx_debug.specs.Session.{forward as forward_from}
use Rattle.mx_debug.specs.Texts.{shown_said}
use Rattle.mx_debug.proofs.FindLaws.{fails_to, finds, finds_past}
use Rattle.mx_debug.proofs.ForwardLaws.{broken, ended, ends_over_at, is_next, not_over, over_at, past_traps, row_goes, row_past, row_place}
use Rattle.mx_debug.proofs.ForwardLaws.{row_quiet, row_shows, row_stops, row_traps, row_up}
use Rattle.mx_debug.proofs.search.forward.Goals as goal

pub returns-then-is_over-clause-finds : goal.returns-then-is_over-clause-finds
returns-then-is_over-clause-finds g c = λ q is at.
    let m = meaning c.turns.machine in
    let k = c.turns.made in
    let a = asked_by c.args.asking.now in
    let known = c.turns.known in
    let inv = c.turns.invariant in
    let to = forward_from q a c.args.turns c.args.from c.args.known.broke c.args.known.faulted in
    let place = inv.place q is at in
    let over : (nat_le q.most k || all_halted m.core) ≡ true = rw is.most (sym c.if-is_over.ensures) in
    let is_to = ended q a c.args.from c.args.turns k c.args.known.broke c.args.known.faulted known.broke known.faulted (inv.same q is at)
    c.turns-test.true (over_at q k m place over) in
    rw c.at.ensures (finds g.L.Line.says g.L.Line.room q a c.args.asking.now.told c.args.from c.args.line.now c.turns.line to k S.Ends m
    is_to place (inv.said q is at))

pub returns-in_default-clause-finds : goal.returns-in_default-clause-finds
returns-in_default-clause-finds g c = λ q is at.
    let m = meaning c.turns.machine in
    let k = c.turns.made in
    let a = asked_by c.args.asking.now in
    let known = c.turns.known in
    let inv = c.turns.invariant in
    let to = forward_from q a c.args.turns c.args.from c.args.known.broke c.args.known.faulted in
    let place = inv.place q is at in
    let over = subst (λ (o : Option (ℕ × ℕ)). IsNamed q.schedule m.core c.few.result o) c.in_default.is
    (c.next_hart.ensures.named q.schedule m.core (rw is.schedule inv.pace)) in
    let is_to = ended q a c.args.from c.args.turns k c.args.known.broke c.args.known.faulted known.broke known.faulted (inv.same q is at)
    c.turns-test.true (ends_over_at q k m place over) in
    rw c.at-in_default.ensures (finds g.L.Line.says g.L.Line.room q a c.args.asking.now.told c.args.from c.args.line.now c.turns.line to k
    S.Ends m is_to place (inv.said q is at))

pub returns-then-breaks_at-clause-finds : goal.returns-then-breaks_at-clause-finds
returns-then-breaks_at-clause-finds g c = λ q is at.
    let m = meaning c.turns.machine in
    let k = c.turns.made in
    let h = c.in-Some.hart in
    let a = asked_by c.args.asking.now in
    let known = c.turns.known in
    let inv = c.turns.invariant in
    let to = forward_from q a c.args.turns c.args.from c.args.known.broke c.args.known.faulted in
    let place = inv.place q is at in
    let going = (not_over (nat_le c.args.asking.now.most k) (all_halted m.core) (sym c.if-is_over.ensures)).1 in
    let row = c.in-Some.ensures.named q.schedule m.core (rw is.schedule inv.pace) in
    let name = row.each 0 (let some = row.some in omega (arith, some)) m.core (omega arith) refl in
    let few : k < q.most = (let x = c.few.ensures.some in let b = c.few.ensures.most in let all = is.most in omega (arith, x, b, all)) in
    let is_to = broken q a c.args.from c.args.turns k c.args.known.broke c.args.known.faulted known.broke known.faulted (inv.same q is at)
    c.turns-test.true h m place
    (is_next q k h m place few going name) (sym c.if-breaks_at.ensures) in
    rw c.at-then-breaks_at.ensures (finds g.L.Line.says g.L.Line.room q a c.args.asking.now.told c.args.from c.args.line.now c.turns.line to
    k (S.Breaks h) m is_to place (inv.said q is at))

pub returns-in-Some-stop_past-clause-finds : goal.returns-in-Some-stop_past-clause-finds
returns-in-Some-stop_past-clause-finds g c = λ q is at.
    let m = meaning c.turns.machine in
    let k = c.turns.made in
    let h = c.in-Some.hart in
    let a = asked_by c.args.asking.now in
    let known = c.turns.known in
    let inv = c.turns.invariant in
    let to = forward_from q a c.args.turns c.args.from c.args.known.broke c.args.known.faulted in
    let new = meaning c.run_on-stretch.new.machine in
    let place = inv.place q is at in
    let going = (not_over (nat_le c.args.asking.now.most k) (all_halted m.core) (sym c.if-is_over.ensures)).1 in
    let row = c.in-Some.ensures.named q.schedule m.core (rw is.schedule inv.pace) in
    let fits : k + c.in-Some.row ≤ q.most = (let x = row.few in let b = c.few.ensures.most in let all = is.most in omega (arith, x, b, all))
    in
    let upto : k + c.row_of-row.result ≤ c.args.from + c.args.turns =
    (let x = row.few in let b = c.few.ensures.end in let d = c.row_of-row.ensures.few in omega (arith, x, b, d)) in
    let j = k + c.run_on-stretch.result.ran in
    let why = sym c.stop_past.ensures ∙ c.in-Some-stop_past.is in
    let quiet = (row_quiet q a c.args.asking.now.told m k place going h c.few.result c.in-Some.row row fits c.args.from c.args.turns
    c.args.known.broke c.args.known.faulted known.broke known.faulted inv.from (inv.same q is at)
    c.row_of-row.result c.row_of-row.ensures.few upto c.row_of-row.ensures.free new c.run_on-stretch.new.out c.run_on-stretch.result
    c.run_on-stretch.ensures (sym c.if-breaks_at.ensures) j refl) in
    rw c.past.ensures (finds_past g.L.Line.says g.L.Line.room q a c.args.asking.now.told c.args.from c.args.line.now c.turns.line to j
    c.in-Some-stop_past.stop new
    (row_past q a c.args.asking.now.told m k place going h c.few.result c.in-Some.row row fits c.args.from c.args.turns c.args.known.broke
    c.args.known.faulted known.broke known.faulted inv.from (inv.same q is at)
    c.row_of-row.result c.row_of-row.ensures.few upto c.row_of-row.ensures.free new c.run_on-stretch.new.out c.run_on-stretch.result
    c.run_on-stretch.ensures (sym c.if-breaks_at.ensures) j refl c.in-Some-stop_past.stop why)
    (row_place q a c.args.asking.now.told m k place going h c.few.result c.in-Some.row row fits c.args.from c.args.turns c.args.known.broke
    c.args.known.faulted known.broke known.faulted inv.from (inv.same q is at)
    c.row_of-row.result c.row_of-row.ensures.few upto c.row_of-row.ensures.free new c.run_on-stretch.new.out c.run_on-stretch.result
    c.run_on-stretch.ensures (sym c.if-breaks_at.ensures) j refl)
    (row_traps q a c.args.asking.now.told m k place going h c.few.result c.in-Some.row row fits c.args.from c.args.turns c.args.known.broke
    c.args.known.faulted known.broke known.faulted inv.from (inv.same q is at)
    c.row_of-row.result c.row_of-row.ensures.few upto c.row_of-row.ensures.free new c.run_on-stretch.new.out c.run_on-stretch.result
    c.run_on-stretch.ensures (sym c.if-breaks_at.ensures) j refl c.in-Some-stop_past.stop why)
    (subst (λ (t : List ℕ). Speaks g.L.Line.says g.L.Line.room c.args.line.now t c.turns.line) (sym quiet) (inv.said q is at)))

pub returns-in-Some-stop_past-clause-past : goal.returns-in-Some-stop_past-clause-past
returns-in-Some-stop_past-clause-past g c = λ none.
    let few = c.run_on-stretch.ensures.few in
    let p = past_traps (asked_by c.args.asking.now) (c.turns.known.faulted && (c.run_on-stretch.result.ran == 0))
    c.run_on-stretch.result.ran c.in-Some.hart c.run_on-stretch.result.last c.run_on-stretch.new.out.note
    c.in-Some-stop_past.stop (λ many. (c.row_of-row.ensures.free (omega (arith, few, many))).stops) (sym c.stop_past.ensures
    ∙ c.in-Some-stop_past.is) in
    absurd (let faults = p.0 in cc (none, faults))

pub returns-in-Err-clause-finds : goal.returns-in-Err-clause-finds
returns-in-Err-clause-finds g c = λ q is at.
    let m = meaning c.turns.machine in
    let k = c.turns.made in
    let h = c.in-Some.hart in
    let a = asked_by c.args.asking.now in
    let known = c.turns.known in
    let inv = c.turns.invariant in
    let to = forward_from q a c.args.turns c.args.from c.args.known.broke c.args.known.faulted in
    let new = meaning c.run_on-stretch.new.machine in
    let place = inv.place q is at in
    let going = (not_over (nat_le c.args.asking.now.most k) (all_halted m.core) (sym c.if-is_over.ensures)).1 in
    let row = c.in-Some.ensures.named q.schedule m.core (rw is.schedule inv.pace) in
    let fits : k + c.in-Some.row ≤ q.most = (let x = row.few in let b = c.few.ensures.most in let all = is.most in omega (arith, x, b, all))
    in
    let upto : k + c.row_of-row.result ≤ c.args.from + c.args.turns =
    (let x = row.few in let b = c.few.ensures.end in let d = c.row_of-row.ensures.few in omega (arith, x, b, d)) in
    let j = k + c.run_on-stretch.result.ran in
    let why = sym c.stop_past.ensures ∙ c.in_default-stop_past.is in
    let shown = (row_shows q a c.args.asking.now.told m k place going h c.few.result c.in-Some.row row fits c.args.from c.args.turns
    c.args.known.broke c.args.known.faulted known.broke known.faulted inv.from (inv.same q is at)
    c.row_of-row.result c.row_of-row.ensures.few upto c.row_of-row.ensures.free new c.run_on-stretch.new.out c.run_on-stretch.result
    c.run_on-stretch.ensures (sym c.if-breaks_at.ensures) j refl) in
    let fails = fails_behind g.L.Line.says g.L.Line.room c.args.line.now c.turns.line c.show_new.new.line
    (shows q c.args.asking.now.told c.args.from (k - c.args.from))
    (shown_said (news c.args.asking.now.told j c.run_on-stretch.new.out.bytes)) (inv.said q is at) c.in-Err.ensures in
    fails_to g.L.Line.says g.L.Line.room q a c.args.asking.now.told c.args.from c.args.line.now c.show_new.new.line to (j + 1) (let x =
    inv.from in omega (arith, x))
    (row_up q a c.args.asking.now.told m k place going h c.few.result c.in-Some.row row fits c.args.from c.args.turns c.args.known.broke
    c.args.known.faulted known.broke known.faulted inv.from (inv.same q is at)
    c.row_of-row.result c.row_of-row.ensures.few upto c.row_of-row.ensures.free new c.run_on-stretch.new.out c.run_on-stretch.result
    c.run_on-stretch.ensures (sym c.if-breaks_at.ensures) j refl why)
    (subst (λ (t : List ℕ). Fails g.L.Line.says g.L.Line.room c.args.line.now t c.show_new.new.line) (sym shown) fails)

pub returns-in-Some-stop_of-clause-finds : goal.returns-in-Some-stop_of-clause-finds
returns-in-Some-stop_of-clause-finds g c = λ q is at.
    let m = meaning c.turns.machine in
    let k = c.turns.made in
    let h = c.in-Some.hart in
    let a = asked_by c.args.asking.now in
    let known = c.turns.known in
    let inv = c.turns.invariant in
    let to = forward_from q a c.args.turns c.args.from c.args.known.broke c.args.known.faulted in
    let new = meaning c.run_on-stretch.new.machine in
    let place = inv.place q is at in
    let going = (not_over (nat_le c.args.asking.now.most k) (all_halted m.core) (sym c.if-is_over.ensures)).1 in
    let row = c.in-Some.ensures.named q.schedule m.core (rw is.schedule inv.pace) in
    let fits : k + c.in-Some.row ≤ q.most = (let x = row.few in let b = c.few.ensures.most in let all = is.most in omega (arith, x, b, all))
    in
    let upto : k + c.row_of-row.result ≤ c.args.from + c.args.turns =
    (let x = row.few in let b = c.few.ensures.end in let d = c.row_of-row.ensures.few in omega (arith, x, b, d)) in
    let j = k + c.run_on-stretch.result.ran in
    let why = sym c.stop_past.ensures ∙ c.in_default-stop_past.is in
    let shown = (row_shows q a c.args.asking.now.told m k place going h c.few.result c.in-Some.row row fits c.args.from c.args.turns
    c.args.known.broke c.args.known.faulted known.broke known.faulted inv.from (inv.same q is at)
    c.row_of-row.result c.row_of-row.ensures.few upto c.row_of-row.ensures.free new c.run_on-stretch.new.out c.run_on-stretch.result
    c.run_on-stretch.ensures (sym c.if-breaks_at.ensures) j refl) in
    let said = speaks_more g.L.Line.says g.L.Line.room c.args.line.now c.turns.line c.show_new.new.line
    (shows q c.args.asking.now.told c.args.from (k - c.args.from))
    (shown_said (news c.args.asking.now.told j c.run_on-stretch.new.out.bytes)) (inv.said q is at) c.in-Ok.ensures in
    rw c.at-in-Some-stop_of.ensures (finds g.L.Line.says g.L.Line.room q a c.args.asking.now.told c.args.from c.args.line.now
    c.show_new.new.line to (j + 1) c.in-Some-stop_of.stop new
    (row_stops q a c.args.asking.now.told m k place going h c.few.result c.in-Some.row row fits c.args.from c.args.turns c.args.known.broke
    c.args.known.faulted known.broke known.faulted inv.from (inv.same q is at)
    c.row_of-row.result c.row_of-row.ensures.few upto c.row_of-row.ensures.free new c.run_on-stretch.new.out c.run_on-stretch.result
    c.run_on-stretch.ensures (sym c.if-breaks_at.ensures) j refl why c.in-Some-stop_of.stop (sym c.stop_of.ensures
    ∙ c.in-Some-stop_of.is))
    (row_place q a c.args.asking.now.told m k place going h c.few.result c.in-Some.row row fits c.args.from c.args.turns c.args.known.broke
    c.args.known.faulted known.broke known.faulted inv.from (inv.same q is at)
    c.row_of-row.result c.row_of-row.ensures.few upto c.row_of-row.ensures.free new c.run_on-stretch.new.out c.run_on-stretch.result
    c.run_on-stretch.ensures (sym c.if-breaks_at.ensures) j refl)
    (subst (λ (t : List ℕ). Speaks g.L.Line.says g.L.Line.room c.args.line.now t c.show_new.new.line) (sym shown) said))

pub returns-in-Some-stop_past-clause-count : goal.returns-in-Some-stop_past-clause-count
returns-in-Some-stop_past-clause-count g c =
    let m = meaning c.turns.machine in
    let h = c.in-Some.hart in
    let n = c.run_on-stretch.result.ran in
    let new = meaning c.run_on-stretch.new.machine in
    let later = later_turn m (turns_of h m n) new n (n + 1) h (later_all h m n) c.run_on-stretch.ensures.turn refl in
    let x = c.turns.invariant.turns in
    let b = later.turns in
    rw c.past.ensures (omega (arith, x, b))

pub returns-in-Some-stop_past-clause-within : goal.returns-in-Some-stop_past-clause-within
returns-in-Some-stop_past-clause-within g c =
    let m = meaning c.turns.machine in
    let row = c.in-Some.ensures.named (schedule_of c.args.asking.now.schedule) m.core c.turns.invariant.pace in
    let x = row.few in
    let b = c.few.ensures.most in
    let d = c.row_of-row.ensures.few in
    let e = c.run_on-stretch.ensures.few in
    rw c.past.ensures (omega (arith, x, b, d, e))

pub returns-in-Some-stop_of-clause-count : goal.returns-in-Some-stop_of-clause-count
returns-in-Some-stop_of-clause-count g c =
    let m = meaning c.turns.machine in
    let h = c.in-Some.hart in
    let n = c.run_on-stretch.result.ran in
    let new = meaning c.run_on-stretch.new.machine in
    let later = later_turn m (turns_of h m n) new n (n + 1) h (later_all h m n) c.run_on-stretch.ensures.turn refl in
    let x = c.turns.invariant.turns in
    let b = later.turns in
    rw c.at-in-Some-stop_of.ensures (omega (arith, x, b))

pub returns-in-Some-stop_of-clause-within : goal.returns-in-Some-stop_of-clause-within
returns-in-Some-stop_of-clause-within g c =
    let m = meaning c.turns.machine in
    let row = c.in-Some.ensures.named (schedule_of c.args.asking.now.schedule) m.core c.turns.invariant.pace in
    let x = row.few in
    let b = c.few.ensures.most in
    let d = c.row_of-row.ensures.few in
    let e = c.run_on-stretch.ensures.few in
    rw c.at-in-Some-stop_of.ensures (omega (arith, x, b, d, e))

pub turns-preserved : goal.turns-preserved
turns-preserved g c =
    let m = meaning c.turns.machine in
    let h = c.in-Some.hart in
    let n = c.run_on-stretch.result.ran in
    let new = meaning c.run_on-stretch.new.machine in
    let inv = c.turns.invariant in
    let a = asked_by c.args.asking.now in
    let known = c.turns.known in
    let k = c.turns.made in
    let here = c.in-Some.ensures.named (schedule_of c.args.asking.now.schedule) m.core inv.pace in
    let later = later_turn m (turns_of h m n) new n (n + 1) h (later_all h m n) c.run_on-stretch.ensures.turn refl in
    let few = c.run_on-stretch.ensures.few in
    let upto = c.row_of-row.ensures.few in
    record {
      from = let x = inv.from in omega (arith, x);
      within = let x = here.few in let b = c.few.ensures.end in omega (arith, x, b, few, upto);
      most = let x = here.few in let b = c.few.ensures.most in omega (arith, x, b, few, upto);
      turns = let x = inv.turns in let b = later.turns in omega (arith, x, b);
      pace = c.later-pace.ensures (schedule_of c.args.asking.now.schedule) m.core inv.pace new.core later.turns later.harts;
      place = λ q is at.
          let place = inv.place q is at in
          let going = (not_over (nat_le c.args.asking.now.most k) (all_halted m.core) (sym c.if-is_over.ensures)).1 in
          let row = c.in-Some.ensures.named q.schedule m.core (rw is.schedule inv.pace) in
          let fits : k + c.in-Some.row ≤ q.most = (let x = row.few in let b = c.few.ensures.most in let all = is.most in
          omega (arith, x, b, all)) in
          let upto : k + c.row_of-row.result ≤ c.args.from + c.args.turns =
          (let x = row.few in let b = c.few.ensures.end in let d = c.row_of-row.ensures.few in omega (arith, x, b, d)) in
          let j = k + c.run_on-stretch.result.ran in
          (row_place q a c.args.asking.now.told m k place going h c.few.result c.in-Some.row row fits c.args.from c.args.turns
          c.args.known.broke c.args.known.faulted known.broke known.faulted inv.from (inv.same q is at)
          c.row_of-row.result c.row_of-row.ensures.few upto c.row_of-row.ensures.free new c.run_on-stretch.new.out c.run_on-stretch.result
          c.run_on-stretch.ensures (sym c.if-breaks_at.ensures) j refl);
      same = λ q is at.
          let place = inv.place q is at in
          let going = (not_over (nat_le c.args.asking.now.most k) (all_halted m.core) (sym c.if-is_over.ensures)).1 in
          let row = c.in-Some.ensures.named q.schedule m.core (rw is.schedule inv.pace) in
          let fits : k + c.in-Some.row ≤ q.most = (let x = row.few in let b = c.few.ensures.most in let all = is.most in
          omega (arith, x, b, all)) in
          let upto : k + c.row_of-row.result ≤ c.args.from + c.args.turns =
          (let x = row.few in let b = c.few.ensures.end in let d = c.row_of-row.ensures.few in omega (arith, x, b, d)) in
          let j = k + c.run_on-stretch.result.ran in
          let why = sym c.stop_past.ensures ∙ c.in_default-stop_past.is in
          (row_goes q a c.args.asking.now.told m k place going h c.few.result c.in-Some.row row fits c.args.from c.args.turns
          c.args.known.broke c.args.known.faulted known.broke known.faulted inv.from (inv.same q is at)
          c.row_of-row.result c.row_of-row.ensures.few upto c.row_of-row.ensures.free new c.run_on-stretch.new.out c.run_on-stretch.result
          c.run_on-stretch.ensures (sym c.if-breaks_at.ensures) j refl why (sym c.stop_of.ensures ∙ c.in_default-stop_of.is));
      said = λ q is at.
          let place = inv.place q is at in
          let going = (not_over (nat_le c.args.asking.now.most k) (all_halted m.core) (sym c.if-is_over.ensures)).1 in
          let row = c.in-Some.ensures.named q.schedule m.core (rw is.schedule inv.pace) in
          let fits : k + c.in-Some.row ≤ q.most = (let x = row.few in let b = c.few.ensures.most in let all = is.most in
          omega (arith, x, b, all)) in
          let upto : k + c.row_of-row.result ≤ c.args.from + c.args.turns =
          (let x = row.few in let b = c.few.ensures.end in let d = c.row_of-row.ensures.few in omega (arith, x, b, d)) in
          let j = k + c.run_on-stretch.result.ran in
          let shown = (row_shows q a c.args.asking.now.told m k place going h c.few.result c.in-Some.row row fits c.args.from c.args.turns
          c.args.known.broke c.args.known.faulted known.broke known.faulted inv.from (inv.same q is at)
          c.row_of-row.result c.row_of-row.ensures.few upto c.row_of-row.ensures.free new c.run_on-stretch.new.out c.run_on-stretch.result
          c.run_on-stretch.ensures (sym c.if-breaks_at.ensures) j refl) in
          subst (λ (t : List ℕ). Speaks g.L.Line.says g.L.Line.room c.args.line.now t c.show_new.new.line) (sym shown)
          (speaks_more g.L.Line.says g.L.Line.room c.args.line.now c.turns.line c.show_new.new.line
          (shows q c.args.asking.now.told c.args.from (k - c.args.from))
          (shown_said (news c.args.asking.now.told j c.run_on-stretch.new.out.bytes)) (inv.said q is at) c.in-Ok.ensures);
    }

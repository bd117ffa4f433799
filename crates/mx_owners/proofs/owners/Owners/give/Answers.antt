use Rattle.std.proofs.Common.{◌≡◌, ◌+◌, ◌-◌, ◌≤◌, ℕ, List, length, true, false, sym, ap, ◌∙◌, arith, refl}
use Rattle.mx_words.specs.Newest.{Laid, laid}
use Rattle.mx_words.specs.Runs.{owner_runs}
use Rattle.mx_owners.specs.declared.runs.Run.{Run}
use Rattle.mx_owners.specs.OwnerRuns.{given, owners_in, Fill}
use Rattle.mx_owners.proofs.FillLaws.{rising}
use Rattle.mx_owners.proofs.PlaceLaws.{place_within, length-owners_in}
use Rattle.mx_owners.proofs.CountLaws.{runs_counted}
use Rattle.mx_owners.proofs.GiveLaws.{given_fill, given_few, given_owners}
use Rattle.mx_owners.proofs.owners.Owners.give.Goals.{After-deref}
use Rattle.mx_owners.proofs.owners.Owners.give.Goals as goal

in_ram : (c : After-deref) → c.args.first + c.args.count ≤ c.self.inside.words
in_ram c =
    let within : c.args.first + c.args.count ≤ length (owners_in c.self.inside.words c.self.inside.runs.items) =
    rw c.self.view_is c.requires.in_ram in
    omega (arith, length-owners_in c.self.inside.words c.self.inside.runs.items)

-- the owners after the give, and the number of their runs
abbrev entry : ℕ → ℕ → ℕ → Laid ℕ
entry first count domain = record { first = first; count = count; value = domain }

given_is : (c : After-deref) → owners_in c.self.inside.words (given c.self.inside.runs.items c.args.domain c.args.first
    (c.args.first + c.args.count)) ≡ laid (entry c.args.first c.args.count c.args.domain) c.args.self.now
given_is c = given_owners c.self.inside.runs.items c.self.inside.words c.self.invariant.are.fill c.args.domain c.args.first c.args.count
    c.requires.some (in_ram c)
    ∙ ap (λ (os : List ℕ). laid (entry c.args.first c.args.count c.args.domain) os) c.self.view_is

fill_is : (c : After-deref) → Fill 0 c.self.inside.words 0 (given c.self.inside.runs.items c.args.domain c.args.first
    (c.args.first + c.args.count))
fill_is c = given_fill c.self.inside.runs.items c.self.inside.words c.self.invariant.are.fill c.args.domain c.args.first
    (c.args.first + c.args.count) (omega (arith, c.requires.some)) (in_ram c)

count_is : (c : After-deref) → owner_runs (laid (entry c.args.first c.args.count c.args.domain) c.args.self.now)
    ≡ length (given c.self.inside.runs.items c.args.domain c.args.first (c.args.first + c.args.count))
count_is c = ap (λ (os : List ℕ). owner_runs os) (sym (given_is c))
    ∙ runs_counted c.self.inside.words (given c.self.inside.runs.items c.args.domain c.args.first (c.args.first + c.args.count)) (fill_is c)

pub overflow_add-first : goal.overflow_add-first
overflow_add-first c = omega (arith, in_ram c, c.self.invariant.are.in_ram)

pub put_given-requires-clause-rising : goal.put_given-requires-clause-rising
put_given-requires-clause-rising c = rw c.deref.ensures.value (λ i j le lt.
    rising 0 _ 0 c.self.inside.runs.items i j c.self.invariant.are.fill le lt)

pub put_given-requires-clause-within : goal.put_given-requires-clause-within
put_given-requires-clause-within c = rw c.deref.ensures.value
    (λ some. place_within 0 c.self.inside.words 0 c.self.inside.runs.items (c.args.first - 1) c.self.invariant.are.fill (omega arith)
    (omega (arith, in_ram c, c.requires.some)))

pub put_given-requires-clause-fits : goal.put_given-requires-clause-fits
put_given-requires-clause-fits c = rw c.deref.ensures.value
    (given_few c.self.inside.runs.items c.self.inside.words c.self.invariant.are.fill c.args.domain c.args.first
    (c.args.first + c.args.count) (omega (arith, c.requires.some)) (in_ram c))

pub returns-then-len-gt-MOST_OWNER_RUNS-clause-full : goal.returns-then-len-gt-MOST_OWNER_RUNS-clause-full
returns-then-len-gt-MOST_OWNER_RUNS-clause-full c =
    let d : After-deref = (goal.at.returns-then-len-gt-MOST_OWNER_RUNS-clause-full c).After-deref in
    let items : c.put_given.new.next.items ≡ given c.self.inside.runs.items c.args.domain c.args.first (c.args.first + c.args.count) =
    rw c.deref.ensures.value at c.put_given.ensures.items in
    ((λ _. omega (arith, count_is d, ap (λ (rs : List Run). length rs) items)), (λ _. refl))

pub invariant_of-self-2 : goal.invariant_of-self-2
invariant_of-self-2 c =
    let d : After-deref = (goal.at.invariant_of-self-2 c).After-deref in
    let items : c.put_given.new.next.items ≡ given c.self.inside.runs.items c.args.domain c.args.first (c.args.first + c.args.count) =
    rw c.deref.ensures.value at c.put_given.ensures.items in
    rw (c.swap.ensures.x_after, c.swap.ensures.y_after) (record {
      are = record {
        some = c.self.invariant.are.some;
        in_ram = c.self.invariant.are.in_ram;
        fill = rw items (fill_is d);
        few = omega arith;
      };
      room_is = omega (arith, c.put_given.ensures.capacity, c.self.invariant.next_is);
      next_is = c.self.invariant.room_is;
    })

pub returns : goal.returns
returns c =
    let d : After-deref = (goal.at.returns c).After-deref in
    let items : c.put_given.new.next.items ≡ given c.self.inside.runs.items c.args.domain c.args.first (c.args.first + c.args.count) =
    rw c.deref.ensures.value at c.put_given.ensures.items in
    record {
      ok = rw (c.swap.ensures.x_after, items) (given_is d);
      full = (
        (λ t. let no : false ≡ true = t in cc),
        λ over.
            absurd (omega (arith, over, count_is d, ap (λ (rs : List Run). length rs) items)),
      );
      unchanged = tt;
      total = rw (c.swap.ensures.x_after, items)
          (length-owners_in c.self.inside.words (given c.self.inside.runs.items c.args.domain c.args.first (c.args.first + c.args.count))
          ∙ sym (length-owners_in c.self.inside.words c.self.inside.runs.items) ∙ ap (λ (os : List ℕ). length os) c.self.view_is);
    }

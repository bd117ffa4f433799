use Rattle.std.proofs.Common.{ℕ, ◌<◌, ◌∙◌, ap, if◌then◌else◌, Option, None, Some, length, arith, rules}
use Rattle.std.specs.Option.{option_map_or}
use Rattle.mx_words.specs.declared.perm.Span.{Span}
use Rattle.mx_words.specs.Caches.{meets}
use Rattle.mx_caches.proofs.Steps.{map_over_write, map_over_same}
use Rattle.mx_caches.proofs.sidecars.Sidecars.drop_overlap.Goals as goal
use Rattle.mx_caches.proofs.sidecars.Sidecars.drop_overlap.Goals.{in-Some+then-meets, in-Some+else-meets, in_default}

-- what a place keeps
abbrev kept : ℕ → ℕ → Option Span → Option Span
kept first count o = option_map_or (λ s. if meets s first count then None else Some s) o None

pub loop-at-preserved : goal.loop-at-preserved
loop-at-preserved c =
    let xs = c.self.inside.spans in
    let ys = c.loop-at.self-inside.spans in
    let f = kept c.args.first c.args.count in
    let within : c.loop-at.at < length xs = omega (arith, c.self.invariant) in
    record {
      long = c.loop-at.invariant.long;
      dropped = elim c.match-self-at.branch [
        | in-Some+then-meets w ↦ ap (λ s. s.spans) w.self-inside-is
            ∙ map_over_write f xs ys _ None _ within c.loop-at.invariant.dropped w.in-Some.is None (search rules)
        | in-Some+else-meets w ↦ ap (λ s. s.spans) w.self-inside-is
            ∙ map_over_same f xs ys _ None _ within c.loop-at.invariant.dropped w.in-Some.is (search rules)
        | in_default w ↦ ap (λ s. s.spans) w.self-inside-is ∙ map_over_same f xs ys _ None _ within c.loop-at.invariant.dropped
            w.in_default.is (search rules)
      ];
    }

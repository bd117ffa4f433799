use Rattle.std.proofs.Common.{ap, ◌∙◌}
use Rattle.std.proofs.lemmas.Str.{IsUtf8-past_char}
use Rattle.std.proofs.lemmas.Result.{err_from_is_err_and}
use Rattle.mx_io.proofs.Names.{shown_next, shown_none}
use Rattle.mx_tail.proofs.PassLaws.{coming_all, coming_same, coming_next, coming_stop, coming_none}
use Rattle.mx_tail.proofs.gathered.put_name.Goals as goal

pub loop-character-init : goal.loop-character-init
loop-character-init g c =
    let e = ap (λ s. s.rest.now) c.into_iter-character-iterator.ensures.into_iter_gives ∙ c.chars-character-items.ensures.rest in
    record { text = rw e c.utf8.name; coming = rw e (coming_all _ _ _); few = c.len-held.ensures.few }

pub loop-character-preserved : goal.loop-character-preserved
loop-character-preserved g c =
    let next = shown_next _ _ _ c.loop-character.invariant.text c.in-Some.ensures.steps.0 in
    record {
      text = IsUtf8-past_char _ _ _ c.loop-character.invariant.text c.in-Some.ensures.steps.0;
      coming = coming_next (coming_same next c.loop-character.invariant.coming) c.in_ok-put_character.ensures.passes;
      few = c.in_ok-put_character.ensures.few;
    }

pub returns-in_err-put_character-clause-passes : goal.returns-in_err-put_character-clause-passes
returns-in_err-put_character-clause-passes g c =
    let next = shown_next _ _ _ c.loop-character.invariant.text c.in-Some.ensures.steps.0 in
    let p = err_from_is_err_and c.from_residual.result c.from_residual.ensures.1 in
    rw (p.1, p.2) (coming_stop _ (coming_same next c.loop-character.invariant.coming) c.in_err-put_character.ensures.passes)

pub returns-clause-passes : goal.returns-clause-passes
returns-clause-passes g c = coming_none (coming_same (shown_none _ c.in-None.ensures.steps.0.0) c.loop-character.invariant.coming)

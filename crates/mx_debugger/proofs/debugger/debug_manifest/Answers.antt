use Rattle.std.proofs.Common.{inl, inr, refl, ◌∙◌}
use Rattle.mx_commands.specs.Asked.{order_of}
use Rattle.mx_debugger.specs.Looking.{loaded_by, looked_at, looking, outcome_of}
use Rattle.mx_debugger.proofs.Fixed.{led}
use Rattle.mx_debugger.proofs.debugger.debug_manifest.Goals as goal

pub debug_loaded-requires-clause-unmoved : goal.debug_loaded-requires-clause-unmoved
debug_loaded-requires-clause-unmoved g c = let goes = c.in-Ok.ensures.1 in rw goes.means goes.size.turns

pub debug_loaded-requires-clause-fits : goal.debug_loaded-requires-clause-fits
debug_loaded-requires-clause-fits g c = c.in-Ok.ensures.1.fits

pub debug_loaded-requires-clause-boots : goal.debug_loaded-requires-clause-boots
debug_loaded-requires-clause-boots g c = let goes = c.in-Ok.ensures.1 in (goes.state, goes.boots)

pub returns-in-Ok : goal.returns-in-Ok
returns-in-Ok g c =
    let takes = c.in-Ok.ensures in
    let goes = takes.1 in
    let o = order_of c.args.order.now in
    let plan = c.in-Ok.loaded.plan in
    let images = c.in-Ok.loaded.images.items in
    elim (c.debug_loaded.ensures goes.state goes.boots goes.means) [
      | inl h ↦ inl (record {
        plan = plan;
        run = looked_at o plan images goes.state h.0;
        fixed = λ made. led g.S.Store.gives (looking o made) (made plan (looked_at o plan images goes.state h.0)) _ _
            (λ end before now status k. goes.comes (loaded_by o made) end before now status
            (h.1 (λ schedule. outcome_of made plan (looked_at o plan images goes.state schedule)) end before now status k));
        talk = h.2;
        report = h.3 ∙ takes.0;
      })
      | inr w ↦ inr (record {
        quiet = w.0;
        ends = λ made console dump. goes.comes (loaded_by o made) _ _ _ _
            (rw takes.0 at (w.1 (λ schedule. outcome_of made plan (looked_at o plan images goes.state schedule)) console dump));
      })
    ]

pub returns-in-Err : goal.returns-in-Err
returns-in-Err g c =
    let o = order_of c.args.order.now in
    inr (record { quiet = refl {a = c.args.line.now}; ends = λ made console dump. c.in-Err.ensures (loaded_by o made) console dump })

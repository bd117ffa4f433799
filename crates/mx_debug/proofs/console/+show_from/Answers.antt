use Rattle.std.proofs.Common.{◌≡◌, ◌+◌, ◌-◌, ◌≤◌, List, ℕ, [], ◌++◌, drop, length, take, subst, sym, ap, ◌∙◌, arith, length-drop}
use Rattle.std.proofs.lemmas.List.{drop-drop}
use Rattle.mx_packets.specs.Frames.{cut}
use Rattle.mx_packets.specs.Lines.{Fails, Speaks, SpeaksOrFails}
use Rattle.mx_packets.specs.Streams.{sent}
use Rattle.mx_packets.proofs.LineLaws.{fails_before, speaks_nothing}
use Rattle.mx_debug.specs.Texts.{chunks_said, most_shown, shown_text}
use Rattle.mx_debug_texts.proofs.ToldLaws.{no_chunks, speaks_then}
use Rattle.mx_debug.proofs.TextLaws.{next_chunk, no_bytes}
use Rattle.mx_debug.proofs.console.+show_from.Goals as goal
use Rattle.mx_debug.proofs.console.+show_from.Goals.{then-most-eq0-via-then-most-eq0, then-most-eq0-via-else-most-eq0+then-at-len}

nothing : (at : ℕ) (bytes : List ℕ) → length bytes ≤ at → length (drop at bytes) ≤ 0
nothing at bytes all = let e = length-drop at bytes in omega (arith, e, all)

something : (at : ℕ) (bytes : List ℕ) → at + 1 ≤ length bytes → 1 ≤ length (drop at bytes)
something at bytes more = let e = length-drop at bytes in omega (arith, e, more)

pub returns-then-most-eq0 : goal.returns-then-most-eq0
returns-then-most-eq0 g t c =
    let rest = drop c.args.at c.args.events.now.bytes in
    let none : chunks_said c.args.most rest ≡ [] = elim c.then-most-eq0.branch [
      | then-most-eq0-via-then-most-eq0 w ↦ no_chunks c.args.most rest w.if-most-eq0.true
      | then-most-eq0-via-else-most-eq0+then-at-len w ↦ no_bytes c.args.most rest
          (nothing c.args.at c.args.events.now.bytes (let n = w.len.ensures.count in omega (arith, n, w.if-at-len.true)))
    ] in
    subst (λ (x : List ℕ). Speaks g.L.Line.says g.L.Line.room c.args.line.now x c.args.line.now) (sym none)
    (speaks_nothing g.L.Line.says g.L.Line.room c.args.line.now)

pub returns-in-Ok : goal.returns-in-Ok
returns-in-Ok g t c =
    let bytes = c.args.events.now.bytes in
    let rest = drop c.args.at bytes in
    let front = sent (cut (shown_text (take most_shown rest))) in
    let some : 1 ≤ c.args.most = omega (arith, c.if-most-eq0.false) in
    let more = something c.args.at bytes (let n = c.len.ensures.count in omega (arith, n, c.if-at-len.false)) in
    subst (λ (x : List ℕ). SpeaksOrFails g.L.Line.says g.L.Line.room c.args.line.now x c.show_from.new.line c.show_from.result)
    (ap (λ (x : List ℕ). front ++ chunks_said (c.args.most - 1) x) (sym (drop-drop most_shown c.args.at bytes))
    ∙ sym (next_chunk c.args.most rest some more))
    (speaks_then g.L.Line.says g.L.Line.room c.args.line.now c.show_chunk.new.line c.show_from.new.line front
    (chunks_said (c.args.most - 1) (drop (c.args.at + most_shown) bytes)) c.show_from.result c.in-Ok.ensures c.show_from.ensures)

pub returns-in-Err : goal.returns-in-Err
returns-in-Err g t c =
    let bytes = c.args.events.now.bytes in
    let rest = drop c.args.at bytes in
    let front = sent (cut (shown_text (take most_shown rest))) in
    let some : 1 ≤ c.args.most = omega (arith, c.if-most-eq0.false) in
    let more = something c.args.at bytes (let n = c.len.ensures.count in omega (arith, n, c.if-at-len.false)) in
    subst (λ (x : List ℕ). Fails g.L.Line.says g.L.Line.room c.args.line.now x c.show_chunk.new.line)
    (sym (next_chunk c.args.most rest some more))
    (fails_before g.L.Line.says g.L.Line.room c.args.line.now c.show_chunk.new.line front
    (chunks_said (c.args.most - 1) (drop most_shown rest)) c.in-Err.ensures)

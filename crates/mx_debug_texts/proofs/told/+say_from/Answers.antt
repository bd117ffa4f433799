use Rattle.std.proofs.Common.{◌≡◌, ℕ, true, false, ◌==◌, List, ◌++◌, ◌+◌, ◌-◌, ◌≤◌, drop, length, take, sym, subst, ap, ◌∙◌, arith}
use Rattle.std.proofs.lemmas.List.{drop-drop}
use Rattle.mx_any.specs.Machines.{meaning}
use Rattle.mx_packets.specs.Frames.{cut}
use Rattle.mx_packets.specs.Lines.{Fails, Speaks, SpeaksOrFails}
use Rattle.mx_packets.specs.Streams.{sent}
use Rattle.mx_packets.proofs.LineLaws.{fails_before, speaks_nothing}
use Rattle.mx_debug_texts.specs.Documents.{document_text, known_by}
use Rattle.mx_debug_texts.specs.Told.{chunks_said, most_shown, shown_text}
use Rattle.mx_debug_texts.specs.Window.{Part, further}
use Rattle.mx_debug_texts.proofs.ToldLaws.{next_chunk, no_bytes, no_chunks, speaks_then}
use Rattle.mx_debug_texts.proofs.WindowLaws.{held_of}
use Rattle.mx_debug_texts.proofs.told.+say_from.Goals as goal

pub returns-then-most-eq0 : goal.returns-then-most-eq0
returns-then-most-eq0 g t c =
    let rest = drop c.args.at (document_text (meaning c.args.machine.now) (known_by c.args.named.now) c.args.document) in
    subst (λ (x : List ℕ). Speaks g.L.Line.says g.L.Line.room c.args.line.now x c.args.line.now)
    (sym (no_chunks c.args.most rest c.if-most-eq0.true)) (speaks_nothing g.L.Line.says g.L.Line.room c.args.line.now)

nothing : (n m : ℕ) → n ≡ m → (n == 0) ≡ true → m ≤ 0
nothing n m e none = grind arith

something : (n m : ℕ) → n ≡ m → (n == 0) ≡ false → 1 ≤ m
something n m e some = grind arith

pub returns-then-is_empty : goal.returns-then-is_empty
returns-then-is_empty g t c =
    let text = document_text (meaning c.args.machine.now) (known_by c.args.named.now) c.args.document in
    let rest = drop c.args.at text in
    let held : c.bytes.result.now ≡ take most_shown rest = c.bytes.ensures
    ∙ ap (λ (p : Part). p.held) (c.put_document.ensures ∙ ap (λ (p : Part). further p text) c.new-window.ensures)
    ∙ held_of c.args.at most_shown text in
    let none = nothing (length c.bytes.result.now) (length (take most_shown rest)) (ap length held) (sym c.is_empty.ensures
    ∙ c.if-is_empty.true) in
    subst (λ (x : List ℕ). Speaks g.L.Line.says g.L.Line.room c.args.line.now x c.args.line.now) (sym (no_bytes c.args.most rest none))
    (speaks_nothing g.L.Line.says g.L.Line.room c.args.line.now)

pub returns-in-Ok : goal.returns-in-Ok
returns-in-Ok g t c =
    let text = document_text (meaning c.args.machine.now) (known_by c.args.named.now) c.args.document in
    let rest = drop c.args.at text in
    let front = sent (cut (shown_text (take most_shown rest))) in
    let window : c.put_document.new.window.held ≡ take most_shown rest =
    ap (λ (p : Part). p.held) (c.put_document.ensures ∙ ap (λ (p : Part). further p text) c.new-window.ensures)
    ∙ held_of c.args.at most_shown text in
    let held : c.bytes.result.now ≡ take most_shown rest = c.bytes.ensures ∙ window in
    let again : c.bytes-2.result.now ≡ take most_shown rest = c.bytes-2.ensures ∙ window in
    let some : 1 ≤ c.args.most = omega (arith, c.if-most-eq0.false) in
    let more = something (length c.bytes.result.now) (length (take most_shown rest)) (ap length held) (sym c.is_empty.ensures
    ∙ c.if-is_empty.false) in
    subst (λ (x : List ℕ). SpeaksOrFails g.L.Line.says g.L.Line.room c.args.line.now x c.say_from.new.line c.say_from.result)
    (ap (λ (x : List ℕ). front ++ chunks_said (c.args.most - 1) x) (sym (drop-drop most_shown c.args.at text))
    ∙ sym (next_chunk c.args.most rest some more))
    (speaks_then g.L.Line.says g.L.Line.room c.args.line.now c.say_shown.new.line c.say_from.new.line front
    (chunks_said (c.args.most - 1) (drop (c.args.at + most_shown) text)) c.say_from.result
    (subst (λ (b : List ℕ). Speaks g.L.Line.says g.L.Line.room c.args.line.now (sent (cut (shown_text b))) c.say_shown.new.line) again
    c.in-Ok.ensures) c.say_from.ensures)

pub returns-in-Err : goal.returns-in-Err
returns-in-Err g t c =
    let text = document_text (meaning c.args.machine.now) (known_by c.args.named.now) c.args.document in
    let rest = drop c.args.at text in
    let front = sent (cut (shown_text (take most_shown rest))) in
    let window : c.put_document.new.window.held ≡ take most_shown rest =
    ap (λ (p : Part). p.held) (c.put_document.ensures ∙ ap (λ (p : Part). further p text) c.new-window.ensures)
    ∙ held_of c.args.at most_shown text in
    let held : c.bytes.result.now ≡ take most_shown rest = c.bytes.ensures ∙ window in
    let again : c.bytes-2.result.now ≡ take most_shown rest = c.bytes-2.ensures ∙ window in
    let some : 1 ≤ c.args.most = omega (arith, c.if-most-eq0.false) in
    let more = something (length c.bytes.result.now) (length (take most_shown rest)) (ap length held) (sym c.is_empty.ensures
    ∙ c.if-is_empty.false) in
    subst (λ (x : List ℕ). Fails g.L.Line.says g.L.Line.room c.args.line.now x c.say_shown.new.line)
    (sym (next_chunk c.args.most rest some more))
    (fails_before g.L.Line.says g.L.Line.room c.args.line.now c.say_shown.new.line front
    (chunks_said (c.args.most - 1) (drop most_shown rest))
    (subst (λ (b : List ℕ). Fails g.L.Line.says g.L.Line.room c.args.line.now (sent (cut (shown_text b))) c.say_shown.new.line) again
    c.in-Err.ensures))

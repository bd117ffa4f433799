use Rattle.std.proofs.Common.{◌≡◌, ℕ, ◌+◌, ◌-◌, ◌*◌, ◌<◌, ◌≤◌, nat_lt, true, false, length, take, drop, ap, sym, ◌∙◌, arith}
use Rattle.std.proofs.lemmas.Bool.{lt-ltb, le-ltb}
use Rattle.mx_words.specs.Ranges.{ram_base}
use Rattle.mx_model.specs.Checks.{arg}
use Rattle.mx_model.specs.Reads.{flat_reads}
use Rattle.mx_model.specs.Serve.{serve_write, answers, code, bytes_at}
use Rattle.mx_model.specs.State.{Core}
use Rattle.mx_supervisor.specs.Parts.{Parts, parts_of, core_of, flat_of}
use Rattle.mx_supervisor.proofs.Answering.{told-bytes, harts-alone, looks-served, written-served, small-answer}
use Rattle.mx_supervisor.proofs.Writing.{AreBytes, are-bytes, behind-inside, is-write, write-denied, write-done, write-none}
use Rattle.mx_supervisor.proofs.supervisor.Supervisor.write.Goals as goal

positive : (n : ℕ) → (n ≡ 0 → ⊥) → 0 < n
positive n h = omega (arith, h)

ends-in : (a n r s : ℕ) → r ≡ 4 * s → a + n ≤ ram_base + 4 * s → a + n ≤ ram_base + r
ends-in a n r s e h = rw e h

pub returns-then-count-gt-BYTES-clause-does : goal.returns-then-count-gt-BYTES-clause-does
returns-then-count-gt-BYTES-clause-does g c =
    let many : nat_lt 4096 (arg c.args.call.now 1) ≡ true = lt-ltb _ _ c.if-count-gt-BYTES.true in
    told-bytes serve_write c.args.call.now _ (code 11) _ _ c.requires.sound c.requires.empty c.refused.ensures (λ rest. rw many)

pub returns-then-count-eq0-clause-does : goal.returns-then-count-eq0-clause-does
returns-then-count-eq0-clause-does g c =
    let p = parts_of g.T.PermTables c.args.self.now in
    told-bytes serve_write c.args.call.now p 0 _ _ c.requires.sound c.requires.empty c.done.ensures
    (λ rest. write-none (flat_reads (flat_of rest p)) (core_of rest p) c.args.call.now c.if-count-eq0.true)

pub returns-then-is_outside-clause-does : goal.returns-then-is_outside-clause-does
returns-then-is_outside-clause-does g c =
    let few : nat_lt 4096 (arg c.args.call.now 1) ≡ false = le-ltb _ _ c.if-count-gt-BYTES.false in
    let some : nat_lt 0 (arg c.args.call.now 1) ≡ true = lt-ltb _ _ (positive _ c.if-count-eq0.false) in
    told-bytes serve_write c.args.call.now _ (code 1) _ _ c.requires.sound c.requires.empty c.refused-then-is_outside.ensures
    (λ rest. rw (few, some, c.is_outside.ensures, c.if-is_outside.true))

pub may_read-requires : goal.may_read-requires
may_read-requires g c =
    let bytes : AreBytes (arg c.args.call.now 0) (arg c.args.call.now 1) (g.T.PermTables.size c.args.self.now.checker.tables) =
    are-bytes _ _ _ c.if-count-gt-BYTES.false (positive _ c.if-count-eq0.false) (c.is_outside.ensures ∙ c.if-is_outside.false) in
    (assumption c, (c.requires.sound, (c.requires.domain, (c.requires.may, behind-inside _ _ _ bytes))))

pub returns-then-not-may_read-clause-does : goal.returns-then-not-may_read-clause-does
returns-then-not-may_read-clause-does g c =
    let p = parts_of g.T.PermTables c.args.self.now in
    let bytes : AreBytes (arg c.args.call.now 0) (arg c.args.call.now 1) p.size =
    are-bytes _ _ _ c.if-count-gt-BYTES.false (positive _ c.if-count-eq0.false) (c.is_outside.ensures ∙ c.if-is_outside.false) in
    harts-alone serve_write c.args.call.now p _ _ _ c.requires.sound c.may_read.ensures.read.same c.may_read.ensures.read.harts (λ e.
    c.requires.empty)
    (λ rest bars. rw c.refused-then-not-may_read.ensures (looks-served rest p _ (code 12) _ _ c.may_read.ensures.read.same
    (write-denied (flat_reads (flat_of rest p)) (core_of rest p) c.args.call.now _ (is-write (core_of rest p) c.args.call.now bytes)
    (c.may_read.ensures.answer rest ∙ c.if-not-may_read.true)
    ∙ ap (λ (s : Core). answers s (code 12)) (sym (c.may_read.ensures.read.core rest bars)))
    c.requires.empty))

pub print-requires : goal.print-requires
print-requires g c =
    let bytes : AreBytes (arg c.args.call.now 0) (arg c.args.call.now 1) (g.T.PermTables.size c.args.self.now.checker.tables) =
    are-bytes _ _ _ c.if-count-gt-BYTES.false (positive _ c.if-count-eq0.false) (c.is_outside.ensures ∙ c.if-is_outside.false) in
    let ram : length c.may_read.new.self.ram ≡ 4 * g.T.PermTables.size c.args.self.now.checker.tables =
    ap (λ (q : Parts). length q.ram) c.may_read.ensures.read.same ∙ c.requires.sound.ram in
    let ends : arg c.args.call.now 0 + arg c.args.call.now 1 ≤ ram_base + length c.may_read.new.self.ram = ends-in _ _ _ _ ram bytes.ends in
    (assumption c, (bytes.begins, (ends, (bytes.few, c.requires.empty))))

pub returns-clause-does : goal.returns-clause-does
returns-clause-does g c =
    let p = parts_of g.T.PermTables c.args.self.now in
    let call = c.args.call.now in
    let bytes : AreBytes (arg call 0) (arg call 1) p.size =
    are-bytes _ _ _ c.if-count-gt-BYTES.false (positive _ c.if-count-eq0.false) (c.is_outside.ensures ∙ c.if-is_outside.false) in
    let same = c.may_read.ensures.read.same in
    harts-alone serve_write call p _ _ _ c.requires.sound same c.may_read.ensures.read.harts
    (λ e. absurd (small-answer _ _ c.done-2.ensures bytes.few e))
    (λ rest bars. rw (c.done-2.ensures, c.print.ensures) (written-served rest p _ _ _ _ _ same
    (write-done (flat_reads (flat_of rest p)) (core_of rest p) call _ (is-write (core_of rest p) call bytes) (c.may_read.ensures.answer rest
    ∙ c.if-not-may_read.false)
    ∙ ap (λ (s : Core). record (answers s (arg call 1)) { console = bytes_at (core_of rest p) (arg call 0) (arg call 1) })
    (sym (c.may_read.ensures.read.core rest bars)))
    (ap (λ (q : Parts). take (arg call 1) (drop (arg call 0 - ram_base) q.ram)) same)))

pub overflow_sub-first : goal.overflow_sub-first
overflow_sub-first g c =
    (are-bytes _ _ _ c.if-count-gt-BYTES.false (positive _ c.if-count-eq0.false)
    (c.is_outside.ensures ∙ c.if-is_outside.false)).begins

pub overflow_sub-behind : goal.overflow_sub-behind
overflow_sub-behind g c =
    (are-bytes _ _ _ c.if-count-gt-BYTES.false (positive _ c.if-count-eq0.false)
    (c.is_outside.ensures ∙ c.if-is_outside.false)).begins

pub is_outside-requires : goal.is_outside-requires
is_outside-requires g c = search

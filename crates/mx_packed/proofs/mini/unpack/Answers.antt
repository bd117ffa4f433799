use Rattle.std.proofs.Common.{arith}
use Rattle.mx_packed.proofs.Entries.{pack_of-made}
use Rattle.mx_packed.proofs.mini.unpack.Goals as goal

pub returns-in-Some-clause-all : goal.returns-in-Some-clause-all
returns-in-Some-clause-all c perms left right whole l r e =
    let made = pack_of-made perms left right c.args.entry (omega arith) l r e in
    let line = c.line_of-perms.ensures perms whole made.values made.starts in
    let left_is = made.left_is in
    let right_is = made.right_is in
    cc

pub returns-in_default-clause-all : goal.returns-in_default-clause-all
returns-in_default-clause-all c perms left right whole l r e =
    let made = pack_of-made perms left right c.args.entry (omega arith) l r e in
    let line = c.line_of-perms.ensures perms whole made.values made.starts in
    let left_is = made.left_is in
    let right_is = made.right_is in
    absurd (c.if-word-entry.false (cc))

pub returns-in_default-2-clause-all : goal.returns-in_default-2-clause-all
returns-in_default-2-clause-all c perms left right whole l r e =
    let made = pack_of-made perms left right c.args.entry (omega arith) l r e in
    let line = c.line_of-perms.ensures perms whole made.values made.starts in
    let left_is = made.left_is in
    let right_is = made.right_is in
    cc

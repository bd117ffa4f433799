use Rattle.mx_debug_texts.proofs.who.put_owned.Goals as goal

pub returns : goal.returns
returns c = rw (c.address.ensures, c.owner_of.ensures) at c.put_pieces.ensures

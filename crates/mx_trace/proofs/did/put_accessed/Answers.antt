use Rattle.mx_trace.proofs.did.put_accessed.Goals as goal

pub returns-in-Load-clause-text : goal.returns-in-Load-clause-text
returns-in-Load-clause-text g c = rw (c.in-Load.is, ← c.bytes_of_load.ensures) c.put_load.ensures.text

pub returns-in-Store-clause-text : goal.returns-in-Store-clause-text
returns-in-Store-clause-text g c = rw (c.in-Store.is, ← c.low_bytes.ensures, ← c.bytes_of_store.ensures) c.put_store.ensures.text

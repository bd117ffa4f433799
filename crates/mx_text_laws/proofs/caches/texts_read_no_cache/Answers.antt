use Rattle.mx_text_laws.proofs.RunTexts.{texts-plain}
use Rattle.mx_text_laws.proofs.caches.texts_read_no_cache.Goals as goal

pub returns : goal.returns
returns c = texts-plain

use Rattle.std.proofs.Common.{◌∙◌}
use Rattle.mx_memory.proofs.Puts.{put_mid-word}
use Rattle.mx_memory.proofs.ram.put_word.Goals as goal

pub returns : goal.returns
returns c = put_mid-word _ _ _ _ c.requires (c.copy_from_slice.ensures.after ∙ c.to_le_bytes.ensures)

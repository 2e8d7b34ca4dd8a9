use Rattle.tk_ids.proofs.NamesLemmas.{is_name-utf8}
use Rattle.tk_ids.proofs.name.Name.from_checked.Goals as goal

pub from_utf8_unchecked-text-requires : goal.from_utf8_unchecked-text-requires
from_utf8_unchecked-text-requires c = is_name-utf8 c.args.bytes.now c.requires

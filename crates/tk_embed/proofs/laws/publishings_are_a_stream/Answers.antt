use Rattle.tk_embed.proofs.PublishingLemmas.{is_stream}
use Rattle.tk_embed.proofs.laws.publishings_are_a_stream.Goals as goal

pub returns : goal.returns
returns c = is_stream

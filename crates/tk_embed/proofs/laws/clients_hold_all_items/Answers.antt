use Rattle.std.proofs.Common.{List, [], ℕ, subst}
use Rattle.tk_client.specs.Feeding.{Took}
use Rattle.tk_stream.specs.Tables.{empty_tables}
use Rattle.tk_embed.specs.Publishing.{sendings}
use Rattle.tk_embed.proofs.PublishingLemmas.{published}
use Rattle.tk_embed.proofs.laws.clients_hold_all_items.Goals as goal

pub returns : goal.returns
returns c old new ps lines start h on short took =
    let held = c.streams_are_fed.ensures.tables old new (sendings [] ps) lines start on short
    (subst (λ (bytes : List ℕ). Took old bytes lines new) (published empty_tables [] ps h) took) in
    (held.0, held.1, held.2)

use Rattle.std.proofs.Common.{ap, sym, ◌∙◌}
use Rattle.tk_client.specs.Meaning.{meaning}
use Rattle.tk_client.proofs.FeedLemmas.{goes-then}
use Rattle.tk_client.proofs.laws.feeds_add_up.Goals as goal

pub returns : goal.returns
returns c old mid new a b m n first limit second = record {
  came = goes-then old.max_line old.start mid.start new.start a b m n first.came (ap (λ k. meaning k mid.start b) (sym limit) ∙ second.came);
  sound = second.sound;
}

use Rattle.tk_page.proofs.TrackLemmas.{found_at}
use Rattle.tk_page.proofs.tracks.find_track.Goals as goal

pub returns-clause-some : goal.returns-clause-some
returns-clause-some c = found_at c.args.id c.args.tasks.now.entries c.get_index_of.result c.get_index_of.ensures.index c.get_index_of.ensures.value

use Rattle.tk_page.proofs.TrackLemmas.{tracks_none}
use Rattle.tk_page.proofs.tracks.Tracks.new.Goals as goal

pub returns : goal.returns
returns c = tracks_none (record { tasks = c.new.result; lasting = c.new-2.result }) c.new.ensures.empty c.new-2.ensures.empty

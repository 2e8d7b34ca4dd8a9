-- What is compared of a place: in one stream, and in both.
use Rattle.std.specs.Prelude.{◌+◌}
use Rattle.tk_core.specs.Lists.{capped}
use Rattle.tk_odd.specs.declared.held.Held.{Held}
use Rattle.tk_sites.specs.Times.{plus_times, untold}
use Rattle.tk_sites.specs.declared.sums.Sums.{Sums}
use Rattle.tk_sites.specs.declared.times.SiteTimes.{SiteTimes}
use Rattle.tk_compare.specs.declared.spent.Compared.{Compared}
use Rattle.tk_compare.specs.declared.spent.Side.{Side}
use Rattle.tk_compare.specs.declared.spent.Side.TheVariants.{Before, After}
use Rattle.tk_compare.specs.declared.spent.Spent.{Spent}

-- of no place
abbrev pub unspent : Spent
unspent = record { places = 0; polls = 0; ran = 0; waited = 0; held = 0; times = untold }

-- of a place with these sums
abbrev pub spent_of : Sums → Spent
spent_of s = record { places = 1; polls = s.polls; ran = s.busy; waited = s.waited; held = 0; times = untold }

-- of a place with these histograms: the place itself is counted with its sums
abbrev pub timed_of : SiteTimes → Spent
timed_of t = record { places = 0; polls = 0; ran = 0; waited = 0; held = 0; times = t }

-- of a place that held up others so
abbrev pub held_of : Held → Spent
held_of h = record { places = 0; polls = 0; ran = 0; waited = 0; held = h.charged; times = untold }

-- of places of both. A sum that passes 2^64 - 1 stays there
abbrev pub both_spent : Spent → Spent → Spent
both_spent a b = record {
  places = capped (a.places + b.places);
  polls = capped (a.polls + b.polls);
  ran = capped (a.ran + b.ran);
  waited = capped (a.waited + b.waited);
  held = capped (a.held + b.held);
  times = plus_times a.times b.times;
}

-- of a place in one of two streams
abbrev pub in_stream : Side → Spent → Compared
in_stream Before spent = record { before = spent; after = unspent }
in_stream After spent = record { before = unspent; after = spent }

-- of places of both, stream by stream
abbrev pub plus : Compared → Compared → Compared
plus a b = record { before = both_spent a.before b.before; after = both_spent a.after b.after }

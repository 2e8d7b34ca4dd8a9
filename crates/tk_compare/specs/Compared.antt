-- Which places of two streams are the same, and what these came to in each.
use Rattle.std.specs.Prelude.{ℕ, List, [], ◌∷◌, ◌++◌, map, Option, if◌then◌else◌}
use Rattle.std.specs.Option.{option_map_or}
use Rattle.tk_series.specs.Limited.{LimitedView, names_of}
use Rattle.tk_series.specs.Series.{is_seen, series_of}
use Rattle.tk_odd.specs.declared.held.Held.{Held}
use Rattle.tk_sites.specs.Lines.{more_site}
use Rattle.tk_sites.specs.declared.sums.Sums.{Sums}
use Rattle.tk_compare.specs.Names.{by_loose, loosened}
use Rattle.tk_compare.specs.Spent.{held_of, in_stream, plus, spent_of, timed_of}
use Rattle.tk_compare.specs.declared.recorded.Recorded.{Recorded}
use Rattle.tk_compare.specs.declared.spent.Compared.{Compared}
use Rattle.tk_compare.specs.declared.spent.Spent.{Spent}
use Rattle.tk_compare.specs.declared.spent.Side.{Side}
use Rattle.tk_compare.specs.declared.spent.Side.TheVariants.{Before, After}

-- what takes all that found no room among places, as one more
abbrev pub rest_in : {V : Type 0} → Option V → List (List ℕ × V)
rest_in rest = option_map_or (λ v. (more_site, v) ∷ []) rest []

-- the places of a stream, or their histograms: those that stand by themselves, and then the one that takes what found no room among them
abbrev pub places_in : {V : Type 0} → LimitedView V → List (List ℕ × V)
places_in sites = sites.first ++ rest_in sites.rest

-- the names of the places of a stream. What found no room among them is one more
abbrev pub site_names : LimitedView Sums → List (List ℕ)
site_names sites = names_of (places_in sites)

-- a place of a stream, by what it is compared by beside the names of the other stream, with what it adds
abbrev pub entry : {V : Type 0} → (V → Spent) → Side → List (List ℕ) → List (List ℕ) → List ℕ × V → List ℕ × Compared
entry spent side loose others x = (by_loose loose others x.0, in_stream side (spent x.1))

-- what the places of a stream add, or their histograms
abbrev pub entries : {V : Type 0} → (V → Spent) → Side → List (List ℕ) → List (List ℕ) → LimitedView V → List (List ℕ × Compared)
entries spent side loose others sites = map (entry spent side loose others) (places_in sites)

-- a place among those of a stream, of which these are the names. What found no room among them is of the one more
abbrev pub place_among : List (List ℕ) → List ℕ → List ℕ
place_among own name = if is_seen own name then name else more_site

-- a place that held up others, with what it adds
abbrev pub held_entry : Side → List (List ℕ) → List (List ℕ) → List (List ℕ) → List ℕ × Held → List ℕ × Compared
held_entry side own loose others x = (by_loose loose others (place_among own x.0), in_stream side (held_of x.1))

-- what a stream adds, of whose places these are the names, beside the names of the other: its places, their histograms, and how they held up others
abbrev pub added : Side → List (List ℕ) → List (List ℕ) → Recorded → List (List ℕ × Compared)
added side own others r =
    entries spent_of side (loosened own others) others r.sites
    ++ (entries timed_of side (loosened own others) others r.times
    ++ map (held_entry side own (loosened own others) others) r.held)

-- what places are compared by, with what each came to in both streams: places that are compared by the same are added up. Those of the stream after
-- come first, in its order, then those that it has no more
abbrev pub compared : Recorded → Recorded → List (List ℕ × Compared)
compared before after = series_of plus
    (added After (site_names after.sites) (site_names before.sites) after ++ added Before (site_names before.sites) (site_names after.sites) before)

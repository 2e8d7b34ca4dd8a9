-- Which findings of two streams are the same.
use Rattle.std.specs.Prelude.{ℕ, ◌+◌, ◌==◌, List, [], ◌∷◌, ◌++◌, codes, filter, flat_map, length, map, if◌then◌else◌}
use Rattle.tk_core.specs.Lists.{capped}
use Rattle.tk_series.specs.Series.{series_of}
use Rattle.tk_compare.specs.Names.{by_loose, loosened}
use Rattle.tk_compare.specs.declared.found.Seen.{Seen}
use Rattle.tk_compare.specs.declared.found.Standing.{Standing}
use Rattle.tk_compare.specs.declared.found.Standing.TheVariants.{New, Gone, Still}
use Rattle.tk_compare.specs.declared.spent.Side.{Side}
use Rattle.tk_compare.specs.declared.spent.Side.TheVariants.{Before, After}

-- one finding of a stream
abbrev pub seen_in : Side → Seen
seen_in Before = record { before = 1; after = 0 }
seen_in After = record { before = 0; after = 1 }

-- the findings of both. A number that passes 2^64 - 1 stays there
abbrev pub both_seen : Seen → Seen → Seen
both_seen a b = record { before = capped (a.before + b.before); after = capped (a.after + b.after) }

-- a finding of a stream, by what its name is compared by beside the names of the other's findings
abbrev pub seen_entry : Side → List (List ℕ) → List (List ℕ) → List ℕ → List ℕ × Seen
seen_entry side loose others name = (by_loose loose others name, seen_in side)

-- what the findings of a stream add, beside those of the other
abbrev pub seen_entries : Side → List (List ℕ) → List (List ℕ) → List (List ℕ × Seen)
seen_entries side own others = map (seen_entry side (loosened own others) others) own

-- what findings are compared by, with how many each stream has of them: they are compared as places are. Those of the stream after come first, in its
-- order, then those that it has no more
abbrev pub compared_findings : List (List ℕ) → List (List ℕ) → List (List ℕ × Seen)
compared_findings before after = series_of both_seen (seen_entries After after before ++ seen_entries Before before after)

-- a finding that one stream has, or both
abbrev pub standing_of : Seen → Standing
standing_of x = if x.before == 0 then New else if x.after == 0 then Gone else Still

-- where its lines stand: what is new comes first, what is still there last
abbrev pub rank_of : Standing → ℕ
rank_of New = 1
rank_of Gone = 2
rank_of Still = 3

-- the first words of its line
abbrev pub word_of : Standing → List ℕ
word_of New = codes "finding new "
word_of Gone = codes "finding gone "
word_of Still = codes "finding still "

-- the line of a finding, if it stands at this rank
abbrev pub finding_at : ℕ → List ℕ × Seen → List ℕ
finding_at rank x = if rank_of (standing_of x.1) == rank then word_of (standing_of x.1) ++ (x.0 ++ 10 ∷ []) else []

-- the lines of the findings of this rank, in the order of these
abbrev pub findings_at : List (List ℕ × Seen) → ℕ → List ℕ
findings_at findings rank = flat_map (finding_at rank) findings

-- the lines of all findings: those that are new, gone and still there
abbrev pub finding_lines : List (List ℕ × Seen) → List ℕ
finding_lines findings = findings_at findings 1 ++ (findings_at findings 2 ++ findings_at findings 3)

-- how many findings have this rank
abbrev pub findings_count : List (List ℕ × Seen) → ℕ → ℕ
findings_count findings rank = length (filter (λ x. rank_of (standing_of x.1) == rank) findings)

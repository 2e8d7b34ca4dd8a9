-- What is written of two streams that were compared.
use Rattle.std.specs.Prelude.{ℕ, ◌+◌, List, ◌++◌, codes, decimal}
use Rattle.tk_compare.specs.Found.{finding_lines, findings_count}
use Rattle.tk_compare.specs.Lines.{count_at, place_lines}
use Rattle.tk_compare.specs.declared.change.Margin.{Margin}
use Rattle.tk_compare.specs.declared.change.Spans.{Spans}
use Rattle.tk_compare.specs.declared.found.Seen.{Seen}
use Rattle.tk_compare.specs.declared.spent.Compared.{Compared}
use Rattle.tk_compare.specs.declared.text.FoundCounts.{FoundCounts}
use Rattle.tk_compare.specs.declared.text.SiteCounts.{SiteCounts}

-- how many places changed so, and how many did not
abbrev pub site_counts : Margin → Spans → List (List ℕ × Compared) → SiteCounts
site_counts margin spans places = record {
  worse = count_at margin spans places 1;
  new = count_at margin spans places 2;
  better = count_at margin spans places 3;
  gone = count_at margin spans places 4;
  same = count_at margin spans places 5;
}

-- how many findings are new, how many are gone, and how many both streams have
abbrev pub found_counts : List (List ℕ × Seen) → FoundCounts
found_counts findings = record { new = findings_count findings 1; gone = findings_count findings 2; still = findings_count findings 3 }

-- the first part of the sentence
abbrev pub places_said : SiteCounts → List ℕ
places_said n =
    codes "places: " ++ (decimal n.worse ++ (codes " worse, " ++ (decimal n.new ++ (codes " new, " ++ (decimal n.better ++ (codes " better, "
    ++ (decimal n.gone ++ (codes " gone, " ++ (decimal n.same ++ codes " the same; ")))))))))

-- the second part
abbrev pub findings_said : FoundCounts → List ℕ
findings_said n = codes "findings: " ++ (decimal n.new ++ (codes " new, " ++ (decimal n.gone ++ (codes " gone, " ++ (decimal n.still ++ codes " still there\n")))))

-- a sentence, then a line for each finding, then one for each place that changed
abbrev pub comparison_text : Margin → Spans → List (List ℕ × Compared) → List (List ℕ × Seen) → List ℕ
comparison_text margin spans places findings =
    places_said (site_counts margin spans places) ++ (findings_said (found_counts findings) ++ (finding_lines findings ++ place_lines margin spans places))

-- how much got worse: places that are worse, and findings that are new
abbrev pub worse_count : Margin → Spans → List (List ℕ × Compared) → List (List ℕ × Seen) → ℕ
worse_count margin spans places findings = count_at margin spans places 1 + findings_count findings 1

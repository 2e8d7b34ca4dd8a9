-- Each piece of a page of two streams has its place, and the page ends between tags.
use Rattle.std.proofs.Common.{◌≡◌, ℕ, List, nat_eq, nat_le, ◌||◌, [], slice_get, Option, Some, None, refl}
use Rattle.std.specs.Option.{option_map_or}
use Rattle.std.specs.Prelude.{codes}
use Rattle.tk_compare.specs.Changes.{change_of, rate, rate_in_hundredths}
use Rattle.tk_compare.specs.Found.{rank_of as standing_rank, standing_of}
use Rattle.tk_compare.specs.Lines.{rank_of}
use Rattle.tk_compare.specs.Text.{found_counts, site_counts}
use Rattle.tk_compare.specs.declared.change.Margin.{Margin}
use Rattle.tk_compare.specs.declared.change.Spans.{Spans}
use Rattle.tk_compare.specs.declared.found.Seen.{Seen}
use Rattle.tk_compare.specs.declared.spent.Compared.{Compared}
use Rattle.tk_paper.specs.Parts.{after_all}
use Rattle.tk_paper.specs.declared.marks.Place.TheVariants as places
use Rattle.tk_page.specs.declared.ranks.Rank.{Rank}
use Rattle.tk_page.specs.Badges.{section}
use Rattle.tk_page.specs.Changed as changed
use Rattle.tk_page.proofs.Leading.{bits_to, cut_to, each_to, then_to}
use Rattle.tk_page.proofs.PlaceLemmas.{Between, either, none_between, site_text_to}

ratio_to : (before after : ℕ) → Between (changed.ratio before after)
unfolding after_all
ratio_to before after = either (nat_eq before 0 || nat_eq after 0) none_between (either (nat_le before after) (record { is = refl }) (record { is = refl }))

times_cell_to : (before after : ℕ) → Between (changed.times_cell before after)
unfolding after_all
times_cell_to before after = cut_to 7 refl (then_to (ratio_to before after) (record { is = refl }))

rates_cell_to : (before after : ℕ) → Between (changed.rates_cell before after)
unfolding after_all
rates_cell_to before after = cut_to 7 refl (then_to (ratio_to before after) (record { is = refl }))

verdict_to : (margin : Margin) (spans : Spans) (compares : List (List ℕ × Compared)) (findings : List (List ℕ × Seen)) → Between (changed.verdict margin spans compares findings)
unfolding after_all
verdict_to margin spans compares findings =
    then_to (bits_to (changed.verdict_head (site_counts margin spans compares) (found_counts findings)) refl) (then_to (bits_to (changed.waiting_said spans compares) refl) (then_to (bits_to (changed.sites_said (site_counts margin spans compares)) refl)
    (then_to (bits_to (changed.found_said (found_counts findings)) refl) (record { is = refl }))))

finding_to : (rank : ℕ) (x : List ℕ × Seen) → Between (changed.finding_if rank x)
unfolding after_all
finding_to rank (name, seen) =
    either (nat_eq (standing_rank (standing_of seen)) rank) (then_to (bits_to (changed.finding_head rank) refl) (then_to (site_text_to name) (record { is = refl }))) none_between

findings_to : (findings : List (List ℕ × Seen)) → Between (changed.findings_section findings)
unfolding after_all
findings_to findings =
    then_to (bits_to (section (codes "odd") (codes "Findings")) refl) (cut_to 2 refl (then_to (then_to (each_to (changed.finding_if 1) (finding_to 1) findings)
    (then_to (each_to (changed.finding_if 2) (finding_to 2) findings) (each_to (changed.finding_if 3) (finding_to 3) findings))) (record { is = refl })))

polls_rate_to : (spans : Spans) (before after : ℕ) → Between (changed.polls_rate_cell spans before after)
polls_rate_to spans before after = rates_cell_to (rate_in_hundredths spans.before before) (rate_in_hundredths spans.after after)

time_rate_to : (spans : Spans) (before after : ℕ) → Between (changed.time_rate_cell spans before after)
time_rate_to spans before after = times_cell_to (rate spans.before before) (rate spans.after after)

changes_to : (spans : Spans) (x : Compared) → Between (changed.changes_of spans x)
changes_to spans x =
    then_to (polls_rate_to spans x.before.polls x.after.polls) (then_to (time_rate_to spans x.before.ran x.after.ran)
    (then_to (time_rate_to spans x.before.waited x.after.waited) (then_to (time_rate_to spans x.before.held x.after.held)
    (times_cell_to x.before.times.polls.longest x.after.times.polls.longest))))

row_to : (margin : Margin) (spans : Spans) (x : List ℕ × Compared) → Between (changed.row_if margin spans x)
unfolding after_all
row_to margin spans (site, x) =
    either (nat_eq (rank_of (change_of margin spans x)) 5) none_between
    (cut_to 4 refl (then_to (site_text_to site) (cut_to 4 refl (then_to (changes_to spans x) (record { is = refl })))))

row_of_rank_to : (margin : Margin) (spans : Spans) (compares : List (List ℕ × Compared)) (rank : Rank) → Between (changed.row_of_rank margin spans compares rank)
row_of_rank_to margin spans compares rank = by (slice_get compares rank.place)
  where
    by : (o : Option (List ℕ × Compared)) → Between (option_map_or (changed.row_if margin spans) o [])
    by None = none_between
    by (Some x) = row_to margin spans x

sites_to : (margin : Margin) (spans : Spans) (compares : List (List ℕ × Compared)) (ranks : List Rank) → Between (changed.changes_section margin spans compares ranks)
unfolding after_all
sites_to margin spans compares ranks =
    then_to (bits_to (section (codes "places") (codes "Places")) refl) (cut_to 2 refl (then_to (bits_to changed.change_caption refl)
    (then_to (bits_to changed.change_columns refl) (then_to (each_to (changed.row_of_rank margin spans compares) (row_of_rank_to margin spans compares) ranks) (record { is = refl })))))

-- a page that begins between tags ends between tags
pub change_parts_to : (title path : List ℕ) (margin : Margin) (spans : Spans) (compares : List (List ℕ × Compared)) (ranks : List Rank) (findings : List (List ℕ × Seen))
    → after_all (changed.change_parts title path margin spans compares ranks findings) (Some places.Text) ≡ Some places.Text
unfolding after_all
change_parts_to title path margin spans compares ranks findings = page.is where
  page : Between (changed.change_parts title path margin spans compares ranks findings)
  page =
      then_to (verdict_to margin spans compares findings) (then_to (bits_to (changed.change_header title path spans) refl) (cut_to 1 refl
      (then_to (findings_to findings) (then_to (sites_to margin spans compares ranks) (record { is = refl })))))

-- The page between its frame, as one list of parts.
use Rattle.std.specs.Prelude.{◌≡◌, ℕ, ◌+◌, List, [], ◌∷◌, ◌++◌, length, Option}
use Rattle.tk_core.specs.Lists.{capped}
use Rattle.tk_odd.specs.Findings.{Told}
use Rattle.tk_odd.specs.declared.limits.Limits.{Limits}
use Rattle.tk_series.specs.Limited.{LimitedView}
use Rattle.tk_sites.specs.declared.sums.Sums.{Sums}
use Rattle.tk_sites.specs.declared.times.SiteTimes.{SiteTimes}
use Rattle.tk_stream.specs.Tables.{TablesView}
use Rattle.tk_paper.specs.Pieces.{Writes}
use Rattle.tk_paper.specs.Escaping.{PaperView}
use Rattle.tk_paper.specs.Parts.{Bit, close, start}
use Rattle.tk_paper.specs.declared.marks.Tag.TheVariants as tags
use Rattle.tk_page.specs.declared.blamed.Blamed.{Blamed}
use Rattle.tk_page.specs.declared.figures.Scale.{Scale}
use Rattle.tk_page.specs.declared.oddities.Signs.{Signs}
use Rattle.tk_page.specs.declared.ranks.Rank.{Rank}
use Rattle.tk_page.specs.declared.strips.Height.{Height}
use Rattle.tk_page.specs.Banner.{banner}
use Rattle.tk_page.specs.Charges.{Places}
use Rattle.tk_page.specs.Courses.{Courses}
use Rattle.tk_page.specs.Cards.{odd_section}
use Rattle.tk_page.specs.Figures.{watched}
use Rattle.tk_page.specs.Heads.{header, start_of}
use Rattle.tk_page.specs.Items.{resources_section}
use Rattle.tk_page.specs.Odd.{AreSigns}
use Rattle.tk_page.specs.Ranks.{AreSiteRanks}
use Rattle.tk_page.specs.Rows.{AreRanks, tasks_section}
use Rattle.tk_page.specs.Sites.{sites_section}
use Rattle.tk_page.specs.Strips.{most_waited, steps_of}

-- how many tasks came: those that are there, and those that left
abbrev pub came : Courses → TablesView → ℕ
came courses tables = capped (length tables.tasks + courses.gone)

-- the sections of a page, from what holds now on
abbrev pub sections : List ℕ → Scale → Signs → Courses → List Blamed → Option (LimitedView SiteTimes) → Places → LimitedView Sums → TablesView → List Rank → List Rank → Height → List Bit
sections title scale signs courses blamed times held sites tables site_ranks ranks height =
    banner signs courses.lines tables
    ++ (header title (watched scale) courses.lines courses.gone tables
    ++ (start tags.Main ∷ [] ++ (odd_section scale signs courses tables
    ++ (sites_section (came courses tables) times held sites site_ranks
    ++ (tasks_section scale signs courses blamed tables ranks height ++ (resources_section scale tables ++ close tags.Main ∷ []))))))

-- the sections were put
pub record DrawsSections (title : List ℕ) (scale : Scale) (signs : Signs) (courses : Courses) (blamed : List Blamed) (times : Option (LimitedView SiteTimes)) (held : Places) (sites : LimitedView Sums) (tables : TablesView) (old new : PaperView) : Type 0 where
  pub site_ranks : List Rank
  pub sites_ranked : AreSiteRanks sites.first site_ranks
  pub ranks : List Rank
  pub ranked : AreRanks scale signs tables.tasks ranks
  pub height : Height
  pub most : height.most ≡ most_waited (steps_of scale.start courses.sums courses.last)
  pub wrote : Writes old new (sections title scale signs courses blamed times held sites tables site_ranks ranks height)

-- the time that a page shows
abbrev pub scale_of : Courses → TablesView → Scale
scale_of courses tables = record { start = start_of courses.first tables.tasks; now = tables.now }

-- the page of tables, their courses, who waited for whom, their places and what is odd was put
pub record DrawsPage (title : List ℕ) (limits : Limits) (findings : List Told) (courses : Courses) (blamed : List Blamed) (times : Option (LimitedView SiteTimes)) (held : Places) (sites : LimitedView Sums) (tables : TablesView) (old new : PaperView) : Type 0 where
  pub signs : Signs
  pub looked : AreSigns limits findings tables signs
  pub sections : DrawsSections title (scale_of courses tables) signs courses blamed times held sites tables old new

-- What a page is drawn of besides tables: the courses of their tasks, and what is told of the lines.
use Rattle.std.specs.Prelude.{◌≡◌, ℕ, List, length, slice_get, unwrap_or}
use Rattle.tk_core.specs.Lists.{capped}
use Rattle.tk_paper.specs.Courses.{CourseView, IsCourse}
use Rattle.tk_stream.specs.Tables.{TablesView}
use Rattle.tk_page.specs.declared.history.History.{History}
use Rattle.tk_page.specs.declared.sample.Sample.{Sample}
use Rattle.tk_page.specs.Kept.{first_of, gone_of, kept_of, samples_of, total_of, totals_of}

-- the samples that are kept of each task, by its id; those of what all tasks gained, and the last of them; how many lines there
-- were, the moment of the first, and how many tasks have left
pub record Courses : Type 0 where
  pub kept : ℕ → List Sample
  pub sums : List Sample
  pub last : Sample
  pub lines : ℕ
  pub first : ℕ
  pub gone : ℕ

-- the courses of a history
abbrev pub courses_of : History → Courses
courses_of h = record {
  kept = kept_of h;
  sums = h.sums.kept;
  last = h.last;
  lines = length h.moments.items;
  first = unwrap_or (slice_get h.moments.items 0) 0;
  gone = h.gone;
}

-- the samples that are kept of a task are a course of these
pub record AreKept (xs kept : List Sample) : Type 0 where
  pub course : CourseView Sample
  pub is : IsCourse xs course
  pub shows : kept ≡ course.kept

-- courses tell of the tables after each line: how many there are, when the first was, of each task the course of just its lines, the
-- course of what all tasks had gained, and how many tasks have left
pub record TellOf (shown : List TablesView) (courses : Courses) : Type 0 where
  pub lines : courses.lines ≡ length shown
  pub first : courses.first ≡ first_of shown
  pub kept : (id : ℕ) → AreKept (samples_of id shown) (courses.kept id)
  pub sums : AreKept (totals_of shown) courses.sums
  pub last : courses.last ≡ total_of shown
  pub gone : courses.gone ≡ capped (gone_of shown)

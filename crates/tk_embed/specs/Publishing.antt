-- What a program publishes through the exports: the entries that it gives for each line, and the stream that the lines make.
use Rattle.std.specs.Prelude.{◌≡◌, ℕ, nat_eq, Bool, true, false, if◌then◌else◌, List, [], ◌∷◌, ◌++◌, length, map, take, Option, Some, None}
use Rattle.std.specs.Option.{option_map}
use Rattle.std.specs.List.{AllByRecursion, IsDistinct, flat_map}
use Rattle.tk_stream.specs.Applied.{times_kind, BeginWith}
use Rattle.tk_stream.specs.Retention.{prune}
use Rattle.tk_stream.specs.Lines.{LineView, gone_between, told_times, with_times}
use Rattle.tk_stream.specs.Spelling.{sent_text}
use Rattle.tk_stream.specs.Streams.{Sending}
use Rattle.tk_stream.specs.Tables.{TablesView, AreDistinct, staying}
use Rattle.tk_stream.specs.Times.{TaskTimes, times_id, same_times}
use Rattle.tk_embed.specs.declared.entries.Head.{Head}
use Rattle.tk_embed.specs.declared.entries.OpEntry.{OpEntry}
use Rattle.tk_embed.specs.declared.entries.ResourceEntry.{ResourceEntry}
use Rattle.tk_embed.specs.declared.entries.TaskEntry.{TaskEntry}
use Rattle.tk_embed.specs.declared.entries.TimesEntry.{TimesEntry}
use Rattle.tk_embed.specs.Entries.{Given, HaveItems, AreTables, told_of, times_entry_shown}
use Rattle.tk_embed.specs.Faults.{told_count}
use Rattle.tk_embed.specs.LeftOut.{LeftOut, leaving_out, StayTheSame, AreUnchanged, AreStaying}
use Rattle.tk_embed.specs.Lines.{IsSnapshotFor, IsChangeFor, IsGoneFor, times_between}

-- each row of an entry is sixteen words, as its type has it
pub record AreSixteen (given : Given) : Type 0 where
  pub tasks : AllByRecursion (λ (e : TaskEntry). (length e.row ≡ 16) × (length e.told ≡ 16)) given.tasks
  pub resources : AllByRecursion (λ (e : ResourceEntry). (length e.row ≡ 16) × (length e.told ≡ 16)) given.resources
  pub ops : AllByRecursion (λ (e : OpEntry). (length e.row ≡ 16) × (length e.told ≡ 16)) given.ops

-- which line is asked for: one of what changed, one that tells all, or one of what leaves after so many nanoseconds
pub data How : Type 0 where
  changes : How
  everything : How
  leaving : ℕ → How

-- histograms that were given for a line, of which the first so many were told
pub record TimesGiven : Type 0 where
  pub told : ℕ
  pub entries : List TimesEntry

-- one line of a program: what it asked for, the head and the entries that it gave, and the histograms where its line tells such, the
-- text that the export wrote, and the tables of all items and the histograms of all tasks that are shown from then on
pub record Publishing : Type 0 where
  pub how : How
  pub head : Head
  pub given : Given
  pub times : Option TimesGiven
  pub text : List ℕ
  pub after : TablesView
  pub times_after : List TaskTimes

-- a line with the histograms that were given for it, where it tells such
abbrev pub line_given : Head → Option TimesGiven → LineView → LineView
line_given head None line = line
line_given head (Some t) line = with_times (times_between (told_count head t.told) t.entries) line

-- the text is that of such a line, with its histograms
abbrev pub IsGivenText : Publishing → (LineView → Type 0) → Type 0
IsGivenText p Holds = (line : LineView) × Holds line × (p.text ≡ sent_text (line_given p.head p.times line))

-- histograms with a line of what changed: those that are given leave some out, and what they leave out is as it was; where none are given none changed
abbrev pub ChangeTimes : List TaskTimes → Option TimesGiven → List TaskTimes → Type 0
ChangeTimes before None after = after ≡ before
ChangeTimes before (Some t) after = (left : List ℕ)
    × (map (times_entry_shown false) (take t.told t.entries) ≡ staying times_id left before)
    × (map (times_entry_shown true) t.entries ≡ staying times_id left after)
    × StayTheSame times_id same_times left before after

-- histograms with a line that tells all
abbrev pub AreAllTimes : Option TimesGiven → List TaskTimes → Type 0
AreAllTimes None after = after ≡ []
AreAllTimes (Some t) after = map (times_entry_shown true) t.entries ≡ after

-- a line of what changed: the entries leave out items, and what they leave out is as it was
pub record PublishesChanges (before : TablesView) (times_before : List TaskTimes) (p : Publishing) : Type 0 where
  pub left : LeftOut
  pub sixteen : AreSixteen p.given
  pub plain : p.head.snapshot ≡ false
  pub told : HaveItems false (told_of p.head p.given) (leaving_out left before)
  pub now : AreTables true p.head p.given (leaving_out left p.after)
  pub unchanged : AreUnchanged left before p.after
  pub times : ChangeTimes times_before p.times p.times_after
  pub written : IsGivenText p (IsChangeFor p.head p.given)

-- a line that tells all: the entries leave nothing out
pub record PublishesAll (p : Publishing) : Type 0 where
  pub sixteen : AreSixteen p.given
  pub whole : p.head.snapshot ≡ true
  pub now : AreTables true p.head p.given p.after
  pub times : AreAllTimes p.times p.times_after
  pub written : IsGivenText p (IsSnapshotFor p.head p.given)

-- a line of what leaves: the entries are those of items as the line before told them, and what they leave out stays. Histograms leave
-- with their tasks
pub record PublishesLeaving (retention : ℕ) (before : TablesView) (times_before : List TaskTimes) (p : Publishing) : Type 0 where
  pub left : LeftOut
  pub sixteen : AreSixteen p.given
  pub plain : p.head.snapshot ≡ false
  pub untimed : p.times ≡ None
  pub times : p.times_after ≡ staying times_id (gone_between before p.after).tasks times_before
  pub now : AreTables true p.head p.given (leaving_out left (record before { now = p.head.moment }))
  pub distinct : AreDistinct before
  pub staying : AreStaying left before p.head.moment retention
  pub written : IsGoneFor p.head retention p.given p.text
  pub after : p.after ≡ prune (record before { now = p.head.moment }) before p.head.moment retention

-- a line is published as it was asked for
abbrev pub IsPublishedAs : How → TablesView → List TaskTimes → Publishing → Type 0
IsPublishedAs changes before times p = PublishesChanges before times p
IsPublishedAs everything before times p = PublishesAll p
IsPublishedAs (leaving retention) before times p = PublishesLeaving retention before times p

-- lines are published one after the other, each where the one before left off
abbrev pub ArePublished : TablesView → List TaskTimes → List Publishing → Type 0
ArePublished before times [] = Unit {0}
ArePublished before times (p ∷ ps) = IsPublishedAs p.how before times p × ArePublished p.after p.times_after ps

-- histograms go on: those after a line are of distinct tasks, and with a line of what changed they begin with those before
abbrev pub TimesGoOn : List TaskTimes → List Publishing → Type 0
TimesGoOn before [] = Unit {0}
TimesGoOn before (p ∷ ps) = IsDistinct nat_eq (map times_id p.times_after) × (p.how ≡ changes → BeginWith times_kind before p.times_after) × TimesGoOn p.times_after ps

-- the histograms of all tasks after these lines
abbrev pub times_published : List TaskTimes → List Publishing → List TaskTimes
times_published times [] = times
times_published times (p ∷ ps) = times_published p.times_after ps

-- the bytes that were published
abbrev pub bytes_published : List Publishing → List ℕ
bytes_published ps = flat_map (λ (p : Publishing). p.text) ps

-- whether a line says what is gone
abbrev pub removes : How → Bool
removes changes = false
removes everything = false
removes (leaving retention) = true

-- the histograms that a line tells, where it tells such: those that are new or others now, and of a snapshot all
abbrev pub told_by : Bool → List TaskTimes → Option TimesGiven → List TaskTimes → Option (List TaskTimes)
told_by snapshot before times after = option_map (λ (t : TimesGiven). told_times (if snapshot then [] else before) after) times

-- the line of a stream that is meant
abbrev pub sending_of : List TaskTimes → Publishing → Sending
sending_of times p = record { tables = p.after; seq = p.head.seq; snapshot = p.head.snapshot; removes = removes p.how; told = told_by p.head.snapshot times p.times p.times_after }

-- the stream that is meant, where these histograms were told before
abbrev pub sendings : List TaskTimes → List Publishing → List Sending
sendings times [] = []
sendings times (p ∷ ps) = sending_of times p ∷ sendings p.times_after ps

-- What is odd, in words with what to do.
use Rattle.std.specs.Prelude.{ℕ, ◌-◌, ◌==◌, nat_lt, Bool, ◌||◌, not, Option, Some, None, if◌then◌else◌, List, [], ◌∷◌, ◌++◌, codes, length, flat_map}
use Rattle.std.specs.List.{list_any}
use Rattle.std.specs.Option.{option_and_then}
use Rattle.std.specs.Str.{is_utf8}
use Rattle.tk_odd.specs.Findings.{victim_of}
use Rattle.tk_odd.specs.Words.{advice_of, after_of, before_of, said_of, shape_of, sign_of}
use Rattle.tk_odd.specs.declared.words.Shape.{Shape}
use Rattle.tk_odd.specs.declared.words.Shape.TheVariants.{Held, Alone, Stretch, Lasting, Longest, Share}
use Rattle.tk_odd.specs.declared.finding.Finding.{Finding}
use Rattle.tk_odd.specs.declared.finding.Found.{Found}
use Rattle.tk_odd.specs.declared.finding.OddKind.{OddKind}
use Rattle.tk_stream.specs.Spelling.{kind_text}
use Rattle.tk_stream.specs.Tables.{TablesView, task_with}
use Rattle.tk_stream.specs.declared.tables.task.Task.{Task}
use Rattle.tk_paper.specs.Parts.{Bit, text, number, count, share, span, opens, ends, close, start, class, having, having_number}
use Rattle.tk_paper.specs.declared.marks.Attr.TheVariants as attrs
use Rattle.tk_paper.specs.declared.marks.Tag.TheVariants as tags
use Rattle.tk_page.specs.declared.figures.Scale.{Scale}
use Rattle.tk_page.specs.declared.oddities.Signs.{Signs}
use Rattle.tk_page.specs.declared.sample.Sample.{Sample}
use Rattle.tk_page.specs.Badges.{class_of, icon_of, section}
use Rattle.tk_page.specs.Courses.{Courses}
use Rattle.tk_page.specs.Figures.{each_of, share_of}
use Rattle.tk_page.specs.Odd.{carded}
use Rattle.tk_page.specs.Places.{id, more}
use Rattle.tk_page.specs.Waiting.{waits_from_last_wake}

-- ---- who

-- a task's name, as a link to its row
abbrev pub link : Task → List Bit
link t = opens tags.A ∷ having_number attrs.Href t.info.id ∷ ends ∷ text t.info.name ∷ close tags.A ∷ []

-- the task that a finding names, where it is still there
abbrev pub task_of : List Task → Finding → Option Task
task_of tasks f = option_and_then (λ n. task_with n tasks) f.task

-- who a finding is about that names no task, or one that has left
abbrev pub no_task : Option ℕ → List Bit
no_task None = text (codes "Tasks") ∷ []
no_task (Some n) = text (codes "A task that has left, ") ∷ id n

-- who a finding is about that names this task, or none that is there
abbrev pub who : Option Task → Option ℕ → List Bit
who None named = no_task named
who (Some t) named = link t

-- the place of a task that has left
abbrev pub place_of : List ℕ → List Bit
place_of place =
    if (length place == 0) || not (is_utf8 place) then [] else text (codes " It was of this place: ") ∷ text place ∷ text (codes ".") ∷ []

-- where a task was made
abbrev pub made_at : Task → List Bit
made_at t =
    text (codes " It was made at ") ∷ text t.info.location.file ∷ text (codes ":") ∷ number t.info.location.line ∷ text (codes ":") ∷ number t.info.location.column
    ∷ text (codes ", kind ") ∷ text (kind_text t.info.kind) ∷ text (codes ".") ∷ []

-- the same, or the place of one that isn't there
abbrev pub made : List ℕ → Option Task → List Bit
made place None = place_of place
made place (Some t) = made_at t

-- ---- a card

-- the beginning of a card, with its sign
abbrev pub start_card : OddKind → List Bit
start_card kind =
    class tags.Li (class_of (sign_of kind)) ∷ start tags.H3 ∷ opens tags.Span ∷ having attrs.Class (codes "icon") ∷ having attrs.AriaHidden (codes "true") ∷ ends
    ∷ text (icon_of (sign_of kind)) ∷ close tags.Span ∷ text (codes " ") ∷ []

-- its end, with what to do
abbrev pub end_card : OddKind → List Bit
end_card kind =
    close tags.P ∷ class tags.P (codes "do") ∷ text (codes "What to do: ") ∷ text (advice_of kind) ∷ text (codes ".") ∷ close tags.P ∷ close tags.Li ∷ []

-- whether it holds now
abbrev pub when_of : Bool → List ℕ
when_of is_now = if is_now then codes "now" else codes "earlier"

-- what is said of them, and when it holds
abbrev pub said : Bool → OddKind → List Bit
said is_now kind =
    text (codes " ") ∷ text (said_of is_now kind) ∷ text (codes " ") ∷ start tags.Small ∷ text (when_of is_now) ∷ close tags.Small ∷ close tags.H3 ∷ start tags.P ∷ []

-- for how long a task ran while no other was polled, where one did
abbrev pub alone : ℕ → List Bit
alone still = if still == 0 then [] else text (codes " No other task was polled while it ran for ") ∷ span still ∷ text (codes ".") ∷ []

-- how long a poll took, which is known to have taken so long at least
abbrev pub longest : ℕ → List Bit
longest time = text (codes ". A poll of it took at least ") ∷ span time ∷ text (codes ".") ∷ []

-- a time between its words
abbrev pub timed : List ℕ → ℕ → List ℕ → List Bit
timed before time after = text before ∷ text (codes " ") ∷ span time ∷ text after ∷ []

-- from when to when there were such steps
abbrev pub steps : Scale → Finding → List Bit
steps scale f = text (codes "Between ") ∷ span (f.since - scale.start) ∷ text (codes " and ") ∷ span (f.until - scale.start) ∷ text (codes " ") ∷ []

-- since when it has lasted, and for how long
abbrev pub lasting : Scale → Finding → List ℕ → List ℕ → List Bit
lasting scale f before after =
    text before ∷ text (codes " since ") ∷ span (f.since - scale.start) ∷ text (codes ", for ") ∷ span f.figure ∷ text after ∷ text (codes ".") ∷ []

-- how many of how many, and their share
abbrev pub part : Finding → List ℕ → List ℕ → List Bit
part f before after =
    count f.figure ∷ text (codes " ") ∷ text before ∷ text (codes " ") ∷ count f.of ∷ text after ∷ text (codes ", ") ∷ share (share_of f.figure f.of) ∷ text (codes ".") ∷ []

-- what is told of a finding whose figures are these. Of a stretch, tasks waited for as long as the limit at least
abbrev pub facts_of : Shape → Scale → ℕ → Finding → List ℕ → List ℕ → List Bit
facts_of Held scale long f before after = steps scale f ++ (timed before f.figure after ++ (longest f.longest ++ alone f.still))
facts_of Alone scale long f before after = timed before f.figure after ++ longest f.longest
facts_of Stretch scale long f before after = steps scale f ++ (timed before long after ++ text (codes ".") ∷ [])
facts_of Lasting scale long f before after = lasting scale f before after
facts_of Longest scale long f before after = timed before f.figure after ++ text (codes ".") ∷ []
facts_of Share scale long f before after = part f before after

-- what is told of a finding of this kind
abbrev pub facts : Scale → ℕ → OddKind → Finding → List Bit
facts scale long kind f = facts_of (shape_of kind) scale long f (before_of kind) (after_of kind)

-- of how many tasks more of the place the same holds
abbrev pub others : ℕ → List Bit
others tasks = if nat_lt 1 tasks then text (codes " The same holds of ") ∷ count (tasks - 1) ∷ text (codes " more of its place.") ∷ [] else []

-- who waited longest for it
abbrev pub whom : Option (List ℕ × ℕ) → List Bit
whom None = []
whom (Some (victim, time)) =
    if is_utf8 victim
    then text (codes " The largest part was waited by tasks of this place, at least ") ∷ span time ∷ text (codes ": ") ∷ text victim ∷ text (codes ".") ∷ []
    else []

-- the card of a finding
abbrev pub card_of : Scale → ℕ → List Task → List ℕ → Finding → Option (List ℕ × ℕ) → List Bit
card_of scale long tasks place f victim =
    start_card f.kind ++ (who (task_of tasks f) f.task ++ (said f.is_now f.kind ++ (facts scale long f.kind f
    ++ (whom victim ++ (others f.tasks ++ (made place (task_of tasks f) ++ end_card f.kind))))))

-- the same, with the place that it is about, and who waited for it
abbrev pub card : Scale → ℕ → List Task → Found → List Bit
card scale long tasks x = card_of scale long tasks x.place.items x.finding (victim_of x.victim)

-- ---- all cards

-- what so many findings are called
abbrev pub findings_word : ℕ → List ℕ
findings_word n = if n == 1 then codes " finding" else codes " findings"

-- there are so many findings: the first 20 have cards
abbrev pub all_odd : Scale → Signs → List Task → List Bit
all_odd scale signs tasks =
    class tags.Span (codes "count") ∷ count (length signs.findings.items) ∷ text (findings_word (length signs.findings.items)) ∷ close tags.Span
    ∷ close tags.H2 ∷ class tags.Ul (codes "odd") ∷ []
    ++ (flat_map (card scale signs.limits.long tasks) (carded signs) ++ (close tags.Ul ∷ [] ++ (more (length signs.findings.items) 20 (codes " more") ++ close tags.Section ∷ [])))

-- ---- nothing is odd

-- how long tasks waited for a poll in the mean
abbrev pub mean_wait : Sample → List Bit
mean_wait all =
    if all.polls == 0 then text (codes " No task was polled.") ∷ [] else
    text (codes " In the mean tasks waited ") ∷ span (each_of all.sched all.polls) ∷ text (codes " for a poll.") ∷ []

-- that they may have waited longer, where each wait is counted from its last wake alone
abbrev pub unsure : Bool → List Bit
unsure late = if late then text (codes " They may have waited longer, since this stream counts each wait from its last wake.") ∷ [] else []

-- nothing is odd, and the number that shows it
abbrev pub calm : ℕ → Sample → Bool → List Bit
calm long all late =
    class tags.P (codes "fine") ∷ text (codes "Nothing: no poll is known to have taken ") ∷ span long ∷ text (codes ".") ∷ []
    ++ (mean_wait all ++ (unsure late ++ close tags.P ∷ []))

-- nothing is odd about a task in itself, and the lines span too little time for more
abbrev pub unseen : ℕ → ℕ → List Bit
unseen time long =
    class tags.P (codes "note") ∷ text (codes "Nothing is odd about a task in itself. Who held up others can't be seen: the lines span ") ∷ span time
    ∷ text (codes ", and it takes at least ") ∷ span long ∷ text (codes ".") ∷ close tags.P ∷ []

-- either, by how long the time is that the lines span
abbrev pub calm_or_unseen : ℕ → ℕ → Sample → Bool → List Bit
calm_or_unseen time long all late = if nat_lt time long then unseen time long else calm long all late

abbrev pub nothing_odd : ℕ → ℕ → Sample → Bool → List Bit
nothing_odd time long all late = close tags.H2 ∷ [] ++ (calm_or_unseen time long all late ++ close tags.Section ∷ [])

-- ---- the section

-- what is odd about tasks
abbrev pub what_is_odd : Scale → Signs → Courses → TablesView → List Bit
what_is_odd scale signs courses tables =
    if length signs.findings.items == 0
    then nothing_odd (tables.now - courses.first) signs.limits.long courses.last (list_any waits_from_last_wake tables.tasks)
    else all_odd scale signs tables.tasks

-- the section of what is odd
abbrev pub odd_section : Scale → Signs → Courses → TablesView → List Bit
odd_section scale signs courses tables = section (codes "odd") (codes "What is odd ") ++ what_is_odd scale signs courses tables

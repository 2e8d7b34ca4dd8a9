-- Strips: a course of time, drawn.
use Rattle.std.specs.Prelude.{ℕ, ◌-◌, ◌*◌, ◌/◌, ◌==◌, nat_lt, nat_le, min, max, ◌||◌, Bool, if◌then◌else◌, List, [], ◌∷◌, ◌++◌, codes, find, fold, flat_map, Option, Some, None, unwrap_or}
use Rattle.std.specs.Option.{option_map_or}
use Rattle.tk_core.specs.Lists.{capped}
use Rattle.tk_core.specs.declared.task.row.TaskRow.{TaskRow}
use Rattle.tk_stream.specs.declared.tables.task.Task.{Task}
use Rattle.tk_paper.specs.Parts.{Bit, text, number, share, span, opens, ends, close, start, having, having_number, value, quote}
use Rattle.tk_paper.specs.declared.marks.Attr.TheVariants as attrs
use Rattle.tk_paper.specs.declared.marks.Tag.TheVariants as tags
use Rattle.tk_page.specs.declared.figures.Scale.{Scale}
use Rattle.tk_page.specs.declared.sample.Sample.{Sample}
use Rattle.tk_page.specs.declared.sample.Step.{Step}
use Rattle.tk_page.specs.declared.boxes.Area.{Area}
use Rattle.tk_page.specs.declared.boxes.Boxes.{Boxes}
use Rattle.tk_page.specs.declared.boxes.Boxes.TheVariants as which
use Rattle.tk_page.specs.declared.peaks.Doing.{Doing}
use Rattle.tk_page.specs.declared.peaks.Doing.TheVariants as doing
use Rattle.tk_page.specs.Figures.{mean_of, share_of, watched, wide_of, x_of}
use Rattle.tk_page.specs.Odd.{is_lost}
use Rattle.tk_page.specs.Samples.{nothing, sample_of, step_of, time_of}

-- ---- steps

-- the steps between samples from one on; those that take no time are left out
abbrev pub steps_from : Sample → List Sample → List Step
steps_from before [] = []
steps_from before (s ∷ ss) = (if nat_lt before.now s.now then step_of before s ∷ [] else []) ++ steps_from s ss

-- the steps between samples, from nothing at a moment to the last
abbrev pub steps_of : ℕ → List Sample → Sample → List Step
steps_of born samples last = steps_from (nothing born) (samples ++ last ∷ [])

-- the greatest number of wakes in a step
abbrev pub most_wakes : List Step → ℕ
most_wakes steps = fold (λ most step. max step.wakes most) 0 steps

-- ---- boxes

-- the busy share of a step, of 16: at least 1 where there is any
abbrev pub busy_height : Step → ℕ
busy_height step = if nat_lt 0 step.busy then max (share_of step.busy (time_of step) * 16 / 1000) 1 else 0

-- the waiting share stands on it, as far as there is room: at least 1 where it is a fiftieth or more
abbrev pub wait_height : Step → ℕ
wait_height step =
    let part = share_of step.sched (time_of step) in
    min (if nat_le 20 part then max (part * 16 / 1000) 1 else part * 16 / 1000) (16 - busy_height step)

-- a mark of so many of at most so many, of 5: at least 1 where there is any
abbrev pub mark_height : ℕ → ℕ → ℕ
mark_height count most = if (count == 0) || (most == 0) then 0 else max (share_of count most * 5 / 1000) 1

-- a box of a path; none where it is empty
abbrev pub box : Area → List Bit
box area =
    if (area.high == 0) || (area.wide == 0) then [] else
    text (codes "M") ∷ number area.x ∷ text (codes " ") ∷ number area.base ∷ text (codes "v-") ∷ number area.high
    ∷ text (codes "h") ∷ number area.wide ∷ text (codes "v") ∷ number area.high ∷ text (codes "z") ∷ []

-- a mark below the area, with a gap after it where there is room
abbrev pub mark_of : ℕ → ℕ → ℕ → ℕ → Area
mark_of x wide count most = record { x = x; wide = if nat_lt 4 wide then wide - 2 else wide; base = 22; high = mark_height count most }

-- how wide a step is drawn
abbrev pub width_of : Scale → Step → ℕ
width_of scale step = x_of scale step.to - x_of scale step.from

-- the box of a step in a path
abbrev pub box_of : Scale → Boxes → Step → Area
box_of scale which.Busy step = record { x = x_of scale step.from; wide = width_of scale step; base = 16; high = busy_height step }
box_of scale which.Wait step = record { x = x_of scale step.from; wide = width_of scale step; base = 16 - busy_height step; high = wait_height step }
box_of scale (which.Wakes most) step = mark_of (x_of scale step.from) (width_of scale step) step.wakes most
box_of scale (which.Own most) step = mark_of (x_of scale step.from) (width_of scale step) step.own most

-- the boxes of a path, in the order of the steps
abbrev pub boxes : Scale → Boxes → List Step → List Bit
boxes scale kind steps = flat_map (λ step. box (box_of scale kind step)) steps

-- a path
abbrev pub path : Scale → List ℕ → Boxes → List Step → List Bit
path scale class kind steps =
    opens tags.Path ∷ having attrs.Class class ∷ value attrs.D ∷ [] ++ (boxes scale kind steps ++ quote ∷ ends ∷ close tags.Path ∷ [])

-- the paths of a strip, where at most so many wakes are in a step
abbrev pub paths_of : Scale → ℕ → List Step → List Bit
paths_of scale most steps =
    path scale (codes "busy") which.Busy steps ++ (path scale (codes "wait") which.Wait steps
    ++ (path scale (codes "wake") (which.Wakes most) steps ++ path scale (codes "own") (which.Own most) steps))

-- the paths of a strip
abbrev pub paths : Scale → List Step → List Bit
paths scale steps = paths_of scale (most_wakes steps) steps

-- ---- a strip

-- a rectangle of the area's height
abbrev pub rect : List ℕ → ℕ → ℕ → List Bit
rect class x wide =
    opens tags.Rect ∷ having attrs.Class class ∷ having_number attrs.X x ∷ having_number attrs.Width wide ∷ having_number attrs.Height 16
    ∷ ends ∷ close tags.Rect ∷ []

-- the beginning of a drawing of so many units
abbrev pub drawing : List ℕ → ℕ → ℕ → List Bit
drawing class wide high =
    opens tags.Svg ∷ having attrs.Class class ∷ value attrs.ViewBox ∷ text (codes "0 0 ") ∷ number wide ∷ text (codes " ") ∷ number high
    ∷ quote ∷ having attrs.Preserve (codes "none") ∷ []

-- what a script tells of a step: where it begins, the busy and the waiting share of its time in thousandths, its wakes, and those of its own
abbrev pub reading : Scale → Step → List Bit
reading scale step =
    number (x_of scale step.from) ∷ text (codes ",") ∷ number (share_of step.busy (time_of step)) ∷ text (codes ",")
    ∷ number (share_of step.sched (time_of step)) ∷ text (codes ",") ∷ number step.wakes ∷ text (codes ",") ∷ number step.own ∷ text (codes ";") ∷ []

-- the same of all steps of a strip. Each ends where the next begins, and the last at the page's right
abbrev pub readings : Scale → List Step → List Bit
readings scale steps = value attrs.DataSteps ∷ [] ++ (flat_map (reading scale) steps ++ quote ∷ [])

-- the share of a step that a task was busy or waited, in thousandths
abbrev pub part_of : Doing → Step → ℕ
part_of doing.Busy step = share_of step.busy (time_of step)
part_of doing.Waiting step = share_of step.sched (time_of step)

-- the greatest such share
abbrev pub most_part : Doing → List Step → ℕ
most_part kind steps = fold (λ most step. max (part_of kind step) most) 0 steps

-- the first step that has such a share; none where it is 0
abbrev pub step_with : Doing → ℕ → List Step → Option Step
step_with kind n steps = if n == 0 then None else find (λ step. part_of kind step == n) steps

-- the first step that has the greatest: none where a task did so in no step
abbrev pub peak : Doing → List Step → Option Step
peak kind steps = step_with kind (most_part kind steps) steps

-- what a task did most
abbrev pub doing_words : Doing → List ℕ
doing_words doing.Busy = codes ". Busiest between "
doing_words doing.Waiting = codes ". Waited most between "

-- from when to when that was, and the share of it
abbrev pub peak_words : Scale → Doing → Step → List Bit
peak_words scale kind step =
    text (doing_words kind) ∷ span (step.from - scale.start) ∷ text (codes " and ") ∷ span (step.to - scale.start) ∷ text (codes ": ") ∷ share (part_of kind step) ∷ []

-- the same where there is such a step
abbrev pub peak_said : Scale → Doing → List Step → List Bit
peak_said scale kind steps = option_map_or (peak_words scale kind) (peak kind steps) []

-- the busy and the waiting share of the time that is shown
abbrev pub shares_said : Scale → Task → Sample → List Bit
shares_said scale t last =
    having attrs.Role (codes "img") ∷ value attrs.AriaLabel ∷ text t.info.name ∷ text (codes ": busy ") ∷ share (share_of last.busy (watched scale))
    ∷ text (codes ", waiting ") ∷ share (share_of last.sched (watched scale)) ∷ text (codes " of ") ∷ span (watched scale) ∷ []

-- what a strip says in words: for which share of the time a task was busy and waited, and when most
abbrev pub words : Scale → Task → Sample → List Step → List Bit
words scale t last steps =
    shares_said scale t last ++ (peak_said scale doing.Busy steps ++ (peak_said scale doing.Waiting steps ++ quote ∷ ends ∷ []))

-- for how long a task was there
abbrev pub alive : Scale → TaskRow → List Bit
alive scale x = rect (codes "alive") (x_of scale x.created) (max (x_of scale (unwrap_or x.dropped scale.now) - x_of scale x.created) 1)

-- from when on nobody could wake it
abbrev pub lost : Scale → TaskRow → List Bit
lost scale x = rect (codes "lost") (x_of scale (unwrap_or x.last_ended x.created)) (wide_of scale - x_of scale (unwrap_or x.last_ended x.created))

-- the same where nobody can
abbrev pub lost_if : Scale → TaskRow → Bool → List Bit
lost_if scale x lost_waker = if lost_waker then lost scale x else []

-- the strip of a task with these steps
abbrev pub strip_of : Scale → Task → Sample → List Step → Bool → List Bit
strip_of scale t last steps lost_waker =
    drawing (codes "strip") (wide_of scale) 22 ++ (readings scale steps ++ (words scale t last steps ++ (alive scale t.row ++ (lost_if scale t.row lost_waker
    ++ (paths scale steps ++ close tags.Svg ∷ [])))))

-- the strip of a task of whose course these samples are kept
abbrev pub strip : Scale → List Sample → Task → List Bit
strip scale samples t =
    strip_of scale t (sample_of t.row scale.now) (steps_of t.row.created samples (sample_of t.row scale.now)) (is_lost t)

-- ---- all tasks

-- how many tasks waited in the mean of a step, in thousandths
abbrev pub waited_in : Step → ℕ
waited_in step = mean_of step.sched (time_of step)

-- the most that waited in a step
abbrev pub most_waited : List Step → ℕ
most_waited steps = fold (λ most step. max most (waited_in step)) 0 steps

-- so many sixths of a time, rounded down
abbrev pub sixths : ℕ → ℕ → ℕ
sixths time k = capped (time * k / 6)

-- a moment of the axis
abbrev pub moment : ℕ → List Bit
moment time = start tags.Span ∷ span time ∷ close tags.Span ∷ []

-- the moments below it
abbrev pub axis : ℕ → List Bit
axis time =
    opens tags.Div ∷ having attrs.Class (codes "axis") ∷ having attrs.AriaHidden (codes "true") ∷ ends
    ∷ start tags.Span ∷ text (codes "0") ∷ close tags.Span ∷ [] ++ (moment (sixths time 1) ++ (moment (sixths time 2) ++ (moment (sixths time 3)
    ++ (moment (sixths time 4) ++ (moment (sixths time 5) ++ (moment (sixths time 6) ++ close tags.Div ∷ []))))))

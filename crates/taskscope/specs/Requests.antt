-- What words of a command line ask for.
use Rattle.std.specs.Prelude.{◌≡◌, ◌≢◌, ◌&&◌, ◌||◌, ◌*◌, min, ℕ, Bool, true, false, not, List, [], ◌∷◌, Option, Some, None, if◌then◌else◌, codes, map, nat_le, option_and_then, is_some, unwrap_or, String, IsSome}
use Rattle.std.specs.List.{list_all}
use Rattle.std.specs.Option.{option_map, option_map_or}
use Rattle.std.specs.Str.{bytes_eq}
use Rattle.clap.specs.Simple.{App, new_app, new_rule, new_shape, on_top, subcommand_of, with_rule, with_subcommand}
use Rattle.clap.specs.Kinds.{Kinds, or_else}
use Rattle.clap.specs.Faults.{fault_of}
use Rattle.clap.specs.Walk.{Row, Rule, Text, first_of, one_of}
use Rattle.clap.specs.declared.builder.action.ArgAction.TheVariants.{SetTrue}
use Rattle.clap.specs.declared.builder.value_parser.ValueParser.TheVariants as vp
use Rattle.clap.specs.declared.error.kind.ErrorKind.{ErrorKind}
use Rattle.clap.specs.declared.error.kind.ErrorKind.TheVariants as kind
use Rattle.tk_client.specs.Warnings.{LintsView, default_lints}
use Rattle.tk_report.specs.declared.options.TimesOptions.{TimesOptions}
use Rattle.tk_report.specs.declared.view.View.{View}
use Rattle.tk_report.specs.declared.view.View.TheVariants.{Report, Lint}
use Rattle.tk_frame.specs.Keys.{first_column}
use Rattle.tk_frame.specs.declared.query.Column.{Column}
use Rattle.tk_frame.specs.declared.query.Column.TheVariants.{Busy, Sched, Polls, Wakes, SelfWakes, HeldUp}
use Rattle.tk_odd.specs.declared.limits.Limits.{Limits}
use Rattle.tk_found.specs.Views.{limits_by}
use Rattle.tk_sites.specs.declared.sites_view.SitesView.{SitesView}
use Rattle.tk_sites.specs.declared.sites_view.SitesView.TheVariants.{All, One}
use Rattle.tk_metrics.specs.declared.by.By.{By}
use Rattle.tk_metrics.specs.declared.by.By.TheVariants.{Name, Id, Place}
use Rattle.taskscope.specs.Moments.{moment_of, nanos_of, number_of, time_of, units_within}
use Rattle.taskscope.specs.declared.moments.Moment.{Moment}
use Rattle.taskscope.specs.declared.moments.Moment.TheVariants.{At, BeforeEnd}
use Rattle.taskscope.specs.declared.command_line.Request.{Request}
use Rattle.taskscope.specs.declared.command_line.Request.TheVariants.{Compare, Demo, Find, Metrics, Page, PageChanges, Run, Show, Sites, Watch}
use Rattle.taskscope.specs.declared.command_line.CompareOptions.{CompareOptions}
use Rattle.taskscope.specs.declared.command_line.MetricsOptions.{MetricsOptions}
use Rattle.taskscope.specs.declared.command_line.WatchOptions.{WatchOptions}

-- ---- the words that there are

-- an option `--name N` with a default, for a number from 0 to `most`
abbrev pub number_option : Text → Text → ℕ → Rule
number_option name default most = record (new_rule name) {
  long = Some name;
  value_names = 1;
  defaults = default ∷ [];
  parser = Some (vp.Unsigned 0 most);
}

abbrev pub percent_option : Rule
percent_option = number_option (codes "self-wake-percent") (codes "50") 100

abbrev pub limit_option : Rule
limit_option = number_option (codes "never-yielded-ns") (codes "1000000000") 18446744073709551615

-- an option `--name TEXT`
abbrev pub text_option : Text → Rule
text_option name = record (new_rule name) { long = Some name; value_names = 1 }

-- an option `--name`
abbrev pub flag_option : Text → Rule
flag_option name = record (new_rule name) { long = Some name; action = Some SetTrue }

-- the file that is read in place of standard input
abbrev pub file_argument : Rule
file_argument = new_rule (codes "FILE")

-- a command that reads a file or standard input
abbrev pub reading_command : Text → App
reading_command name = with_rule (new_app name) file_argument

-- the option of how long a first poll runs before it is warned of, as a time
abbrev pub yields_option : Rule
yields_option = text_option (codes "never-yielded")

-- a command with the options of lints
abbrev pub with_lints : App → App
with_lints command = with_rule (with_rule (with_rule command percent_option) limit_option) yields_option

-- a command that reads a stream, with these
abbrev pub view_command : Text → App
view_command name = with_lints (reading_command name)

-- an option of a number from 1 on, which is there or not
abbrev pub count_option : Text → Rule
count_option name = record (new_rule name) {
  long = Some name;
  value_names = 1;
  parser = Some (vp.Unsigned 1 18446744073709551615);
}

-- the option of a moment: what comes after it is left out
abbrev pub until_option : Rule
until_option = text_option (codes "until")

-- the options of the moment since which a stream is looked at: it is named, or it is so long before the end
abbrev pub since_option : Rule
since_option = text_option (codes "since")

abbrev pub last_option : Rule
last_option = text_option (codes "last")

-- such a command that also warns of long polls and long waits, where these options are there: from how long on they are long. It tells
-- what is odd in place of warnings where it is asked to, and adds tasks up where it is said by what. It is told up to which moment, and
-- since which
abbrev pub spans_command : Text → App
spans_command name =
    let spans = with_rule (with_rule (view_command name) (text_option (codes "long-poll"))) (text_option (codes "long-wait")) in
    let odd = with_rule spans (flag_option (codes "findings")) in
    let ends = with_rule (with_rule odd (text_option (codes "by"))) until_option in
    with_rule (with_rule ends since_option) last_option

-- a command that explains a fault where it is asked to
abbrev pub explaining : App → App
explaining command = with_rule command (flag_option (codes "explain"))

-- the command that runs a script
abbrev pub run_command : App
run_command = explaining (reading_command (codes "run"))

-- the command that writes the report, with histograms, or one place by its number, where they are asked for
abbrev pub report_command : App
report_command = explaining (with_rule (with_rule (spans_command (codes "view")) (flag_option (codes "times")))
    (count_option (codes "place")))

-- the command that writes the warnings
abbrev pub lint_command : App
lint_command = explaining (spans_command (codes "lint"))

-- the later one of two streams that a page compares
abbrev pub later_argument : Rule
later_argument = new_rule (codes "AFTER")

-- the command that draws a page. Its options say what a long poll is, a title, a moment, and that a fault is explained. With an earlier
-- stream it draws what changed since
abbrev pub page_command : App
page_command =
    let titled = with_rule (with_rule (view_command (codes "page")) (text_option (codes "long-poll"))) (text_option (codes "title")) in
    explaining (with_rule (with_rule titled until_option) later_argument)

-- the command that watches a stream, with the options of what its screens show
abbrev pub shows_command : App
shows_command =
    let sorted = with_rule (view_command (codes "watch")) (text_option (codes "sort")) in
    let few = with_rule sorted (number_option (codes "rows") (codes "0") 1000000) in
    let filtered = with_rule few (text_option (codes "filter")) in
    let whole = with_rule filtered (flag_option (codes "resources")) in
    with_rule whole (text_option (codes "by"))

-- and with those of when they are drawn
abbrev pub watch_command : App
watch_command =
    let slow = with_rule shows_command (text_option (codes "every")) in
    let followed = with_rule slow (flag_option (codes "follow")) in
    let keyed = with_rule followed (flag_option (codes "keys")) in
    with_rule keyed (flag_option (codes "plain"))

-- the command that writes numbers, or keeps them in a file
abbrev pub metrics_command : App
metrics_command =
    let told_apart = with_rule (view_command (codes "metrics")) (text_option (codes "by")) in
    let kept = with_rule told_apart (text_option (codes "to")) in
    let slow = with_rule kept (text_option (codes "every")) in
    let followed = with_rule slow (flag_option (codes "follow")) in
    let few = with_rule followed (count_option (codes "series")) in
    with_rule few until_option

-- the earlier one of two streams, which must be named
abbrev pub before_argument : Rule
before_argument = record (new_rule (codes "BEFORE")) { required = true }

-- the later one: a file that is read in place of standard input
abbrev pub after_argument : Rule
after_argument = record file_argument { value_names = 1 }

-- the command that compares both
abbrev pub streams_command : App
streams_command = with_rule (with_rule (new_app (codes "compare")) before_argument) after_argument

-- and with the options of findings, and those that say what a change is
abbrev pub compare_command : App
compare_command =
    let spans = with_rule (with_lints streams_command) (text_option (codes "long-poll")) in
    let shares = with_rule spans (number_option (codes "more-than") (codes "50") 4294967295) in
    with_rule shares (text_option (codes "at-least"))

-- a command is required
abbrev pub requiring : App → App
requiring = on_top (λ s. record s { subcommand_required = true })

-- `--version` is there
abbrev pub versioned : App → App
versioned = on_top (λ s. record s { has_version = true })

abbrev pub bare : App
bare = requiring (versioned (new_app (codes "taskscope")))

-- `run`, `view` and `lint`
abbrev pub first_words : App
first_words =
    let runs = with_subcommand bare run_command.top in
    let views = with_subcommand runs report_command.top in
    with_subcommand views lint_command.top

-- these, `page`, `watch` and `metrics`
abbrev pub more_words : App
more_words =
    let pages = with_subcommand first_words page_command.top in
    let watches = with_subcommand pages watch_command.top in
    with_subcommand watches metrics_command.top

-- the program as a parse of its words reads it: these, `compare` and `demo`
abbrev pub program : App
program =
    let compares = with_subcommand more_words compare_command.top in
    with_subcommand compares (new_shape (codes "demo"))

-- ---- what they ask for

-- the number of an option
abbrev pub number_at : Text → List Row → Option ℕ
number_at name options = option_and_then number_of (one_of name options)

-- lints of numbers, of which the first is a percentage
abbrev pub lints_of : ℕ → ℕ → Option LintsView
lints_of percent limit =
    if nat_le percent 100 then Some (record { self_wake_percent = percent; never_yielded_ns = limit }) else None

abbrev pub lints_with : ℕ → Option ℕ → Option LintsView
lints_with percent = option_and_then (lints_of percent)

-- the text of an option
abbrev pub text_at : Text → List Row → Option Text
text_at name = first_of name

-- how many of a unit, from the least to the most, an option says
abbrev pub units_at : ℕ → ℕ → ℕ → Text → List Row → Option ℕ
units_at unit least most name options = option_and_then (units_within unit least most) (text_at name options)

-- from how many milliseconds on a poll is long, and a wait
abbrev pub long_poll : List Row → Option ℕ
long_poll = units_at 1000000 1 18446744073709551615 (codes "long-poll")

abbrev pub long_wait : List Row → Option ℕ
long_wait = units_at 1000000 1 18446744073709551615 (codes "long-wait")

-- how many milliseconds lie between two screens of a watch at least: up to an hour
abbrev pub screens_every : List Row → Option ℕ
screens_every = units_at 1000000 0 3600000 (codes "every")

-- how many seconds lie between two texts of a file at least: up to a day
abbrev pub texts_every : List Row → Option ℕ
texts_every = units_at 1000000000 0 86400 (codes "every")

-- how many nanoseconds of each second are a change at least
abbrev pub least_at : List Row → Option ℕ
least_at options = option_and_then nanos_of (text_at (codes "at-least") options)

-- how many nanoseconds a first poll runs before it is warned of: a time says them, or else a number
abbrev pub limit_at : List Row → Option ℕ
limit_at options = option_map_or time_of (text_at (codes "never-yielded") options) (number_at (codes "never-yielded-ns") options)

-- the lints of a command's options
abbrev pub lints_in : List Row → Option LintsView
lints_in options = option_and_then (λ percent. lints_with percent (limit_at options)) (number_at (codes "self-wake-percent") options)

-- an option is there
abbrev pub flag_at : Text → List Row → Bool
flag_at name options = option_map_or (λ text. bytes_eq text (codes "true")) (text_at name options) false

-- what a command's options ask for of poll times and waits: histograms by `--times`. `--long-poll` warns of each long poll, and
-- `--long-wait` of each long wait
abbrev pub times_in : List Row → TimesOptions
times_in options = record {
  times = flag_at (codes "times") options;
  limits = record { poll_ms = long_poll options; wait_ms = long_wait options };
}

-- how much is too much for what is odd: `--long-poll` says from when on a poll is long
abbrev pub limits_in : LintsView → List Row → Limits
limits_in lints options = limits_by lints (long_poll options)

-- an option is there that places have no part in
abbrev pub tells_no_places : List Row → Bool
tells_no_places options =
    flag_at (codes "findings") options || is_some (long_poll options)

-- a lint of findings is by place in any case, since each finding is of one place at most
abbrev pub lists_findings : View → List Row → Bool
lists_findings Report options = false
lists_findings Lint options = flag_at (codes "findings") options

-- whether tasks are added up where a view is asked for by place: not in a lint of findings, which stays as it is. There is no such view
-- beside an option that places have no part in
abbrev pub adds_up : View → List Row → Option Bool
adds_up view options = if lists_findings view options then Some false else if tells_no_places options then None else Some true

-- the same where this is what `--by` says: there is no other key
abbrev pub by_place_named : View → List Row → Text → Option Bool
by_place_named view options name = if bytes_eq name (codes "place") then adds_up view options else None

-- where `--by` is not there a view adds no tasks up by place, unless `--place` names one, which is not beside such an option either
abbrev pub by_none : List Row → Option Bool
by_none options = if is_some (number_at (codes "place") options) && tells_no_places options then None else Some false

-- whether `--by` says that a view adds tasks up by place
abbrev pub by_place_at : View → List Row → Option Bool
by_place_at view options = option_map_or (by_place_named view options) (text_at (codes "by") options) (by_none options)

-- what is shown of places: the one that `--place` names, or all where it is said so, or nothing
abbrev pub places_by : View → List Row → Bool → Option SitesView
places_by view options by_place =
    option_map_or (λ number. Some (One number)) (number_at (codes "place") options) (if by_place then Some (All view) else None)

-- a view of these tables, or of what is odd where that is asked for
abbrev pub tasks_by : View → List Row → LintsView → Request
tasks_by view options lints =
    if flag_at (codes "findings") options then Find view (limits_in lints options) (flag_at (codes "times") options) else
    Show view lints (times_in options)

-- a view of places where that is asked for, with their histograms by `--times`, and else of tasks
abbrev pub view_by : View → List Row → Bool → LintsView → Request
view_by view options by_place lints =
    option_map_or (λ places. Sites places lints (long_wait options) (flag_at (codes "times") options)) (places_by view options by_place)
    (tasks_by view options lints)

abbrev pub view_of : View → List Row → Bool → Option Request
view_of view options by_place = option_and_then (λ lints. Some (view_by view options by_place lints)) (lints_in options)

-- a view with these options
abbrev pub view_with : View → List Row → Option Request
view_with view options = option_and_then (view_of view options) (by_place_at view options)

-- the number of an option, or another where it has none
abbrev pub number_or : ℕ → Text → List Row → ℕ
number_or other name options = unwrap_or (number_at name options) other

-- the lints of options, or those where none is given
abbrev pub lints_or_plain : List Row → LintsView
lints_or_plain options = unwrap_or (lints_in options) default_lints

-- by which limits something is odd about streams that are compared, and how much more or less is a change
abbrev pub compare_by : List Row → CompareOptions
compare_by options = record {
  limits = limits_in (lints_or_plain options) options;
  margin = record {
    percent = min (number_or 50 (codes "more-than") options) 4294967295;
    least = unwrap_or (least_at options) 1000000;
  };
}

-- the later one of two streams that a page compares, if there is one
abbrev pub later_at : List Row → Option Text
later_at = text_at (codes "AFTER")

-- a page of a stream, or of what changed to a later one
abbrev pub page_by : List Row → LintsView → Request
page_by options lints = if is_some (later_at options) then PageChanges (compare_by options) else Page (limits_in lints options)

-- a page with these options
abbrev pub page_with : List Row → Option Request
page_with options = option_and_then (λ lints. Some (page_by options lints)) (lints_in options)

-- the column of a name
abbrev pub column_named : Text → Option Column
column_named name =
    if bytes_eq name (codes "busy") then Some Busy
    else if bytes_eq name (codes "sched") then Some Sched
    else if bytes_eq name (codes "polls") then Some Polls
    else if bytes_eq name (codes "wakes") then Some Wakes
    else if bytes_eq name (codes "self-wakes") then Some SelfWakes
    else if bytes_eq name (codes "held-up") then Some HeldUp
    else None

-- whether screens show places in the place of tasks, by the name of what they are told apart by
abbrev pub places_named : Text → Option Bool
places_named name = if bytes_eq name (codes "place") then Some true else None

-- whether screens show places: where nothing is said they don't
abbrev pub shows_places : List Row → Option Bool
shows_places options = option_map_or places_named (text_at (codes "by") options) (Some false)

-- the column of screens that show places, or tasks. If none is named, it is how long others waited for places, or how long tasks ran
abbrev pub column_for : List Row → Bool → Option Column
column_for options by_place = option_map_or column_named (text_at (codes "sort") options) (Some (first_column by_place))

-- by which column tasks or places are sorted. There is none where an option names nothing that there is
abbrev pub column_at : List Row → Option Column
column_at options = option_and_then (column_for options) (shows_places options)

-- what screens show and when they are drawn, by their column and these options
abbrev pub watch_by : Column → List Row → WatchOptions
watch_by sort options = record {
  sort = sort;
  by_place = unwrap_or (shows_places options) false;
  rows = number_or 0 (codes "rows") options;
  resources = flag_at (codes "resources") options;
  plain = flag_at (codes "plain") options;
  keys = flag_at (codes "keys") options;
  every = unwrap_or (screens_every options) 100;
  follow = flag_at (codes "follow") options;
  lints = lints_or_plain options;
}

-- a watch with these options
abbrev pub watch_with : List Row → Option Request
watch_with options = option_and_then (λ sort. Some (Watch (watch_by sort options))) (column_at options)

-- what tasks are told apart by, of this name
abbrev pub by_named : Text → Option By
by_named name =
    if bytes_eq name (codes "name") then Some Name
    else if bytes_eq name (codes "id") then Some Id
    else if bytes_eq name (codes "place") then Some Place
    else None

-- what tasks are told apart by: their names where nothing is said
abbrev pub by_at : List Row → Option By
by_at options = option_map_or by_named (text_at (codes "by") options) (Some Name)

-- what numbers are written and when they are put in a file, by how tasks are grouped and by these options. `--series` says how many labels
-- stand by themselves
abbrev pub metrics_by : By → List Row → MetricsOptions
metrics_by by options = record {
  apart = record { by = by; most = number_at (codes "series") options };
  every = unwrap_or (texts_every options) 10;
  follow = flag_at (codes "follow") options;
  lints = lints_or_plain options;
}

-- numbers with these options
abbrev pub metrics_with : List Row → Option Request
metrics_with options = option_and_then (λ by. Some (Metrics (metrics_by by options))) (by_at options)

-- what a command asks for, by its name and its options
abbrev pub asked_by : Text → List Row → Option Request
asked_by name options =
    if bytes_eq name (codes "run") then Some Run
    else if bytes_eq name (codes "view") then view_with Report options
    else if bytes_eq name (codes "lint") then view_with Lint options
    else if bytes_eq name (codes "page") then page_with options
    else if bytes_eq name (codes "watch") then watch_with options
    else if bytes_eq name (codes "metrics") then metrics_with options
    else if bytes_eq name (codes "compare") then Some (Compare (compare_by options))
    else if bytes_eq name (codes "demo") then Some Demo
    else None

abbrev pub asked_in : Option (Text × List Row) → Option Request
asked_in = option_and_then (λ command. asked_by command.0 command.1)

-- what the command among the words asks for
abbrev pub asked : List Text → Option Request
asked words = asked_in (subcommand_of program words)

-- the file of a command's words that is read: the later one where a page compares two
abbrev pub file_at : List Row → Option Text
file_at options = option_map_or (λ later. Some later) (later_at options) (text_at (codes "FILE") options)

abbrev pub file_in : Option (Text × List Row) → Option Text
file_in = option_and_then (λ command. file_at command.1)

-- the file that the words name, of whose bytes they speak; where they name none, they speak of standard input's
abbrev pub file_of : List Text → Option Text
file_of words = file_in (subcommand_of program words)

-- what stands in the name of each task that a watch shows, where the words say it
abbrev pub filter_in : Option (Text × List Row) → Option Text
filter_in = option_and_then (λ command. text_at (codes "filter") command.1)

abbrev pub filter_of : List Text → Option Text
filter_of words = filter_in (subcommand_of program words)

-- the path of that file, where they name one
abbrev pub file_text : List Text → Text
file_text words = unwrap_or (file_of words) []

-- the title of a page, if the words say one
abbrev pub title_in : Option (Text × List Row) → Option Text
title_in = option_and_then (λ command. text_at (codes "title") command.1)

abbrev pub title_of : List Text → Option Text
title_of words = title_in (subcommand_of program words)

-- the title that a page has: else it is the path of the file that is read, or the name of the program
abbrev pub title_text : List Text → Text
title_text words = unwrap_or (title_of words) (unwrap_or (file_of words) (codes "taskscope"))

-- the earlier stream that is read, if the words name one. It is that of a comparison, or else the first file, of which the begin is earlier
abbrev pub before_at : List Row → Option Text
before_at options = option_map_or (λ before. Some before) (text_at (codes "BEFORE") options) (text_at (codes "FILE") options)

abbrev pub before_in : Option (Text × List Row) → Option Text
before_in = option_and_then (λ command. before_at command.1)

abbrev pub before_of : List Text → Option Text
before_of words = before_in (subcommand_of program words)

-- the path of that stream
abbrev pub before_text : List Text → Text
before_text words = unwrap_or (before_of words) []

-- the file that numbers are kept in, where the words name one
abbrev pub to_in : Option (Text × List Row) → Option Text
to_in = option_and_then (λ command. text_at (codes "to") command.1)

abbrev pub to_of : List Text → Option Text
to_of words = to_in (subcommand_of program words)

-- the moment that the option of one names
abbrev pub until_at : List Row → Option Moment
until_at options = option_and_then moment_of (text_at (codes "until") options)

-- the moment up to which a stream is read, if the words name one
abbrev pub until_in : Option (Text × List Row) → Option Moment
until_in = option_and_then (λ command. until_at command.1)

abbrev pub until_of : List Text → Option Moment
until_of words = until_in (subcommand_of program words)

-- the moment so long before the end that a text says
abbrev pub moment_before_end : Text → Option Moment
moment_before_end text = option_map BeforeEnd (time_of text)

-- the moment since which a stream is looked at, if the options name one: `--last` says how long before its end
abbrev pub since_at : List Row → Option Moment
since_at options = option_map_or moment_before_end (text_at (codes "last") options)
    (option_and_then moment_of (text_at (codes "since") options))

abbrev pub since_in : Option (Text × List Row) → Option Moment
since_in = option_and_then (λ command. since_at command.1)

abbrev pub since_of : List Text → Option Moment
since_of words = since_in (subcommand_of program words)

-- the words ask that a fault is explained
abbrev pub explains_in : Option (Text × List Row) → Bool
explains_in command = option_map_or (λ c. flag_at (codes "explain") c.1) command false

abbrev pub explains : List Text → Bool
explains words = explains_in (subcommand_of program words)

-- what the words read
abbrev pub texts : {Z : Type 0} → List (String Z) → List (List ℕ)
texts = map (λ w. w.bytes.items)

-- a moment can be found: one before the end of a stream only if that is a file, which can be read twice. Where two are compared none is
abbrev pub can_be_found : List Row → Moment → Bool
can_be_found options (At moment) = not (is_some (later_at options))
can_be_found options (BeforeEnd span) = is_some (file_at options) && not (is_some (later_at options))

-- the option of a moment names none that can be found
abbrev pub names_no_moment : List Row → Bool
names_no_moment options = is_some (text_at (codes "until") options) && not (option_map_or (can_be_found options) (until_at options) false)

-- a stream is to be looked at since a moment
abbrev pub asks_since : List Row → Bool
asks_since options = is_some (text_at (codes "since") options) || is_some (text_at (codes "last") options)

-- one option says since when, and that moment can be found
abbrev pub begins_somewhere : List Row → Bool
begins_somewhere options =
    not (is_some (text_at (codes "since") options) && is_some (text_at (codes "last") options))
    && option_map_or (can_be_found options) (since_at options) false

-- one place is viewed, or a fault is to be explained
abbrev pub tells_more : List Row → Bool
tells_more options = is_some (number_at (codes "place") options) || flag_at (codes "explain") options

-- all places of a file are viewed, and no fault is to be explained
abbrev pub views_places : Text → List Row → Bool
views_places name options =
    bytes_eq name (codes "view") && (is_some (file_at options) && (is_some (text_at (codes "by") options) && not (tells_more options)))

-- what is shown can be that of a span: findings, or all places of a file, which is read twice
abbrev pub is_of_spans : Text → List Row → Bool
is_of_spans name options = flag_at (codes "findings") options || views_places name options

-- the options of the begin of a span name none that can be shown
abbrev pub names_no_span : Text → List Row → Bool
names_no_span name options = asks_since options && not (begins_somewhere options && is_of_spans name options)

-- a fault is to be explained where two streams are compared: it isn't
abbrev pub explains_two : List Row → Bool
explains_two options = is_some (later_at options) && flag_at (codes "explain") options

-- an option of a time is there, and says none
abbrev pub says_no_time : Text → Option ℕ → List Row → Bool
says_no_time name time options = is_some (text_at name options) && not (is_some time)

-- how often screens are drawn, or texts are written, by the command
abbrev pub every_at : Text → List Row → Option ℕ
every_at name options = if bytes_eq name (codes "watch") then screens_every options else texts_every options

-- an option of a limit says no time
abbrev pub names_no_limit : List Row → Bool
names_no_limit options =
    says_no_time (codes "never-yielded") (limit_at options) options
    || (says_no_time (codes "long-poll") (long_poll options) options || says_no_time (codes "long-wait") (long_wait options) options)

-- an option of a command says no time
abbrev pub names_no_time : Text → List Row → Bool
names_no_time name options =
    names_no_limit options
    || (says_no_time (codes "at-least") (least_at options) options || says_no_time (codes "every") (every_at name options) options)

-- an option of a command names nothing that there is. It is no column of a watch, no way to group tasks, or nothing that a view adds up by
abbrev pub key_names_nothing : Text → List Row → Bool
key_names_nothing name options =
    if bytes_eq name (codes "watch") then not (is_some (column_at options))
    else if bytes_eq name (codes "metrics") then not (is_some (by_at options))
    else if bytes_eq name (codes "view") then not (is_some (by_place_at Report options))
    else if bytes_eq name (codes "lint") then not (is_some (by_place_at Lint options))
    else false

-- or that of a time does, or of a moment, of a span, or of an explanation
abbrev pub option_names_nothing : Text → List Row → Bool
option_names_nothing name options =
    names_no_time name options || (names_no_moment options
    || (names_no_span name options || (explains_two options || key_names_nothing name options)))

-- so does an option of the command that the words name
abbrev pub names_nothing : Option (Text × List Row) → Bool
names_nothing command = option_map_or (λ c. option_names_nothing c.0 c.1) command false

abbrev pub name_fault : Option (Text × List Row) → Kinds
name_fault command = if names_nothing command then kind.InvalidValue ∷ [] else []

-- the kinds of error by which the words may be refused: those of a parse, or else that an option names nothing that there is. There are
-- none where the words ask for something, and only there
abbrev pub refusals : List (List ℕ) → Kinds
refusals words = or_else (fault_of program words) (name_fault (subcommand_of program words))

-- the words ask for this: they are taken, and they name it
abbrev pub AsksFor : Request → List (List ℕ) → Type 0
AsksFor request words = (refusals words ≡ []) × (asked words ≡ Some request)

-- the words ask for this, of standard input's bytes
abbrev pub AsksForInput : Request → List (List ℕ) → Type 0
AsksForInput request words = AsksFor request words × (file_of words ≡ None)

-- the words ask for this, of the bytes of a file that they name
abbrev pub AsksForFile : Request → List (List ℕ) → Type 0
AsksForFile request words = AsksFor request words × IsSome (file_of words)

-- the plainest words: the program's name, and one command
abbrev pub IsPlain : List ℕ → List (List ℕ) → Type 0
IsPlain command words = (name : List ℕ) × (words ≡ name ∷ command ∷ [])

-- what a watch is asked for where no option is given
abbrev pub plain_watch : WatchOptions
plain_watch = record {
  sort = Busy;
  by_place = false;
  rows = 0;
  resources = false;
  plain = false;
  keys = false;
  every = 100;
  follow = false;
  lints = default_lints;
}

-- which numbers are asked for where no option is given
abbrev pub plain_metrics : MetricsOptions
plain_metrics = record { apart = record { by = Name; most = None }; every = 10; follow = false; lints = default_lints }

-- the watch at keys that is asked for, if one is
abbrev pub at_keys : Request → Option WatchOptions
at_keys (Watch options) = if options.keys then Some options else None
at_keys other = None

-- the words ask for help, and make no mistake
abbrev pub AsksForHelp : List (List ℕ) → Type 0
AsksForHelp words = refusals words ≡ kind.DisplayHelp ∷ []

-- the words ask for the program's version, and make no mistake
abbrev pub AsksForVersion : List (List ℕ) → Type 0
AsksForVersion words = refusals words ≡ kind.DisplayVersion ∷ []

-- the error is a mistake in the words, and neither a text that they ask for nor want of memory
abbrev pub is_mistake : ErrorKind → Bool
is_mistake kind.DisplayHelp = false
is_mistake kind.DisplayVersion = false
is_mistake kind.OutOfMemory = false
is_mistake other = true

-- the words are a mistake, whichever kind of it a parse finds in them
abbrev pub IsMistake : List (List ℕ) → Type 0
IsMistake words = (refusals words ≢ []) × (list_all is_mistake (refusals words) ≡ true)

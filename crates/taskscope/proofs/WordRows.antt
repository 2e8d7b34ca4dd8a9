-- What words of a command line ask for, word by word.
use Rattle.std.proofs.Common.{◌≡◌, refl, ℕ, List, [], ◌∷◌, codes, false, true, true≢false, sym, ap, Some, None}
use Rattle.clap.specs.Walk.{is_empty}
use Rattle.clap.specs.declared.error.kind.ErrorKind.TheVariants.{ArgumentConflict, DisplayHelp, InvalidSubcommand, InvalidValue, MissingRequiredArgument, MissingSubcommand, UnknownArgument, ValueValidation}
use Rattle.clap.proofs.OnLiterals.{clap_on_literals}
use Rattle.jiff_fmt.proofs.OnLiterals.{jiff_fmt_on_literals}
use Rattle.tk_report.specs.Timed.{no_times}
use Rattle.tk_report.specs.declared.view.View.TheVariants.{Report, Lint}
use Rattle.tk_client.specs.Warnings.{default_lints}
use Rattle.taskscope.specs.declared.moments.Moment.TheVariants.{At, BeforeEnd}
use Rattle.taskscope.specs.declared.command_line.Request.TheVariants.{Compare, Demo, Find, Metrics, Page, PageChanges, Run, Show, Sites, Watch}
use Rattle.tk_frame.specs.declared.query.Column.TheVariants.{HeldUp, Polls, Sched}
use Rattle.tk_metrics.specs.declared.by.By.TheVariants.{Id, Place}
use Rattle.tk_sites.specs.declared.sites_view.SitesView.TheVariants.{All, One}
use Rattle.tk_found.specs.Views.{limits_by}
use Rattle.taskscope.specs.Requests.{AsksFor, AsksForHelp, AsksForInput, AsksForVersion, IsMistake, before_text, file_of, filter_of, plain_metrics, plain_watch, refusals, since_of, title_text, to_of, until_of}

-- the program is called by some name
module _ (name : List ℕ) where
  pub run : AsksForInput Run (name ∷ codes "run" ∷ [])
  unfolding clap_on_literals
  run = ((refl, refl), refl)

  pub view : AsksForInput (Show Report default_lints no_times) (name ∷ codes "view" ∷ [])
  unfolding clap_on_literals
  view = ((refl, refl), refl)

  pub lint : AsksForInput (Show Lint default_lints no_times) (name ∷ codes "lint" ∷ [])
  unfolding clap_on_literals
  lint = ((refl, refl), refl)

  pub page : AsksForInput (Page (limits_by default_lints None)) (name ∷ codes "page" ∷ [])
  unfolding clap_on_literals
  page = ((refl, refl), refl)

  pub watch : AsksForInput (Watch plain_watch) (name ∷ codes "watch" ∷ [])
  unfolding clap_on_literals
  watch = ((refl, refl), refl)

  pub metrics : AsksForInput (Metrics plain_metrics) (name ∷ codes "metrics" ∷ [])
  unfolding clap_on_literals
  metrics = ((refl, refl), refl)

  pub demo : AsksForInput Demo (name ∷ codes "demo" ∷ [])
  unfolding clap_on_literals
  demo = ((refl, refl), refl)

  a_file : AsksFor (Show Report default_lints no_times) (name ∷ codes "view" ∷ codes "a.stream" ∷ [])
  unfolding clap_on_literals
  a_file = (refl, refl)

  that_file : file_of (name ∷ codes "view" ∷ codes "a.stream" ∷ []) ≡ Some (codes "a.stream")
  unfolding clap_on_literals
  that_file = refl

  run_and_no_more : AsksFor Run (name ∷ codes "run" ∷ codes "--" ∷ [])
  unfolding clap_on_literals
  run_and_no_more = (refl, refl)

  all_wakes : AsksFor (Show Lint (record { self_wake_percent = 100; never_yielded_ns = 0 }) no_times)
      (name ∷ codes "lint" ∷ codes "--self-wake-percent" ∷ codes "100" ∷ codes "--never-yielded-ns=0" ∷ [])
  unfolding clap_on_literals
  all_wakes = (refl, refl)

  histograms_and_long_polls : AsksFor (Show Report default_lints (record { times = true; limits = record { poll_ms = Some 5; wait_ms = None } }))
      (name ∷ codes "view" ∷ codes "--times" ∷ codes "--long-poll" ∷ codes "5" ∷ [])
  unfolding clap_on_literals
  histograms_and_long_polls = (refl, refl)

  long_polls_alone : AsksFor (Show Lint default_lints (record { times = false; limits = record { poll_ms = Some 100; wait_ms = None } })) (name ∷ codes "lint" ∷ codes "--long-poll=100" ∷ [])
  unfolding clap_on_literals
  long_polls_alone = (refl, refl)

  -- what is odd, where polls of 50 milliseconds are long
  odd_from_50 : AsksFor (Find Lint (record { long = 50000000; lints = default_lints }) false)
      (name ∷ codes "lint" ∷ codes "--findings" ∷ codes "--long-poll=50" ∷ [])
  unfolding clap_on_literals
  odd_from_50 = (refl, refl)

  odd_below_a_report : AsksFor (Find Report (record { long = 100000000; lints = default_lints }) true)
      (name ∷ codes "view" ∷ codes "--times" ∷ codes "--findings" ∷ [])
  unfolding clap_on_literals
  odd_below_a_report = (refl, refl)

  the_places : AsksFor (Sites (All Report) default_lints None false) (name ∷ codes "view" ∷ codes "--by" ∷ codes "place" ∷ [])
  unfolding clap_on_literals
  the_places = (refl, refl)

  places_that_wait : AsksFor (Sites (All Lint) default_lints (Some 100) false) (name ∷ codes "lint" ∷ codes "--by=place" ∷ codes "--long-wait=100" ∷ [])
  unfolding clap_on_literals
  places_that_wait = (refl, refl)

  no_such_places : refusals (name ∷ codes "view" ∷ codes "--by" ∷ codes "name" ∷ []) ≡ InvalidValue ∷ []
  unfolding clap_on_literals
  no_such_places = refl

  one_place : AsksFor (Sites (One 4) default_lints None false) (name ∷ codes "view" ∷ codes "--place" ∷ codes "4" ∷ [])
  unfolding clap_on_literals
  one_place = (refl, refl)

  histograms_of_places : AsksFor (Sites (All Report) default_lints None true) (name ∷ codes "view" ∷ codes "--by=place" ∷ codes "--times" ∷ [])
  unfolding clap_on_literals
  histograms_of_places = (refl, refl)

  histograms_of_one_place : AsksFor (Sites (One 4) default_lints None true) (name ∷ codes "view" ∷ codes "--place=4" ∷ codes "--times" ∷ [])
  unfolding clap_on_literals
  histograms_of_one_place = (refl, refl)

  no_findings_of_one_place : refusals (name ∷ codes "view" ∷ codes "--place=4" ∷ codes "--findings" ∷ []) ≡ InvalidValue ∷ []
  unfolding clap_on_literals
  no_findings_of_one_place = refl

  -- findings are by place in any case
  findings_by_place : AsksFor (Find Lint (record { long = 50000000; lints = default_lints }) false)
      (name ∷ codes "lint" ∷ codes "--by=place" ∷ codes "--findings" ∷ codes "--long-poll=50" ∷ [])
  unfolding clap_on_literals
  findings_by_place = (refl, refl)

  no_findings_below_places : refusals (name ∷ codes "view" ∷ codes "--by=place" ∷ codes "--findings" ∷ []) ≡ InvalidValue ∷ []
  unfolding clap_on_literals
  no_findings_below_places = refl

  no_long_polls_by_place : refusals (name ∷ codes "lint" ∷ codes "--by=place" ∷ codes "--long-poll=5" ∷ []) ≡ InvalidValue ∷ []
  unfolding clap_on_literals
  no_long_polls_by_place = refl

  the_longest_waits : AsksFor (Watch (record plain_watch { sort = Sched; rows = 5; plain = true; resources = true }))
      (name ∷ codes "watch" ∷ codes "--sort=sched" ∷ codes "--rows=5" ∷ codes "--plain" ∷ codes "--resources" ∷ [])
  unfolding clap_on_literals
  the_longest_waits = (refl, refl)

  places_on_a_screen : AsksFor (Watch (record plain_watch { sort = HeldUp; by_place = true })) (name ∷ codes "watch" ∷ codes "--by=place" ∷ [])
  unfolding clap_on_literals
  places_on_a_screen = (refl, refl)

  places_by_polls : AsksFor (Watch (record plain_watch { sort = Polls; by_place = true })) (name ∷ codes "watch" ∷ codes "--by" ∷ codes "place" ∷ codes "--sort=polls" ∷ [])
  unfolding clap_on_literals
  places_by_polls = (refl, refl)

  no_screen_by_name : refusals (name ∷ codes "watch" ∷ codes "--by=name" ∷ []) ≡ InvalidValue ∷ []
  unfolding clap_on_literals
  no_screen_by_name = refl

  some_tasks : filter_of (name ∷ codes "watch" ∷ codes "--filter" ∷ codes "api" ∷ []) ≡ Some (codes "api")
  unfolding clap_on_literals
  some_tasks = refl

  no_such_column : refusals (name ∷ codes "watch" ∷ codes "--sort" ∷ codes "name" ∷ []) ≡ InvalidValue ∷ []
  unfolding clap_on_literals
  no_such_column = refl

  each_task_twice_a_minute : AsksFor (Metrics (record plain_metrics { apart = record { by = Id; most = None }; every = 30; follow = true }))
      (name ∷ codes "metrics" ∷ codes "--by=id" ∷ codes "--to" ∷ codes "tasks.prom" ∷ codes "--every=30" ∷ codes "--follow" ∷ [])
  unfolding clap_on_literals
  each_task_twice_a_minute = (refl, refl)

  each_place : AsksFor (Metrics (record plain_metrics { apart = record { by = Place; most = None } })) (name ∷ codes "metrics" ∷ codes "--by" ∷ codes "place" ∷ [])
  unfolding clap_on_literals
  each_place = (refl, refl)

  a_hundred_places : AsksFor (Metrics (record plain_metrics { apart = record { by = Place; most = Some 100 } })) (name ∷ codes "metrics" ∷ codes "--by=place" ∷ codes "--series" ∷ codes "100" ∷ [])
  unfolding clap_on_literals
  a_hundred_places = (refl, refl)

  no_series : refusals (name ∷ codes "metrics" ∷ codes "--series=0" ∷ []) ≡ ValueValidation ∷ []
  unfolding clap_on_literals
  no_series = refl

  that_place : to_of (name ∷ codes "metrics" ∷ codes "--to" ∷ codes "tasks.prom" ∷ []) ≡ Some (codes "tasks.prom")
  unfolding clap_on_literals
  that_place = refl

  no_such_key : refusals (name ∷ codes "metrics" ∷ codes "--by" ∷ codes "kind" ∷ []) ≡ InvalidValue ∷ []
  unfolding clap_on_literals
  no_such_key = refl

  a_page_where_5_ms_are_long : AsksFor (Page (limits_by default_lints (Some 5))) (name ∷ codes "page" ∷ codes "--long-poll=5" ∷ [])
  unfolding clap_on_literals
  a_page_where_5_ms_are_long = (refl, refl)

  that_title : title_text (name ∷ codes "page" ∷ codes "--title" ∷ codes "before" ∷ codes "a.stream" ∷ []) ≡ codes "before"
  unfolding clap_on_literals
  that_title = refl

  the_file_for_a_title : title_text (name ∷ codes "page" ∷ codes "a.stream" ∷ []) ≡ codes "a.stream"
  unfolding clap_on_literals
  the_file_for_a_title = refl

  up_to_a_moment : until_of (name ∷ codes "lint" ∷ codes "--until" ∷ codes "36900000000" ∷ codes "a.stream" ∷ []) ≡ Some (At 36900000000)
  unfolding clap_on_literals
  up_to_a_moment = refl

  before_the_end : until_of (name ∷ codes "view" ∷ codes "--until=12.5s" ∷ codes "a.stream" ∷ []) ≡ Some (BeforeEnd 12500000000)
  unfolding clap_on_literals jiff_fmt_on_literals
  before_the_end = refl

  before_the_end_of_an_input : refusals (name ∷ codes "view" ∷ codes "--until=12.5s" ∷ []) ≡ InvalidValue ∷ []
  unfolding clap_on_literals jiff_fmt_on_literals
  before_the_end_of_an_input = refl

  no_moment : refusals (name ∷ codes "page" ∷ codes "--until=noon" ∷ codes "a.stream" ∷ []) ≡ InvalidValue ∷ []
  unfolding clap_on_literals jiff_fmt_on_literals
  no_moment = refl

  since_a_moment : since_of (name ∷ codes "lint" ∷ codes "--findings" ∷ codes "--since" ∷ codes "36900000000" ∷ []) ≡ Some (At 36900000000)
  unfolding clap_on_literals
  since_a_moment = refl

  the_last_while : since_of (name ∷ codes "view" ∷ codes "--by=place" ∷ codes "--last=12.5s" ∷ codes "a.stream" ∷ []) ≡ Some (BeforeEnd 12500000000)
  unfolding clap_on_literals jiff_fmt_on_literals
  the_last_while = refl

  -- of a span of places a file is read twice
  the_earlier_part : before_text (name ∷ codes "view" ∷ codes "--by=place" ∷ codes "--last=12.5s" ∷ codes "a.stream" ∷ []) ≡ codes "a.stream"
  unfolding clap_on_literals
  the_earlier_part = refl

  no_span_of_rows : refusals (name ∷ codes "view" ∷ codes "--since=5" ∷ codes "a.stream" ∷ []) ≡ InvalidValue ∷ []
  unfolding clap_on_literals jiff_fmt_on_literals
  no_span_of_rows = refl

  no_span_of_an_input : refusals (name ∷ codes "view" ∷ codes "--by=place" ∷ codes "--since=5" ∷ []) ≡ InvalidValue ∷ []
  unfolding clap_on_literals jiff_fmt_on_literals
  no_span_of_an_input = refl

  no_span_by_both : refusals (name ∷ codes "lint" ∷ codes "--findings" ∷ codes "--since=5" ∷ codes "--last=5s" ∷ codes "a.stream" ∷ []) ≡ InvalidValue ∷ []
  unfolding clap_on_literals jiff_fmt_on_literals
  no_span_by_both = refl

  no_span_of_a_number : refusals (name ∷ codes "lint" ∷ codes "--findings" ∷ codes "--last=5" ∷ codes "a.stream" ∷ []) ≡ InvalidValue ∷ []
  unfolding clap_on_literals jiff_fmt_on_literals
  no_span_of_a_number = refl

  no_fault_of_two : refusals (name ∷ codes "page" ∷ codes "a.stream" ∷ codes "b.stream" ∷ codes "--explain" ∷ []) ≡ InvalidValue ∷ []
  unfolding clap_on_literals jiff_fmt_on_literals
  no_fault_of_two = refl

  what_changed : AsksFor (PageChanges (record { limits = limits_by default_lints None; margin = record { percent = 50; least = 1000000 } }))
      (name ∷ codes "page" ∷ codes "a.stream" ∷ codes "b.stream" ∷ [])
  unfolding clap_on_literals
  what_changed = (refl, refl)

  the_later_file : file_of (name ∷ codes "page" ∷ codes "a.stream" ∷ codes "b.stream" ∷ []) ≡ Some (codes "b.stream")
  unfolding clap_on_literals
  the_later_file = refl

  the_earlier_file : before_text (name ∷ codes "page" ∷ codes "a.stream" ∷ codes "b.stream" ∷ []) ≡ codes "a.stream"
  unfolding clap_on_literals
  the_earlier_file = refl

  no_moment_of_two : refusals (name ∷ codes "page" ∷ codes "a.stream" ∷ codes "b.stream" ∷ codes "--until=5" ∷ []) ≡ InvalidValue ∷ []
  unfolding clap_on_literals jiff_fmt_on_literals
  no_moment_of_two = refl

  to_the_end : until_of (name ∷ codes "page" ∷ codes "a.stream" ∷ []) ≡ None
  unfolding clap_on_literals
  to_the_end = refl

  no_moment_of_a_watch : refusals (name ∷ codes "watch" ∷ codes "--until=5" ∷ []) ≡ UnknownArgument ∷ []
  unfolding clap_on_literals
  no_moment_of_a_watch = refl

  the_program_for_a_title : title_text (name ∷ codes "page" ∷ []) ≡ codes "taskscope"
  unfolding clap_on_literals
  the_program_for_a_title = refl

  two_streams : AsksFor (Compare (record { limits = limits_by default_lints None; margin = record { percent = 50; least = 1000000 } }))
      (name ∷ codes "compare" ∷ codes "a.stream" ∷ codes "b.stream" ∷ [])
  unfolding clap_on_literals
  two_streams = (refl, refl)

  the_earlier_stream : before_text (name ∷ codes "compare" ∷ codes "a.stream" ∷ codes "b.stream" ∷ []) ≡ codes "a.stream"
  unfolding clap_on_literals
  the_earlier_stream = refl

  the_later_stream : file_of (name ∷ codes "compare" ∷ codes "a.stream" ∷ codes "b.stream" ∷ []) ≡ Some (codes "b.stream")
  unfolding clap_on_literals
  the_later_stream = refl

  much_more : AsksForInput (Compare (record { limits = limits_by default_lints (Some 20); margin = record { percent = 80; least = 5000000 } }))
      (name ∷ codes "compare" ∷ codes "--more-than=80" ∷ codes "a.stream" ∷ codes "--at-least=5" ∷ codes "--long-poll=20" ∷ [])
  unfolding clap_on_literals
  much_more = ((refl, refl), refl)

  no_earlier_stream : refusals (name ∷ codes "compare" ∷ []) ≡ MissingRequiredArgument ∷ []
  unfolding clap_on_literals
  no_earlier_stream = refl

  a_percentage_too_large : refusals (name ∷ codes "view" ∷ codes "--self-wake-percent=101" ∷ []) ≡ ValueValidation ∷ []
  unfolding clap_on_literals
  a_percentage_too_large = refl

  every_poll_a_long_one : refusals (name ∷ codes "lint" ∷ codes "--long-poll=0" ∷ []) ≡ InvalidValue ∷ []
  unfolding clap_on_literals
  every_poll_a_long_one = refl

  -- a time says its unit
  a_tenth_of_a_second : AsksFor (Show Lint default_lints (record { times = false; limits = record { poll_ms = Some 100; wait_ms = Some 2000 } }))
      (name ∷ codes "lint" ∷ codes "--long-poll=100ms" ∷ codes "--long-wait=2s" ∷ [])
  unfolding clap_on_literals jiff_fmt_on_literals
  a_tenth_of_a_second = (refl, refl)

  no_part_of_a_millisecond : refusals (name ∷ codes "lint" ∷ codes "--long-poll=1500us" ∷ []) ≡ InvalidValue ∷ []
  unfolding clap_on_literals jiff_fmt_on_literals
  no_part_of_a_millisecond = refl

  no_time : refusals (name ∷ codes "page" ∷ codes "--never-yielded=long" ∷ []) ≡ InvalidValue ∷ []
  unfolding clap_on_literals jiff_fmt_on_literals
  no_time = refl

  first_polls_of_two_seconds : AsksFor (Show Lint (record { self_wake_percent = 50; never_yielded_ns = 2000000000 }) no_times)
      (name ∷ codes "lint" ∷ codes "--never-yielded" ∷ codes "2s" ∷ [])
  unfolding clap_on_literals jiff_fmt_on_literals
  first_polls_of_two_seconds = (refl, refl)

  two_screens_a_second : AsksFor (Watch (record plain_watch { every = 500 })) (name ∷ codes "watch" ∷ codes "--every=500ms" ∷ [])
  unfolding clap_on_literals jiff_fmt_on_literals
  two_screens_a_second = (refl, refl)

  no_screen_for_two_hours : refusals (name ∷ codes "watch" ∷ codes "--every=2h" ∷ []) ≡ InvalidValue ∷ []
  unfolding clap_on_literals jiff_fmt_on_literals
  no_screen_for_two_hours = refl

  each_minute : AsksFor (Metrics (record plain_metrics { every = 60 })) (name ∷ codes "metrics" ∷ codes "--every" ∷ codes "1m" ∷ [])
  unfolding clap_on_literals jiff_fmt_on_literals
  each_minute = (refl, refl)

  half_a_millisecond : AsksForInput (Compare (record { limits = limits_by default_lints None; margin = record { percent = 50; least = 500000 } }))
      (name ∷ codes "compare" ∷ codes "a.stream" ∷ codes "--at-least=500us" ∷ [])
  unfolding clap_on_literals jiff_fmt_on_literals
  half_a_millisecond = ((refl, refl), refl)

  histograms_of_warnings : refusals (name ∷ codes "lint" ∷ codes "--times" ∷ []) ≡ UnknownArgument ∷ []
  unfolding clap_on_literals
  histograms_of_warnings = refl

  an_option_twice : refusals (name ∷ codes "lint" ∷ codes "--never-yielded-ns=1" ∷ codes "--never-yielded-ns=1" ∷ []) ≡ ArgumentConflict ∷ []
  unfolding clap_on_literals
  an_option_twice = refl

  a_word_too_many : refusals (name ∷ codes "demo" ∷ codes "fast" ∷ []) ≡ UnknownArgument ∷ []
  unfolding clap_on_literals
  a_word_too_many = refl

  help_flag : AsksForHelp (name ∷ codes "--help" ∷ [])
  unfolding clap_on_literals
  help_flag = refl

  short_help_flag : AsksForHelp (name ∷ codes "-h" ∷ [])
  unfolding clap_on_literals
  short_help_flag = refl

  help_of_run : AsksForHelp (name ∷ codes "run" ∷ codes "--help" ∷ [])
  unfolding clap_on_literals
  help_of_run = refl

  version_flag : AsksForVersion (name ∷ codes "--version" ∷ [])
  unfolding clap_on_literals
  version_flag = refl

  short_version_flag : AsksForVersion (name ∷ codes "-V" ∷ [])
  unfolding clap_on_literals
  short_version_flag = refl

  version_of_view : refusals (name ∷ codes "view" ∷ codes "--version" ∷ []) ≡ UnknownArgument ∷ []
  unfolding clap_on_literals
  version_of_view = refl

  -- what follows `help` may name no command
  help_command : refusals (name ∷ codes "help" ∷ codes "run" ∷ []) ≡ DisplayHelp ∷ InvalidSubcommand ∷ []
  unfolding clap_on_literals
  help_command = refl

  another_word : refusals (name ∷ codes "show" ∷ []) ≡ UnknownArgument ∷ InvalidSubcommand ∷ []
  unfolding clap_on_literals
  another_word = refl

  another_word_is_a_mistake : IsMistake (name ∷ codes "show" ∷ [])
  unfolding clap_on_literals
  another_word_is_a_mistake = ((λ e. true≢false (sym (ap is_empty e))), refl)

  no_word : refusals (name ∷ []) ≡ MissingSubcommand ∷ []
  unfolding clap_on_literals
  no_word = refl

no_name : refusals [] ≡ MissingSubcommand ∷ []
unfolding clap_on_literals
no_name = refl

use Rattle.std.proofs.Common.{◌≡◌, [], ◌∷◌, List, ℕ, Option, None, is_some, true≢false, sym, refl, ap, subst, ◌∙◌, inl, inr}
use Rattle.std.specs.Prelude.{IsSome, unwrap_or}
use Rattle.std.specs.Option.{option_map}
use Rattle.clap.specs.Values.{kind_of}
use Rattle.taskscope.specs.Program.{DoesOfFile, DoesUntil, moment_at}
use Rattle.taskscope.specs.Requests.{AsksForInput, IsPlain, asked, before_text, file_of, file_text, filter_of, refusals, since_of, texts, title_text, to_of, until_of}
use Rattle.taskscope.specs.declared.moments.Moment.{Moment}
use Rattle.taskscope.specs.declared.command_line.Request.{Request}
use Rattle.taskscope.proofs.Outcomes.{nothing_done_until}
use Rattle.taskscope.proofs.ParseLemmas.{taken_words_ask}
use Rattle.taskscope.proofs.WordLemmas.{memory_alone, mistake_among, some_is}
use Rattle.taskscope.proofs.WordRows.{demo, lint, metrics, page, run, view, watch}
use Rattle.taskscope.proofs.program.run_program.Goals as goal

plain : (command : List ℕ) (request : Request) → ((name : List ℕ) → AsksForInput request (name ∷ command ∷ [])) → (words : List (List ℕ)) → IsPlain command words
    → AsksForInput request words
plain command request row words is = ((ap refusals is.1 ∙ (row is.0).0.0, ap asked is.1 ∙ (row is.0).0.1), ap file_of is.1 ∙ (row is.0).1)

pub returns-in-Err-clause-does : goal.returns-in-Err-clause-does
returns-in-Err-clause-does g c = λ request asks.
    let told = c.answer.ensures.memory (memory_alone (refusals (texts c.args.words.now)) c.in-Err.error asks.0.0 c.in-Err.ensures.fails) in
    rw told.1 (nothing_done_until (moment_at (until_of (texts c.args.words.now))) g.S.File.Read.remaining (g.S.Sources.is_of c.args.sources.now (before_text (texts c.args.words.now))) c.args.terminal (filter_of (texts c.args.words.now)) (to_of (texts c.args.words.now)) ((title_text (texts c.args.words.now), before_text (texts c.args.words.now)), moment_at (since_of (texts c.args.words.now))) request (g.I.Read.remaining c.args.input.now) (g.O.Write.contents c.args.output.now) (g.P.Place.texts c.args.place.now) c.answer.result told.0)

pub returns-in-Err-clause-file : goal.returns-in-Err-clause-file
returns-in-Err-clause-file g c = λ request asks.
    let told = c.answer.ensures.memory (memory_alone (refusals (texts c.args.words.now)) c.in-Err.error asks.0.0 c.in-Err.ensures.fails) in
    (refl, inr (told.0, (ap g.O.Write.contents told.1, refl)))

pub returns-clause-does : goal.returns-clause-does
returns-clause-does g c = λ request asks.
    let same : c.in-Ok.call.request ≡ request = some_is _ _ (sym c.in-Ok.ensures.asked ∙ asks.0.1) in
    let filter = option_map (λ f. f.now) c.in-Ok.call.filter in
    let to = option_map (λ p. p.now) c.in-Ok.call.to in
    let done = λ (until since : Option Moment) (text path : Option (List ℕ)) (title before : List ℕ) (r : Request). DoesUntil (moment_at until) g.S.File.Read.remaining (g.S.Sources.is_of c.args.sources.now before) c.args.terminal text path ((title, before), moment_at since) r (g.I.Read.remaining c.args.input.now) (g.I.Read.remaining c.fulfil_of_input.new.input)
    (g.O.Write.contents c.args.output.now) (g.O.Write.contents c.fulfil_of_input.new.output) (g.P.Place.texts c.args.place.now) (g.P.Place.texts c.fulfil_of_input.new.place) c.fulfil_of_input.result in
    let until = until_of (texts c.args.words.now) in
    let since = since_of (texts c.args.words.now) in
    subst (λ before. done until since (filter_of (texts c.args.words.now)) (to_of (texts c.args.words.now)) (title_text (texts c.args.words.now)) before request) (sym c.in-Ok.ensures.before)
    (subst (λ title. done until since (filter_of (texts c.args.words.now)) (to_of (texts c.args.words.now)) title c.in-Ok.call.before.now request) (sym c.in-Ok.ensures.title)
    (subst (λ path. done until since (filter_of (texts c.args.words.now)) path c.in-Ok.call.title.now c.in-Ok.call.before.now request) (sym c.in-Ok.ensures.to)
    (subst (λ text. done until since text to c.in-Ok.call.title.now c.in-Ok.call.before.now request) (sym c.in-Ok.ensures.filter)
    (subst (λ begin. done until begin filter to c.in-Ok.call.title.now c.in-Ok.call.before.now request) (sym c.in-Ok.ensures.since)
    (subst (λ moment. done moment c.in-Ok.call.since filter to c.in-Ok.call.title.now c.in-Ok.call.before.now request) (sym c.in-Ok.ensures.until)
    (subst (done c.in-Ok.call.until c.in-Ok.call.since filter to c.in-Ok.call.title.now c.in-Ok.call.before.now) same c.fulfil_of_input.ensures.does))))))

pub returns-clause-file : goal.returns-clause-file
returns-clause-file g c = λ request asks.
    let none : file_of (texts c.args.words.now) ≡ None = c.in-Ok.ensures.file ∙ ap (option_map (λ f. f.now)) c.in-None.is in
    absurd (true≢false (sym (subst IsSome none asks.1)))

pub returns-in-Some-clause-does : goal.returns-in-Some-clause-does
returns-in-Some-clause-does g c = λ request asks.
    absurd (true≢false (ap is_some (sym (c.in-Ok.ensures.file ∙ ap (option_map (λ f. f.now)) c.in-Some.is) ∙ asks.1)))

pub returns-in-Some-clause-file : goal.returns-in-Some-clause-file
returns-in-Some-clause-file g c = λ request asks.
    let same : c.in-Ok.call.request ≡ request = some_is _ _ (sym c.in-Ok.ensures.asked ∙ asks.0.1) in
    let filter = option_map (λ f. f.now) c.in-Ok.call.filter in
    let to = option_map (λ p. p.now) c.in-Ok.call.to in
    let until = until_of (texts c.args.words.now) in
    let named : c.in-Some.path.now ≡ file_text (texts c.args.words.now) =
    sym (ap (λ (p : Option (List ℕ)). unwrap_or p []) (c.in-Ok.ensures.file ∙ ap (option_map (λ f. f.now)) c.in-Some.is)) in
    let since = since_of (texts c.args.words.now) in
    let done = λ (until since : Option Moment) (text path : Option (List ℕ)) (title before : List ℕ) (r : Request). DoesOfFile until since g.S.File.Read.remaining (g.S.Sources.is_of c.args.sources.now (file_text (texts c.args.words.now))) (g.S.Sources.is_of c.args.sources.now before) c.args.terminal text path (title, before) r (g.O.Write.contents c.args.output.now) (g.O.Write.contents c.fulfil_of_file.new.output)
    (g.P.Place.texts c.args.place.now) (g.P.Place.texts c.fulfil_of_file.new.place) c.fulfil_of_file.result in (
      refl,
      subst (λ before. done until since (filter_of (texts c.args.words.now)) (to_of (texts c.args.words.now)) (title_text (texts c.args.words.now)) before request) (sym c.in-Ok.ensures.before)
          (subst (λ title. done until since (filter_of (texts c.args.words.now)) (to_of (texts c.args.words.now)) title c.in-Ok.call.before.now request) (sym c.in-Ok.ensures.title)
          (subst (λ path. done until since (filter_of (texts c.args.words.now)) path c.in-Ok.call.title.now c.in-Ok.call.before.now request) (sym c.in-Ok.ensures.to)
          (subst (λ text. done until since text to c.in-Ok.call.title.now c.in-Ok.call.before.now request) (sym c.in-Ok.ensures.filter)
          (subst (λ begin. done until begin filter to c.in-Ok.call.title.now c.in-Ok.call.before.now request) (sym c.in-Ok.ensures.since)
          (subst (λ moment. done moment c.in-Ok.call.since filter to c.in-Ok.call.title.now c.in-Ok.call.before.now request) (sym c.in-Ok.ensures.until)
          (subst (done c.in-Ok.call.until c.in-Ok.call.since filter to c.in-Ok.call.title.now c.in-Ok.call.before.now) same (rw named at c.fulfil_of_file.ensures.does))))))),
    )

pub returns-in-Err-clause-mistake : goal.returns-in-Err-clause-mistake
returns-in-Err-clause-mistake g c = λ wrong. elim c.in-Err.ensures.fails [
  | inl memory ↦
      let told = c.answer.ensures.memory memory in
      (told.1, inr told.0)
  | inr among ↦
      let told = c.answer.ensures.mistake (mistake_among (kind_of c.in-Err.error) (refusals (texts c.args.words.now)) wrong.1 among) in
      (told.1, inl told.0)
]

pub returns-in-Err-clause-run : goal.returns-in-Err-clause-run
returns-in-Err-clause-run g c = plain _ _ run (texts c.args.words.now)

pub returns-in-Err-clause-view : goal.returns-in-Err-clause-view
returns-in-Err-clause-view g c = plain _ _ view (texts c.args.words.now)

pub returns-in-Err-clause-lint : goal.returns-in-Err-clause-lint
returns-in-Err-clause-lint g c = plain _ _ lint (texts c.args.words.now)

pub returns-in-Err-clause-page : goal.returns-in-Err-clause-page
returns-in-Err-clause-page g c = plain _ _ page (texts c.args.words.now)

pub returns-in-Err-clause-watch : goal.returns-in-Err-clause-watch
returns-in-Err-clause-watch g c = plain _ _ watch (texts c.args.words.now)

pub returns-in-Err-clause-metrics : goal.returns-in-Err-clause-metrics
returns-in-Err-clause-metrics g c = plain _ _ metrics (texts c.args.words.now)

pub returns-in-Err-clause-demo : goal.returns-in-Err-clause-demo
returns-in-Err-clause-demo g c = plain _ _ demo (texts c.args.words.now)

pub returns-clause-run : goal.returns-clause-run
returns-clause-run g c = plain _ _ run (texts c.args.words.now)

pub returns-clause-view : goal.returns-clause-view
returns-clause-view g c = plain _ _ view (texts c.args.words.now)

pub returns-clause-lint : goal.returns-clause-lint
returns-clause-lint g c = plain _ _ lint (texts c.args.words.now)

pub returns-clause-page : goal.returns-clause-page
returns-clause-page g c = plain _ _ page (texts c.args.words.now)

pub returns-clause-watch : goal.returns-clause-watch
returns-clause-watch g c = plain _ _ watch (texts c.args.words.now)

pub returns-clause-metrics : goal.returns-clause-metrics
returns-clause-metrics g c = plain _ _ metrics (texts c.args.words.now)

pub returns-clause-demo : goal.returns-clause-demo
returns-clause-demo g c = plain _ _ demo (texts c.args.words.now)

pub returns-in-Some-clause-run : goal.returns-in-Some-clause-run
returns-in-Some-clause-run g c = plain _ _ run (texts c.args.words.now)

pub returns-in-Some-clause-view : goal.returns-in-Some-clause-view
returns-in-Some-clause-view g c = plain _ _ view (texts c.args.words.now)

pub returns-in-Some-clause-lint : goal.returns-in-Some-clause-lint
returns-in-Some-clause-lint g c = plain _ _ lint (texts c.args.words.now)

pub returns-in-Some-clause-page : goal.returns-in-Some-clause-page
returns-in-Some-clause-page g c = plain _ _ page (texts c.args.words.now)

pub returns-in-Some-clause-watch : goal.returns-in-Some-clause-watch
returns-in-Some-clause-watch g c = plain _ _ watch (texts c.args.words.now)

pub returns-in-Some-clause-metrics : goal.returns-in-Some-clause-metrics
returns-in-Some-clause-metrics g c = plain _ _ metrics (texts c.args.words.now)

pub returns-in-Some-clause-demo : goal.returns-in-Some-clause-demo
returns-in-Some-clause-demo g c = plain _ _ demo (texts c.args.words.now)

pub returns-in-Err-clause-asks : goal.returns-in-Err-clause-asks
returns-in-Err-clause-asks g c = taken_words_ask (texts c.args.words.now)

pub returns-clause-kept : goal.returns-clause-kept
returns-clause-kept g c = λ taken none. c.fulfil_of_input.ensures.kept (sym c.in-Ok.ensures.to ∙ none)

pub returns-in-Some-clause-kept : goal.returns-in-Some-clause-kept
returns-in-Some-clause-kept g c = λ taken none. c.fulfil_of_file.ensures.kept (sym c.in-Ok.ensures.to ∙ none)

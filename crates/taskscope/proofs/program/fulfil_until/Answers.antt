use Rattle.std.proofs.Common.{◌≡◌, List, ℕ, Option, ap, subst, ◌∙◌}
use Rattle.std.specs.Option.{option_map}
use Rattle.tk_until.specs.Held.{left_until}
use Rattle.tk_screen.specs.declared.canvas.Canvas.{Canvas}
use Rattle.tk_metrics.specs.Places.{Texts}
use Rattle.taskscope.specs.Program.{Beside, Does}
use Rattle.taskscope.specs.declared.command_line.Request.{Request}
use Rattle.taskscope.proofs.program.fulfil_until.Goals as goal

pub returns-in-None-clause-does : goal.returns-in-None-clause-does
returns-in-None-clause-does g c = rw c.in-None.is c.fulfil_explained.ensures.does

-- What is done with a text is done with one that is equal to it.
does_with : {F : Type 0} (remaining : F → Option (List ℕ)) (is_before : F → Type 0) (terminal : Canvas) (filter to : Option (List ℕ)) (beside : Beside)
    (request : Request) {given equal : Option (List ℕ)} (left old new : Option (List ℕ)) (before after : Option Texts) (status : ℕ)
    → given ≡ equal → Does remaining is_before terminal filter to beside request given left old new before after status
    → Does remaining is_before terminal filter to beside request equal left old new before after status
does_with remaining is_before terminal filter to beside request left old new before after status same does =
    subst (λ text. Does remaining is_before terminal filter to beside request text left old new before after status) same does

pub returns-in-Some-clause-does : goal.returns-in-Some-clause-does
returns-in-Some-clause-does g c =
    let front = c.new-front.result in
    let given = ap (λ r. left_until front.until front.held (g.I.Read.remaining r)) c.new-front.ensures.reader
    ∙ c.new-front.ensures.front (g.I.Read.remaining c.args.input) in
    let call = c.args.call.now in
    rw c.in-Some.is (
      _,
      does_with g.S.File.Read.remaining (g.S.Sources.is_of c.args.sources.now call.before.now) c.args.terminal
          (option_map (λ f. f.now) call.filter) (option_map (λ p. p.now) call.to) ((call.title.now, call.before.now), c.args.since) call.request _
          (g.O.Write.contents c.args.output.now) (g.O.Write.contents c.fulfil_explained-left.new.output)
          (g.P.Place.texts c.args.place.now) (g.P.Place.texts c.fulfil_explained-left.new.place) c.fulfil_explained-left.result.1 given c.fulfil_explained-left.ensures.does,
    )

use Rattle.std.proofs.Common.{◌≡◌, ◌≤◌, ℕ, List, [], length, true, Some, arith, ap, ap₂, sym, subst, ◌∙◌}
use Rattle.tk_stream.specs.Tables.{TablesView}
use Rattle.tk_stream.specs.Times.{TaskTimes}
use Rattle.tk_client.specs.Applying.{Fails}
use Rattle.tk_client.specs.Meaning.{Start, goes, line_taken}
use Rattle.tk_client.specs.Feeding.{ClientView}
use Rattle.tk_client.proofs.WholeLemmas.{whole-goes, whole-fails}
use Rattle.tk_client.proofs.client.Client.take_whole.Goals as goal

pub returns-in-Ok-clause-ended : goal.returns-in-Ok-clause-ended
returns-in-Ok-clause-ended g c =
    let start : Start = record { tables = c.self.inside.shown; last = c.self.inside.last; part = c.self.inside.part.items; times = c.self.inside.times } in
    let empty : start.part ≡ [] = ap (λ (v : ClientView). v.start.part) c.self.view_is ∙ c.requires.empty in
    let short : length c.args.line.now ≤ c.self.inside.limit = omega (arith, c.requires.short, ap (λ (v : ClientView). v.max_line) c.self.view_is) in
    record {
      came = rw (← c.self.view_is)
          (whole-goes c.self.inside.limit start c.args.line.now empty c.requires.whole short c.take_line.new.shown c.take_line.new.times c.in-Ok.number c.in-Ok.ensures.taken
          ∙ ap (λ (part : List ℕ). goes (record { tables = c.take_line.new.shown; last = Some c.in-Ok.number; part = part; times = c.take_line.new.times }) 1) (sym empty));
      sound = ap (λ (v : ClientView). v.has_failed) c.self.view_is ∙ c.requires.sound;
    }

pub returns-in_default-clause-ended : goal.returns-in_default-clause-ended
returns-in_default-clause-ended g c =
    let same : c.take_line.new.shown ≡ c.self.inside.shown = c.in-Err.ensures.kept in
    let same_times : c.take_line.new.times ≡ c.self.inside.times = c.in-Err.ensures.kept_times in
    whole-fails c.in-Err.fault c.args.self.now _ c.args.line.now c.in_default.not-Memory c.requires.empty c.requires.whole c.requires.short
    (subst (λ (v : ClientView). Fails c.in-Err.fault (line_taken v.start.tables v.start.times v.start.last c.args.line.now)) c.self.view_is c.in-Err.ensures.taken)
    (ap₂ (λ (tables : TablesView) (times : List TaskTimes). record { start = record { tables = tables; last = c.self.inside.last; part = c.self.inside.part.items; times = times }; has_failed = true; max_line = c.self.inside.limit }) same same_times
    ∙ ap (λ (v : ClientView). record v { has_failed = true }) c.self.view_is)

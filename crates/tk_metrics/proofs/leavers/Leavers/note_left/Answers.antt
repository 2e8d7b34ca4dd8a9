use Rattle.std.proofs.Common.{◌≡◌, List, [], ◌∷◌, ◌++◌, ◌∙◌, ap, refl, sym, subst}
use Rattle.tk_client.specs.Changes.{Timed, untimed}
use Rattle.tk_client.specs.declared.change.LeftTask.{LeftTask}
use Rattle.tk_reading.specs.Shown.{last_shown, last_timed}
use Rattle.tk_reading.proofs.ShownLemmas.{last_more, last_tables}
use Rattle.tk_series.specs.Series.{series_of}
use Rattle.tk_stream.specs.Tables.{TablesView, empty_tables}
use Rattle.tk_metrics.specs.Histograms.{plus_counted}
use Rattle.tk_metrics.specs.Keys.{keys_after}
use Rattle.tk_metrics.specs.declared.keys.Keys.{Keys}
use Rattle.tk_metrics.specs.Leaving.{Holds, gone_in, with_tasks}
use Rattle.tk_metrics.specs.Metrics.{Gone}
use Rattle.tk_metrics.specs.Sums.{plus}
use Rattle.tk_metrics.specs.Timed.{Agrees, HoldTimes, TakesLeft}
use Rattle.tk_metrics.specs.declared.family.Timing.TheVariants.{Polls, Waits}
use Rattle.tk_metrics.proofs.HistogramLemmas.{holds_more, last_timed_more}
use Rattle.tk_metrics.proofs.KeysLemmas.{gone_same, times_same}
use Rattle.tk_metrics.proofs.LeavingLemmas.{left_more}
use Rattle.tk_metrics.proofs.leavers.Leavers.note_left.Goals as goal

pub returns-clause-notes : goal.returns-clause-notes
returns-clause-notes c = λ by shown timed is same h.
    let t = c.args.tables.now in
    let now : Timed = (t, c.args.times.now) in
    let old = c.args.self.now in
    let left = c.args.change.now.left in
    let then = keys_after by (shown ++ t ∷ []) in
    let last = sym (last_more empty_tables shown t) in
    let before = sym (last_tables untimed timed) ∙ ap (λ xs. last_shown empty_tables xs) (sym same) in
    let keys : c.note.new.self ≡ then = c.in_ok-note.ensures by shown (last_timed untimed timed) c.args.times.now is before h.keys in
    let held : Holds (gone_in then shown) old.left = record { tasks = h.held.tasks ∙ ap (series_of plus) (sym (gone_same by shown t)); resources = h.held.resources } in
    let tasks : (gone : Gone) → Holds gone old.left → Holds (with_tasks then left gone) c.take_tasks.new.self = λ gone g.
    subst (λ (k : Keys). Holds (with_tasks k left gone) c.take_tasks.new.self) keys
    (subst (λ (ls : List LeftTask). Holds (with_tasks c.note.new.self ls gone) c.take_tasks.new.self) c.left.ensures (c.in_ok-take_tasks.ensures gone g)) in
    let times : HoldTimes then timed old.histograms = record {
      polls = h.times.polls ∙ ap (series_of plus_counted) (sym (times_same by shown t Polls timed same));
      waits = h.times.waits ∙ ap (series_of plus_counted) (sym (times_same by shown t Waits timed same));
    } in
    let takes : TakesLeft then left old.histograms c.take_left.new.self =
    subst (λ (k : Keys). TakesLeft k left old.histograms c.take_left.new.self) keys
    (subst (λ (ls : List LeftTask). TakesLeft c.note.new.self ls old.histograms c.take_left.new.self) c.left-2.ensures c.in_ok-take_left.ensures) in
    record {
      told = h.told;
      keys = keys;
      held = left_more then shown timed t c.args.times.now c.args.change.now is before old.left c.take_tasks.new.self c.take_resources.new.self old.resources old.counts h.resources h.counts held
          tasks c.in_ok-take_resources.ensures;
      times = holds_more then timed now left old.histograms c.take_left.new.self is.left times takes;
      resources = c.in_ok-self.ensures ∙ c.resources_in.ensures ∙ ap (λ (b : TablesView). b.resources) last;
      counts = c.in_ok-self-2.ensures ∙ c.counts_in.ensures ∙ ap (λ (b : TablesView). b.counts) last;
      latest = subst (λ b. Agrees b c.note-2.new.self.times) (sym (last_timed_more untimed timed now)) (c.in_ok-note-2.ensures (last_timed untimed timed) t is h.latest);
    }

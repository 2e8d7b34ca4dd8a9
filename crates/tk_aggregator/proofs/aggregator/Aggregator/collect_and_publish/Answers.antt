use Rattle.std.proofs.Common.{ℕ, List, ◌+◌, sym, ap, ◌∙◌, subst, inr}
use Rattle.tk_stream.specs.Streams.{IsStreamTo}
use Rattle.tk_stream.specs.Times.{TaskTimes}
use Rattle.tk_aggregator.specs.Publishing.{IsTimedStreamTo}
use Rattle.tk_stream.specs.Tables.{TablesView}
use Rattle.tk_aggregator.proofs.FollowLemmas.{then_same}
use Rattle.tk_aggregator.proofs.PublishLemmas.{caught_up, refresh_follows, line_kept}
use Rattle.tk_aggregator.proofs.aggregator.Aggregator.collect_and_publish.Goals as goal

pub returns-in-Ok-publish-clause-ok : goal.returns-in-Ok-publish-clause-ok
returns-in-Ok-publish-clause-ok g c =
    let stays = then_same c.args.self.now c.collect.new.self c.refresh.new.self c.collect.ensures.stays c.refresh.ensures.stays in
    record {
      read = c.refresh.new.self;
      caught_up =
          caught_up c.args.self.now c.args.taker.now c.args.limit c.in-Ok.events c.collect.new.self c.collect.new.taker c.refresh.new.self c.in-Ok.ensures.ok c.refresh.ensures.reads
          c.refresh.ensures.same_infos c.collect.ensures.later c.refresh.ensures.later c.collect.ensures.stays c.refresh.ensures.stays;
      due = c.in-Ok-publish.ensures.due;
      number = c.in-Ok-publish.ensures.number ∙ ap (λ (n : ℕ). n + 1) stays.last;
      state = c.in-Ok-publish.ensures.state;
      sent = c.in-Ok-publish.ensures.sent;
      stream = λ bytes stream.
          c.in-Ok-publish.ensures.stream bytes (subst (λ (told : TablesView). IsStreamTo bytes told c.refresh.new.self.last) (sym stays.told)
          (subst (λ (last : ℕ). IsStreamTo bytes c.args.self.now.told last) (sym stays.last) stream));
      timed_stream = λ bytes stream.
          c.in-Ok-publish.ensures.timed_stream bytes (subst (λ (told : TablesView). IsTimedStreamTo bytes told c.refresh.new.self.timing.told c.refresh.new.self.last) (sym stays.told)
          (subst (λ (times : List TaskTimes). IsTimedStreamTo bytes c.args.self.now.told times c.refresh.new.self.last) (sym stays.times_told)
          (subst (λ (last : ℕ). IsTimedStreamTo bytes c.args.self.now.told c.args.self.now.timing.told last) (sym stays.last) stream)));
    }

pub returns-in-Ok-publish-clause-kept : goal.returns-in-Ok-publish-clause-kept
returns-in-Ok-publish-clause-kept g c follows finished below =
    line_kept c.args.self.now c.args.taker.now c.args.limit c.in-Ok.events c.collect.new.self c.collect.new.taker c.in-Ok.ensures.ok finished below c.refresh.new.self c.refresh.ensures.held
    c.args.now c.publish.new.self c.in-Ok-publish.ensures.state
    (c.publish.ensures.follows c.collect.new.taker (refresh_follows c.collect.new.self c.refresh.new.self c.collect.new.taker c.refresh.ensures.same_infos c.refresh.ensures.held c.refresh.ensures.stays
    (c.collect.ensures.follows follows)))

pub returns-in-Err-publish-clause-err : goal.returns-in-Err-publish-clause-err
returns-in-Err-publish-clause-err g c =
    inr (record {
      count = c.in-Ok.events;
      read = c.refresh.new.self;
      caught_up =
          caught_up c.args.self.now c.args.taker.now c.args.limit c.in-Ok.events c.collect.new.self c.collect.new.taker c.refresh.new.self c.in-Ok.ensures.ok c.refresh.ensures.reads
          c.refresh.ensures.same_infos c.collect.ensures.later c.refresh.ensures.later c.collect.ensures.stays c.refresh.ensures.stays;
      refused = c.in-Err-publish.ensures.refused;
    })

use Rattle.std.proofs.Common.{not, refl, ap, sym, subst, ◌∙◌, true≢false}
use Rattle.futures.specs.declared.task.Poll.TheVariants.{Ready, Pending}
use Rattle.tk_core.specs.declared.reply.Reply.TheVariants.{Done}
use Rattle.tk_core.specs.declared.task.call.TaskCall.TheVariants.{PollStart, PollEnd, Close}
use Rattle.tk_ledgers.specs.Tasks.{owner_calls}
use Rattle.tk_ledgers.proofs.TimedLemmas.{times_stay, times_ended}
use Rattle.tk_ledgers.proofs.ScopeLemmas.{grows_by_call, polling_started, polling_ended}
use Rattle.tk_exec.specs.Polls.{Tracked}
use Rattle.tk_exec.proofs.PollLemmas.{at_rest, rests, pending_entries, ready_entries, over_and_shut, grew_in, grows_to, grows_from}
use Rattle.tk_exec.proofs.instrumented.Instrumented.poll_once.Goals as goal

pub unreachable-requires-in_default-scope : goal.unreachable-requires-in_default-scope
unreachable-requires-in_default-scope g c =
    let e = c.in-Ok.ensures in
    let begun = grows_by_call c.in-Some.owner c.start_poll.new.self (PollStart c.now-first.result) Done e.id e.ledger e.caller e.ok (times_stay (owner_calls c.in-Some.owner) (PollStart c.now-first.result) Done c.in-Some.owner.times c.start_poll.new.self.times refl e.times) in
    absurd (true≢false (sym (polling_started c.in-Some.owner c.start_poll.new.self c.now-first.result begun) ∙ sym c.in_default-scope.ensures.exact))

pub unreachable-requires-in_default-close : goal.unreachable-requires-in_default-close
unreachable-requires-in_default-close g c =
    let e = c.in-Ok-end_poll.ensures in
    let over = grows_by_call c.finish-owner.result c.end_poll.new.self (PollEnd c.now-second.result) Done e.id e.ledger e.caller e.ok (times_ended (owner_calls c.finish-owner.result) c.now-second.result c.finish-owner.result.times c.end_poll.new.self.times e.timed) in
    absurd (true≢false (sym (c.in_default-close.ensures.exact ∙ ap (λ b. not b) (polling_ended c.finish-owner.result c.end_poll.new.self c.now-second.result over))))

pub invariant_of-self-in-Pending : goal.invariant_of-self-in-Pending
invariant_of-self-in-Pending g c =
    let was = sym c.take.ensures.value ∙ c.in-Some.is in
    let rest = at_rest c.self.inside.id c.in-Some.owner c.self.inside.owner c.self.inside.receipt was c.self.invariant in
    let scoped = c.poll-answer.ensures.scoped in
    let s = c.in-Ok.ensures in
    let e = c.in-Ok-end_poll.ensures in
    let begun = grows_by_call c.in-Some.owner c.start_poll.new.self (PollStart c.now-first.result) Done s.id s.ledger s.caller s.ok (times_stay (owner_calls c.in-Some.owner) (PollStart c.now-first.result) Done c.in-Some.owner.times c.start_poll.new.self.times refl s.times) in
    let over = grows_by_call c.finish-owner.result c.end_poll.new.self (PollEnd c.now-second.result) Done e.id e.ledger e.caller e.ok (times_ended (owner_calls c.finish-owner.result) c.now-second.result c.finish-owner.result.times c.end_poll.new.self.times e.timed) in
    let inside = grew_in c.start_poll.new.self c.finish-owner.result c.in-Ok-scope.scope c.poll-answer.new.scope c.in-Ok-scope.ensures.held c.finish-owner.ensures.owner scoped in
    rests c.self.inside.id c.end_poll.new.self c.self.inside.receipt rest.0 (over.id ∙ (inside.id ∙ (begun.id ∙ rest.1)))
    (polling_ended c.finish-owner.result c.end_poll.new.self c.now-second.result over)

pub returns-in-Ok-close-clause-polled : goal.returns-in-Ok-close-clause-polled
returns-in-Ok-close-clause-polled g c =
    let was = sym c.take.ensures.value ∙ c.in-Some.is in
    let scoped = c.poll-answer.ensures.scoped in
    let s = c.in-Ok.ensures in
    let e = c.in-Ok-end_poll.ensures in
    let t = c.in-Ok-close.ensures in
    let begun = grows_by_call c.in-Some.owner c.start_poll.new.self (PollStart c.now-first.result) Done s.id s.ledger s.caller s.ok (times_stay (owner_calls c.in-Some.owner) (PollStart c.now-first.result) Done c.in-Some.owner.times c.start_poll.new.self.times refl s.times) in
    let over = grows_by_call c.finish-owner.result c.end_poll.new.self (PollEnd c.now-second.result) Done e.id e.ledger e.caller e.ok (times_ended (owner_calls c.finish-owner.result) c.now-second.result c.finish-owner.result.times c.end_poll.new.self.times e.timed) in
    let shut = grows_by_call c.end_poll.new.self c.in-Ok-close.receipt (Close c.now-second.result) Done t.id t.ledger t.caller t.ok (times_stay (owner_calls c.end_poll.new.self) (Close c.now-second.result) Done c.end_poll.new.self.times c.in-Ok-close.receipt.times refl t.times) in
    let inside = grew_in c.start_poll.new.self c.finish-owner.result c.in-Ok-scope.scope c.poll-answer.new.scope c.in-Ok-scope.ensures.held c.finish-owner.ensures.owner scoped in
    record {
      before = c.in-Some.owner;
      after = c.in-Ok-close.receipt;
      first = c.now-first.result;
      between = c.now-first.new.self;
      second = c.now-second.result;
      id = ap (λ (t : Tracked g.row.W.Denot). t.id) c.self.view_is;
      was = sym (ap (λ (t : Tracked g.row.W.Denot). t.owner) c.self.view_is) ∙ was;
      leaves = (c.take.ensures.after, refl);
      reads_first = c.now-first.ensures;
      reads_second = c.now-second.ensures;
      scope = c.in-Ok-scope.scope;
      scope' = c.poll-answer.new.scope;
      moment = c.in-Ok-scope.ensures.moment;
      starts = grows_to c.in-Some.owner c.start_poll.new.self c.in-Ok-scope.scope.owner c.in-Ok-scope.ensures.held begun;
      work = subst (λ (w : g.row.W.Denot). g.W.Work.polls w c.in-Ok-scope.scope (Ready c.in-Ready.out) c.poll-answer.new.self c.poll-answer.new.scope)
          (ap (λ (t : Tracked g.row.W.Denot). t.work) c.self.view_is) c.in-Ready.ensures.polled;
      scoped = scoped;
      ends = grows_from c.poll-answer.new.scope.owner c.finish-owner.result c.in-Ok-close.receipt c.finish-owner.ensures.owner (over_and_shut c.finish-owner.result c.end_poll.new.self c.in-Ok-close.receipt c.now-second.result over shut);
      grows = ready_entries c.in-Some.owner c.start_poll.new.self c.finish-owner.result c.end_poll.new.self c.now-first.result c.now-second.result scoped.entries begun inside over c.in-Ready.out c.in-Ok-close.receipt shut;
    }

pub returns-in-Pending-clause-polled : goal.returns-in-Pending-clause-polled
returns-in-Pending-clause-polled g c =
    let was = sym c.take.ensures.value ∙ c.in-Some.is in
    let rest = at_rest c.self.inside.id c.in-Some.owner c.self.inside.owner c.self.inside.receipt was c.self.invariant in
    let scoped = c.poll-answer.ensures.scoped in
    let s = c.in-Ok.ensures in
    let e = c.in-Ok-end_poll.ensures in
    let begun = grows_by_call c.in-Some.owner c.start_poll.new.self (PollStart c.now-first.result) Done s.id s.ledger s.caller s.ok (times_stay (owner_calls c.in-Some.owner) (PollStart c.now-first.result) Done c.in-Some.owner.times c.start_poll.new.self.times refl s.times) in
    let over = grows_by_call c.finish-owner.result c.end_poll.new.self (PollEnd c.now-second.result) Done e.id e.ledger e.caller e.ok (times_ended (owner_calls c.finish-owner.result) c.now-second.result c.finish-owner.result.times c.end_poll.new.self.times e.timed) in
    let inside = grew_in c.start_poll.new.self c.finish-owner.result c.in-Ok-scope.scope c.poll-answer.new.scope c.in-Ok-scope.ensures.held c.finish-owner.ensures.owner scoped in
    record {
      before = c.in-Some.owner;
      after = c.end_poll.new.self;
      first = c.now-first.result;
      between = c.now-first.new.self;
      second = c.now-second.result;
      id = ap (λ (t : Tracked g.row.W.Denot). t.id) c.self.view_is;
      was = sym (ap (λ (t : Tracked g.row.W.Denot). t.owner) c.self.view_is) ∙ was;
      leaves = (refl, rest.0);
      reads_first = c.now-first.ensures;
      reads_second = c.now-second.ensures;
      scope = c.in-Ok-scope.scope;
      scope' = c.poll-answer.new.scope;
      moment = c.in-Ok-scope.ensures.moment;
      starts = grows_to c.in-Some.owner c.start_poll.new.self c.in-Ok-scope.scope.owner c.in-Ok-scope.ensures.held begun;
      work = subst (λ (w : g.row.W.Denot). g.W.Work.polls w c.in-Ok-scope.scope Pending c.poll-answer.new.self c.poll-answer.new.scope)
          (ap (λ (t : Tracked g.row.W.Denot). t.work) c.self.view_is) c.in-Pending.ensures.polled;
      scoped = scoped;
      ends = grows_from c.poll-answer.new.scope.owner c.finish-owner.result c.end_poll.new.self c.finish-owner.ensures.owner over;
      grows = pending_entries c.in-Some.owner c.start_poll.new.self c.finish-owner.result c.end_poll.new.self c.now-first.result c.now-second.result scoped.entries begun inside over g.row.W-Out.Denot;
    }

use Rattle.std.proofs.Common.{ℕ, List, [], refl}
use Rattle.tk_script.specs.Commands as said
use Rattle.tk_live.proofs.Lines.{quietly}
use Rattle.tk_live.proofs.interpreter.Interpreter.apply.Goals as goal

pub returns-in-Task : goal.returns-in-Task
returns-in-Task g c =
    rw c.in-Task.is (quietly c.args.line (said.task c.in-Task.moment c.in-Task.kind c.in-Task.name.now) c.args.self.now c.make_task.new.self c.make_task.result (g.W.Write.contents c.args.writer.now) c.make_task.ensures (λ sent stop. refl {A = List ℕ} {a = []}))

pub returns-in-Start : goal.returns-in-Start
returns-in-Start g c =
    rw c.in-Start.is (quietly c.args.line (said.start c.in-Start.task c.in-Start.moment) c.args.self.now c.start.new.self c.start.result (g.W.Write.contents c.args.writer.now) (c.start.ensures c.args.line) (λ sent stop. refl {A = List ℕ} {a = []}))

pub returns-in-End : goal.returns-in-End
returns-in-End g c =
    rw c.in-End.is (quietly c.args.line (said.finish c.in-End.task c.in-End.moment) c.args.self.now c.end.new.self c.end.result (g.W.Write.contents c.args.writer.now) (c.end.ensures c.args.line) (λ sent stop. refl {A = List ℕ} {a = []}))

pub returns-in-Close : goal.returns-in-Close
returns-in-Close g c =
    rw c.in-Close.is (quietly c.args.line (said.close c.in-Close.task c.in-Close.moment) c.args.self.now c.close.new.self c.close.result (g.W.Write.contents c.args.writer.now) (c.close.ensures c.args.line) (λ sent stop. refl {A = List ℕ} {a = []}))

pub returns-in-SelfWake : goal.returns-in-SelfWake
returns-in-SelfWake g c =
    rw c.in-SelfWake.is (quietly c.args.line (said.self_wake c.in-SelfWake.task c.in-SelfWake.moment) c.args.self.now c.self_wake.new.self c.self_wake.result (g.W.Write.contents c.args.writer.now) (c.self_wake.ensures c.args.line) (λ sent stop. refl {A = List ℕ} {a = []}))

pub returns-in-CloneWaker : goal.returns-in-CloneWaker
returns-in-CloneWaker g c =
    rw c.in-CloneWaker.is (quietly c.args.line (said.clone c.in-CloneWaker.task) c.args.self.now c.clone_waker.new.self c.clone_waker.result (g.W.Write.contents c.args.writer.now) (c.clone_waker.ensures c.args.line) (λ sent stop. refl {A = List ℕ} {a = []}))

pub returns-in-Again : goal.returns-in-Again
returns-in-Again g c =
    rw c.in-Again.is (quietly c.args.line (said.again c.in-Again.waker) c.args.self.now c.again.new.self c.again.result (g.W.Write.contents c.args.writer.now) (c.again.ensures c.args.line) (λ sent stop. refl {A = List ℕ} {a = []}))

pub returns-in-WakeRef : goal.returns-in-WakeRef
returns-in-WakeRef g c =
    rw c.in-WakeRef.is (quietly c.args.line (said.wake_ref c.in-WakeRef.waker c.in-WakeRef.moment) c.args.self.now c.wake_ref.new.self c.wake_ref.result (g.W.Write.contents c.args.writer.now) (c.wake_ref.ensures c.args.line) (λ sent stop. refl {A = List ℕ} {a = []}))

pub returns-in-Wake : goal.returns-in-Wake
returns-in-Wake g c =
    rw c.in-Wake.is (quietly c.args.line (said.wake c.in-Wake.waker c.in-Wake.moment) c.args.self.now c.wake.new.self c.wake.result (g.W.Write.contents c.args.writer.now) (c.wake.ensures c.args.line) (λ sent stop. refl {A = List ℕ} {a = []}))

pub returns-in-Release : goal.returns-in-Release
returns-in-Release g c =
    rw c.in-Release.is (quietly c.args.line (said.release c.in-Release.waker) c.args.self.now c.release.new.self c.release.result (g.W.Write.contents c.args.writer.now) (c.release.ensures c.args.line) (λ sent stop. refl {A = List ℕ} {a = []}))

pub returns-in-PollOp : goal.returns-in-PollOp
returns-in-PollOp g c =
    rw c.in-PollOp.is (quietly c.args.line (said.poll_op c.in-PollOp.resource c.in-PollOp.op c.in-PollOp.task c.in-PollOp.name.now c.in-PollOp.ready) c.args.self.now c.poll_op.new.self c.poll_op.result (g.W.Write.contents c.args.writer.now) (c.poll_op.ensures c.args.line) (λ sent stop. refl {A = List ℕ} {a = []}))

pub returns-in-Capacity : goal.returns-in-Capacity
returns-in-Capacity g c =
    rw c.in-Capacity.is (quietly c.args.line (said.capacity c.in-Capacity.count) c.args.self.now c.say_capacity.new.self c.say_capacity.result (g.W.Write.contents c.args.writer.now) (c.say_capacity.ensures c.args.line c.in-Capacity.count) (λ sent stop. refl {A = List ℕ} {a = []}))

pub returns-in-Retention : goal.returns-in-Retention
returns-in-Retention g c =
    rw c.in-Retention.is (quietly c.args.line (said.retention c.in-Retention.span) c.args.self.now c.say_retention.new.self c.say_retention.result (g.W.Write.contents c.args.writer.now) (c.say_retention.ensures c.args.line c.in-Retention.span) (λ sent stop. refl {A = List ℕ} {a = []}))

pub returns-in-Times : goal.returns-in-Times
returns-in-Times g c =
    rw c.in-Times.is (quietly c.args.line said.times c.args.self.now c.say_times.new.self c.say_times.result (g.W.Write.contents c.args.writer.now) (c.say_times.ensures c.args.line) (λ sent stop. refl {A = List ℕ} {a = []}))

pub returns-in-Waits : goal.returns-in-Waits
returns-in-Waits g c =
    rw c.in-Waits.is (quietly c.args.line said.waits c.args.self.now c.say_waits.new.self c.say_waits.result (g.W.Write.contents c.args.writer.now) (c.say_waits.ensures c.args.line) (λ sent stop. refl {A = List ℕ} {a = []}))

pub returns-in-Resource : goal.returns-in-Resource
returns-in-Resource g c =
    rw c.in-Resource.is (quietly c.args.line (said.resource c.in-Resource.moment c.in-Resource.kind.now c.in-Resource.concrete.now c.in-Resource.attrs) c.args.self.now c.make_resource.new.self c.make_resource.result (g.W.Write.contents c.args.writer.now) c.make_resource.ensures (λ sent stop. refl {A = List ℕ} {a = []}))

pub returns-in-CloseResource : goal.returns-in-CloseResource
returns-in-CloseResource g c =
    rw c.in-CloseResource.is (quietly c.args.line (said.close_resource c.in-CloseResource.resource c.in-CloseResource.moment) c.args.self.now c.close_resource.new.self c.close_resource.result (g.W.Write.contents c.args.writer.now) (c.close_resource.ensures c.args.line) (λ sent stop. refl {A = List ℕ} {a = []}))

pub returns-in-ChangeResource : goal.returns-in-ChangeResource
returns-in-ChangeResource g c =
    rw c.in-ChangeResource.is (quietly c.args.line (said.change_resource c.in-ChangeResource.resource c.in-ChangeResource.index c.in-ChangeResource.change) c.args.self.now c.change_resource.new.self c.change_resource.result (g.W.Write.contents c.args.writer.now) (c.change_resource.ensures c.args.line) (λ sent stop. refl {A = List ℕ} {a = []}))

pub returns-in-Op : goal.returns-in-Op
returns-in-Op g c =
    rw c.in-Op.is (quietly c.args.line (said.op c.in-Op.moment c.in-Op.resource c.in-Op.source.now c.in-Op.attrs) c.args.self.now c.make_op.new.self c.make_op.result (g.W.Write.contents c.args.writer.now) (c.make_op.ensures c.args.line) (λ sent stop. refl {A = List ℕ} {a = []}))

pub returns-in-OpTask : goal.returns-in-OpTask
returns-in-OpTask g c =
    rw c.in-OpTask.is (quietly c.args.line (said.op_task c.in-OpTask.op c.in-OpTask.task) c.args.self.now c.set_task.new.self c.set_task.result (g.W.Write.contents c.args.writer.now) (c.set_task.ensures c.args.line) (λ sent stop. refl {A = List ℕ} {a = []}))

pub returns-in-StartOp : goal.returns-in-StartOp
returns-in-StartOp g c =
    rw c.in-StartOp.is (quietly c.args.line (said.start_op c.in-StartOp.op c.in-StartOp.moment) c.args.self.now c.start_op.new.self c.start_op.result (g.W.Write.contents c.args.writer.now) (c.start_op.ensures c.args.line) (λ sent stop. refl {A = List ℕ} {a = []}))

pub returns-in-EndOp : goal.returns-in-EndOp
returns-in-EndOp g c =
    rw c.in-EndOp.is (quietly c.args.line (said.finish_op c.in-EndOp.op c.in-EndOp.moment) c.args.self.now c.end_op.new.self c.end_op.result (g.W.Write.contents c.args.writer.now) (c.end_op.ensures c.args.line) (λ sent stop. refl {A = List ℕ} {a = []}))

pub returns-in-CloseOp : goal.returns-in-CloseOp
returns-in-CloseOp g c =
    rw c.in-CloseOp.is (quietly c.args.line (said.close_op c.in-CloseOp.op c.in-CloseOp.moment) c.args.self.now c.close_op.new.self c.close_op.result (g.W.Write.contents c.args.writer.now) (c.close_op.ensures c.args.line) (λ sent stop. refl {A = List ℕ} {a = []}))

pub returns-in-ChangeOp : goal.returns-in-ChangeOp
returns-in-ChangeOp g c =
    rw c.in-ChangeOp.is (quietly c.args.line (said.change_op c.in-ChangeOp.op c.in-ChangeOp.index c.in-ChangeOp.change) c.args.self.now c.change_op.new.self c.change_op.result (g.W.Write.contents c.args.writer.now) (c.change_op.ensures c.args.line) (λ sent stop. refl {A = List ℕ} {a = []}))

pub returns-in-Polls : goal.returns-in-Polls
returns-in-Polls g c =
    rw c.in-Polls.is (quietly c.args.line (said.polls c.in-Polls.task c.in-Polls.count c.in-Polls.moment c.in-Polls.run' c.in-Polls.every) c.args.self.now c.polls.new.self c.polls.result (g.W.Write.contents c.args.writer.now) (c.polls.ensures c.args.line) (λ sent stop. refl {A = List ℕ} {a = []}))

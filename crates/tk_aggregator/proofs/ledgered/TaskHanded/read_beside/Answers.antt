use Rattle.std.proofs.Common.{◌≡◌, ℕ, List, [], ◌∷◌, ◌<◌, sym, subst}
use Rattle.tk_core.specs.declared.task.call.TaskCall.{TaskCall}
use Rattle.tk_core.specs.declared.task.call.TaskCall.TheVariants.{Read}
use Rattle.tk_core.specs.declared.task.row.TaskRow.{TaskRow}
use Rattle.tk_core.specs.declared.reply.Reply.TheVariants.{Shown}
use Rattle.tk_core.specs.TaskMeaning.{task_meaning}
use Rattle.tk_cell.specs.Views.{times}
use Rattle.tk_ledgers.specs.Called.{HasCalled}
use Rattle.tk_ledgers.specs.Callers.{HoldsAllBut}
use Rattle.tk_ledgers.proofs.BesideLemmas.{beside_is_call}
use Rattle.tk_ledgers.proofs.CalledLemmas.{readings_show_called}
use Rattle.tk_aggregator.proofs.ledgered.TaskHanded.read_beside.Goals as goal

pub returns : goal.returns
returns g c =
    let k = c.read_beside.ensures in
    let v = c.args.hand.now.token.view in
    let q = c.args.handle.now.token.view in
    let w = c.read_beside.new.self.token.view in
    let u = c.read_beside.new.inspector.token.view in
    let row = c.read_beside.result in
    record {
      reading = record { id = k.inspector.0; ledger = k.inspector.1; entry = beside_is_call task_meaning v q w u Read (Shown row) k.beside };
      id = k.id;
      ledger = k.ledger;
      live = λ n there. subst (λ (ns : List ℕ). 0 < times n ns) (sym k.live) there;
      called = λ only opening calls has. readings_show_called task_meaning Read v q w u row (1 ∷ []) opening calls k.beside
          (k.row (subst (λ (ns : List ℕ). HoldsAllBut task_meaning ns v) (sym only.held) has.holds) only.reads) has;
    }

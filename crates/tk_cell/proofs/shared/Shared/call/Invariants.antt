use Rattle.std.proofs.Common.{◌≡◌, Some}
use Rattle.tk_cell.proofs.shared.Shared.call.Given as goal

abbrev pub ghosts-try_call : goal.ghosts-try_call
ghosts-try_call g a = record { picked = Some a.call }

abbrev pub invariant-loop : goal.invariant-loop
invariant-loop g l = record {
  runs : (goal.iterator-loop g).can_next l.iterator';
  ends : (goal.iterator-loop g).is_finite l.iterator';
  ledger : l.token.ledger ≡ l.initial.token.ledger;
  view : l.token.view ≡ l.initial.token.view;
}

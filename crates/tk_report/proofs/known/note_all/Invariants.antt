use Rattle.std.proofs.Common.{◌≡◌, [], take}
use Rattle.std.specs.Prelude.{fold}
use Rattle.tk_report.proofs.KnownLemmas.{with_noted}
use Rattle.tk_report.proofs.known.note_all.Given as goal

-- the tasks so far are noted
abbrev pub invariant-loop-place : goal.invariant-loop-place
invariant-loop-place l = l.noted.entries ≡ fold (with_noted l.tables.now l.before.entries) [] (take l.place l.tables.tasks)

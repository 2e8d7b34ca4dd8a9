use Rattle.std.proofs.Common.{sym, ◌∙◌}
use Rattle.tk_client.specs.Meaning.{base_of}
use Rattle.tk_client.proofs.IdLemmas.{no-ids}
use Rattle.tk_client.proofs.TimesLemmas.{none_found}
use Rattle.tk_client.proofs.times.look_at.Goals as goal

pub returns-then-is_empty : goal.returns-then-is_empty
returns-then-is_empty c =
    none_found (base_of c.args.shown.now c.args.line.now) c.args.line.now
    (sym c.task_times.ensures ∙ no-ids c.task_times.result.now (sym c.is_empty.ensures ∙ c.if-is_empty.true))

use Rattle.std.proofs.Common.{sym, ◌∙◌, inl}
use Rattle.tk_embed.specs.declared.fault.Fault.TheVariants.{NoNumber}
use Rattle.tk_embed.proofs.timed.taskscope_timed_line.Goals as goal

pub returns-then-not-is_line_number-clause-why : goal.returns-then-not-is_line_number-clause-why
returns-then-not-is_line_number-clause-why c refused = (NoNumber, c.refusal.ensures.answer, inl (cc))

use Rattle.std.proofs.Common.{refl}
use Rattle.tk_page.specs.Samples.{nothing}
use Rattle.tk_page.specs.declared.sample.Sample.{Sample}
use Rattle.tk_page.specs.declared.sample.Step.{Step}
use Rattle.tk_page.proofs.WithinLemmas.{steps_add}
use Rattle.tk_page.proofs.laws.steps_add_up.Goals as goal

pub returns-clause-busy : goal.returns-clause-busy
returns-clause-busy c = λ born samples last rises. steps_add (λ (s : Sample). s.busy) (λ (t : Step). t.busy) (λ s t. refl) (nothing born) samples last refl rises

pub returns-clause-sched : goal.returns-clause-sched
returns-clause-sched c = λ born samples last rises. steps_add (λ (s : Sample). s.sched) (λ (t : Step). t.sched) (λ s t. refl) (nothing born) samples last refl rises

pub returns-clause-wakes : goal.returns-clause-wakes
returns-clause-wakes c = λ born samples last rises. steps_add (λ (s : Sample). s.wakes) (λ (t : Step). t.wakes) (λ s t. refl) (nothing born) samples last refl rises

pub returns-clause-own : goal.returns-clause-own
returns-clause-own c = λ born samples last rises. steps_add (λ (s : Sample). s.own) (λ (t : Step). t.own) (λ s t. refl) (nothing born) samples last refl rises

use Rattle.std.proofs.Common.{subst}
use Rattle.tk_report.specs.Pieces.{Puts}
use Rattle.tk_report.proofs.PutLemmas.{both}
use Rattle.tk_metrics.specs.Blame.{held_sample, waited_family}
use Rattle.tk_metrics.specs.Samples.{family}
use Rattle.tk_metrics.specs.declared.family.Family.TheVariants.{HeldUp}
use Rattle.tk_metrics.proofs.blame.put_blame.Goals as goal

pub returns : goal.returns
returns c = λ shown d.
    both (c.in_ok-put_odd.ensures shown d)
    (both (subst (λ hs. Puts c.put_odd.new.out.items c.put_held.new.out.items (family HeldUp held_sample hs)) (c.held.ensures shown d) c.in_ok-put_held.ensures)
    (subst (λ s. Puts c.put_held.new.out.items c.put_waited.new.out.items (waited_family s)) (c.shares.ensures shown d) c.in_ok-put_waited.ensures))

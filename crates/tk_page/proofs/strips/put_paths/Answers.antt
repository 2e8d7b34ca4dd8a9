use Rattle.std.proofs.Common.{subst}
use Rattle.tk_paper.specs.Pieces.{Writes}
use Rattle.tk_page.specs.Strips.{paths_of}
use Rattle.tk_paper.proofs.PutLemmas.{then}
use Rattle.tk_page.proofs.strips.put_paths.Goals as goal

pub returns : goal.returns
returns c =
    subst (λ most. Writes c.args.paper.now c.put_path-4.new.paper (paths_of c.args.scale most c.args.steps.now)) c.most_wakes-most.ensures
    (then c.in_ok-put_path.ensures (then c.in_ok-put_path-2.ensures (then c.in_ok-put_path-3.ensures c.in_ok-put_path-4.ensures)))

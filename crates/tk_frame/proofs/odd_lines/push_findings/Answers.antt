use Rattle.std.proofs.Common.{List, ℕ, subst}
use Rattle.tk_odd.specs.Findings.{Placed}
use Rattle.tk_screen.specs.Texts.{Puts}
use Rattle.tk_screen.proofs.PutLemmas.{both}
use Rattle.tk_frame.specs.Findings.{list_part}
use Rattle.tk_frame.proofs.odd_lines.push_findings.Goals as goal

pub returns : goal.returns
returns c = both c.in_ok-push_calm.ensures
    (subst (λ (n : ℕ). Puts c.push_calm.new.lines.items c.push_list.new.lines.items (list_part n c.args.tables.now.tasks c.args.odd.now.findings)) c.most_of.ensures
    (subst (λ (xs : List Placed). Puts c.push_calm.new.lines.items c.push_list.new.lines.items (list_part c.most_of.result c.args.tables.now.tasks xs)) c.findings.ensures.found
    c.in_ok-push_list.ensures))

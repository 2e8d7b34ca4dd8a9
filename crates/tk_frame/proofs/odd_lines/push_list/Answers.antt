use Rattle.std.proofs.Common.{List, ℕ, length, map, take, ap, sym, ◌∙◌, subst}
use Rattle.std.proofs.lemmas.List.{length-map}
use Rattle.tk_odd.specs.Findings.{Placed, placed}
use Rattle.tk_screen.specs.Texts.{Puts}
use Rattle.tk_screen.proofs.PutLemmas.{both}
use Rattle.tk_frame.specs.Findings.{more_findings, numbered, shown_line}
use Rattle.tk_frame.proofs.FindingLemmas.{map_take}
use Rattle.tk_frame.proofs.odd_lines.push_list.Goals as goal

pub returns : goal.returns
returns c =
    let list = c.args.list.now in
    let each : Puts c.args.lines.now.items c.push_each.new.lines.items (numbered (shown_line c.args.tables.now.tasks) 1 (take c.args.most (map placed list))) =
    subst (λ (xs : List Placed). Puts c.args.lines.now.items c.push_each.new.lines.items (numbered (shown_line c.args.tables.now.tasks) 1 xs))
    (ap (map placed) c.first_of.ensures ∙ map_take c.args.most list) c.in_ok-push_each.ensures in
    let more : Puts c.push_each.new.lines.items c.push_more.new.lines.items (more_findings c.args.most (length (map placed list))) =
    subst (λ (n : ℕ). Puts c.push_each.new.lines.items c.push_more.new.lines.items (more_findings c.args.most n))
    (sym (length-map list placed)) c.in_ok-push_more.ensures in
    both each more

use Rattle.std.proofs.Common.{◌≡◌, [], ap, ◌∙◌, IfOk, List, map, subst}
use Rattle.std.specs.Prelude.{fold}
use Rattle.tk_odd.specs.Diagnosis.{Standing, standing_of}
use Rattle.tk_odd.specs.Findings.{Placed, all_odd, findings_of, placed, put_in}
use Rattle.tk_odd.proofs.diagnosis.Diagnosis.findings.Goals as goal

pub returns : goal.returns
unfolding findings_of
returns c = λ shown h.
    let tables = c.args.tables.now in
    let limits = c.args.self.now.limits in
    let is : fold put_in [] (map placed c.in_ok-all_odd.field-0.items) ≡ findings_of limits (standing_of limits shown) tables =
    ap (fold put_in []) (c.in_ok-all_odd.ensures ∙ ap (λ (d : Standing). all_odd limits d tables) h.standing) in
    subst (λ (xs : List Placed). IfOk c.sorted.result (λ list. map placed list.items ≡ xs)) is c.sorted.ensures

use Rattle.std.proofs.Common.{◌≡◌, ℕ, ◌+◌, ◌^◌, ◌∙◌, List, [], ◌∷◌, ◌++◌, length, ap, arith, sym, subst}
use Rattle.tk_client.specs.Changes.{Leads, Timed}
use Rattle.tk_core.specs.Lists.{capped}
use Rattle.tk_reading.specs.Shown.{tables_of}
use Rattle.tk_reading.proofs.ShownLemmas.{leads, seen_few, tables-append}
use Rattle.tk_stream.specs.Tables.{TablesView}
use Rattle.tk_page.specs.Kept.{Tells, last_of, moments_of, totals_of}
use Rattle.tk_page.specs.declared.sample.Sample.{Sample}
use Rattle.tk_page.proofs.HistoryLemmas.{leads_last, length-totals_of, tells_more, total_now}
use Rattle.tk_page.proofs.history.HistoryObserves.line.Goals as goal

pub returns : goal.returns
returns c = λ from seen many is h.
    let shown = tables_of seen in
    let few = seen_few (2 ^ 62) seen many in
    let old = c.args.self.now in
    let new = c.end_line.new.self in
    let tables = c.args.tables.now in
    let change = c.args.change.now in
    let e = c.in_ok-end_line.ensures in
    let now : Timed = (tables, c.args._times.now) in
    let l : Leads (last_of shown) tables change = leads_last shown tables change (leads seen now change is) in
    let moments : c.as_slice.result.now ≡ moments_of shown = c.as_slice.ensures.value ∙ h.moments in
    let moment : old.last.now ≡ (last_of shown).now = ap (λ (s : Sample). s.now) h.last ∙ total_now shown in
    let left : length c.left.result.now ≡ length change.left = ap (λ xs. length xs) c.left.ensures in
    subst (λ (xs : List TablesView). Tells xs new) (sym (tables-append seen (now ∷ [])))
    (tells_more shown tables change c.in_ok-sum.sum c.follow.new.self old new l h (c.in_ok-follow.ensures shown few moments l h.tracks) (c.in_ok-sum.ensures shown l h.tracks moment)
    (e.moments ∙ ap (λ (m : ℕ). old.moments.items ++ m ∷ []) c.now.ensures) e.tracks (e.sums (totals_of shown) (omega (arith, length-totals_of shown, few)) h.sums) e.last
    (e.gone ∙ ap (λ (n : ℕ). capped (old.gone + n)) left))

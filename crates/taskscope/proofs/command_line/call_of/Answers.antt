use Rattle.std.proofs.Common.{ap, ap₂, ◌∙◌, codes, is_some, sym, [], unwrap_or}
use Rattle.taskscope.specs.Requests.{asked_in, before_in, explains_in, file_in, filter_in, texts, since_in, title_in, to_in, until_in}
use Rattle.taskscope.proofs.ParseLemmas.{taken_words_ask}
use Rattle.taskscope.proofs.command_line.call_of.Goals as goal

pub unwrap-request-requires : goal.unwrap-request-requires
unwrap-request-requires c =
    ap is_some (c.asked_in.ensures ∙ ap asked_in c.in_ok-matches.ensures.found) ∙ taken_words_ask (texts c.args.words.now) c.in_ok-matches.ensures.fails

pub returns-clause-asked : goal.returns-clause-asked
returns-clause-asked c = ap asked_in (sym c.in_ok-matches.ensures.found) ∙ (sym c.asked_in.ensures ∙ c.unwrap-request.ensures)

pub returns-clause-file : goal.returns-clause-file
returns-clause-file c = ap file_in (sym c.in_ok-matches.ensures.found) ∙ sym c.file_in-file.ensures

pub returns-clause-filter : goal.returns-clause-filter
returns-clause-filter c = ap filter_in (sym c.in_ok-matches.ensures.found) ∙ sym c.filter_in.ensures

pub returns-clause-to : goal.returns-clause-to
returns-clause-to c = ap to_in (sym c.in_ok-matches.ensures.found) ∙ sym c.to_in.ensures

pub returns-clause-title : goal.returns-clause-title
returns-clause-title c =
    let title = ap title_in (sym c.in_ok-matches.ensures.found) ∙ sym c.title_in.ensures in
    let file = ap file_in (sym c.in_ok-matches.ensures.found) ∙ sym c.file_in-file.ensures in
    let name = ap (λ f. unwrap_or f (codes "taskscope")) file ∙ sym c.text_or-name.ensures in
    ap₂ (λ t n. unwrap_or t n) title name ∙ sym c.text_or.ensures

pub returns-clause-before : goal.returns-clause-before
returns-clause-before c =
    ap (λ b. unwrap_or b []) (ap before_in (sym c.in_ok-matches.ensures.found) ∙ sym c.before_in.ensures) ∙ sym c.text_or-2.ensures

pub returns-clause-until : goal.returns-clause-until
returns-clause-until c = ap until_in (sym c.in_ok-matches.ensures.found) ∙ sym c.until_in.ensures

pub returns-clause-since : goal.returns-clause-since
returns-clause-since c = ap since_in (sym c.in_ok-matches.ensures.found) ∙ sym c.since_in.ensures

pub returns-clause-explains : goal.returns-clause-explains
returns-clause-explains c = ap explains_in (sym c.in_ok-matches.ensures.found) ∙ sym c.explains_in.ensures

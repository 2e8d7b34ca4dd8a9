use Rattle.std.proofs.Common.{List, ℕ, [], ◌∷◌, ◌++◌, codes, subst}
use Rattle.tk_report.specs.Pieces.{Puts}
use Rattle.tk_report.proofs.PutLemmas.{both}
use Rattle.tk_compare.specs.Changes.{rate, rate_in_hundredths}
use Rattle.tk_compare.specs.Lines.{words_in_hundredths, words_of}
use Rattle.tk_compare.proofs.LineLemmas.{words_put}
use Rattle.tk_compare.proofs.lines.put_line.Goals as goal

pub returns : goal.returns
returns c =
    let spans = c.args.spans in
    let x = c.args.x.now in
    let site : List (List ℕ) = codes "kind" ∷ c.args.site.now ∷ [] in
    let polls = words_in_hundredths (codes "polls") (rate_in_hundredths spans.before x.before.polls) (rate_in_hundredths spans.after x.after.polls) in
    let ran = words_of (codes "ran") (rate spans.before x.before.ran) (rate spans.after x.after.ran) in
    let waited = words_of (codes "waited") (rate spans.before x.before.waited) (rate spans.after x.after.waited) in
    let held = words_of (codes "held-up") (rate spans.before x.before.held) (rate spans.after x.after.held) in
    both (subst (Puts _ _) c.as_bytes.ensures.value c.in_ok-put.ensures)
    (words_put polls (ran ++ (waited ++ (held ++ site))) c.in_ok-put_polls.ensures
    (words_put ran (waited ++ (held ++ site)) c.in_ok-put_rates.ensures
    (words_put waited (held ++ site) c.in_ok-put_rates-2.ensures
    (words_put held site c.in_ok-put_rates-3.ensures c.in_ok-put_site.ensures))))

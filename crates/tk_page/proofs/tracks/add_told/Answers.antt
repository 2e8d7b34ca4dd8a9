use Rattle.std.proofs.Common.{ℕ, List, cond, nat_eq, true, ap, sym, ◌∙◌, take, arith}
use Rattle.std.specs.Prelude.{◌||◌}
use Rattle.std.proofs.lemmas.List.{take_all}
use Rattle.tk_stream.specs.Tables.{is_among}
use Rattle.tk_client.proofs.TimesLemmas.{take_next}
use Rattle.tk_odd.proofs.RowLemmas.{listed_next}
use Rattle.tk_page.proofs.tracks.add_told.Goals as goal

pub loop-id-preserved : goal.loop-id-preserved
loop-id-preserved c =
    let told : List ℕ = c.args.told.now in
    let i = c.loop-id.id-index in
    let id : ℕ = c.id-item.result in
    let was = is_among c.args.ids.now.keys in
    λ other.
    c.in_ok-list.ensures other
    ∙ ap (λ (n : ℕ). cond (nat_eq n other) true (is_among c.loop-id.ids.keys other)) c.value.ensures.value
    ∙ ap (cond (nat_eq id other) true) (c.loop-id.invariant other)
    ∙ listed_next (was other) (take i told) id other
    ∙ ap (λ (ns : List ℕ). is_among ns other || was other) (sym (take_next told i id c.loop-id-test.true c.id-item.is))

pub returns : goal.returns
returns c = λ other.
    c.loop-id.invariant other
    ∙ ap (λ (ns : List ℕ). is_among ns other || is_among c.args.ids.now.keys other) (take_all c.loop-id.id-index c.args.told.now (omega (arith, c.loop-id-test.false)))

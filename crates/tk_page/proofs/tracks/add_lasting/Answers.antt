use Rattle.std.proofs.Common.{ℕ, List, cond, get_or, nat_eq, true, ap, sym, ◌∙◌, take, arith}
use Rattle.std.specs.Prelude.{◌||◌}
use Rattle.std.proofs.lemmas.List.{take_all}
use Rattle.tk_stream.proofs.SlotLemmas.{taken_more}
use Rattle.tk_stream.specs.Tables.{is_among}
use Rattle.tk_odd.proofs.RowLemmas.{listed_next}
use Rattle.tk_page.proofs.tracks.add_lasting.Goals as goal

pub loop-id-preserved : goal.loop-id-preserved
loop-id-preserved c =
    let lasting : List ℕ = c.args.lasting.now in
    let i = c.loop-id.id-index in
    let id : ℕ = get_or lasting i 0 in
    let was = is_among c.args.ids.now.keys in
    λ other.
    c.in_ok-list.ensures other
    ∙ ap (cond (nat_eq id other) true) (c.loop-id.invariant other)
    ∙ listed_next (was other) (take i lasting) id other
    ∙ ap (λ (ns : List ℕ). is_among ns other || was other) (sym (taken_more i lasting 0 c.loop-id-test.true))

pub returns : goal.returns
returns c = λ other.
    c.loop-id.invariant other
    ∙ ap (λ (ns : List ℕ). is_among ns other || is_among c.args.ids.now.keys other) (take_all c.loop-id.id-index c.args.lasting.now (omega (arith, c.loop-id-test.false)))

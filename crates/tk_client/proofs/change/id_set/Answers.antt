use Rattle.std.proofs.Common.{ℕ, List, [], ◌∷◌, ◌++◌, cond, ap, sym, ◌∙◌, take, arith}
use Rattle.std.specs.Prelude.{nat_eq, ◌||◌}
use Rattle.std.proofs.lemmas.List.{take_all}
use Rattle.tk_stream.specs.Tables.{is_among}
use Rattle.tk_client.proofs.NotedLemmas.{among-insert, among-next}
use Rattle.tk_client.proofs.TimesLemmas.{take_next}
use Rattle.tk_client.proofs.change.id_set.Goals as goal

pub loop-id-preserved : goal.loop-id-preserved
loop-id-preserved c =
    let gone : List ℕ = c.args.gone.now in
    let id : ℕ = c.id-item.result in
    let i = c.loop-id.id-index in
    let keys = c.loop-id.ids.keys in
    λ other.
    among-insert keys c.insert.new.self.keys id
    (c.in_ok-insert.ensures.keys ∙ ap (λ (n : ℕ). cond (is_among keys n) keys (keys ++ n ∷ [])) c.value.ensures.value) other
    ∙ ap (λ b. b || nat_eq other id) (c.loop-id.invariant other)
    ∙ among-next (take i gone) id other
    ∙ ap (λ (ns : List ℕ). is_among ns other) (sym (take_next gone i id c.loop-id-test.true c.id-item.is))

pub returns : goal.returns
returns c = λ id.
    c.loop-id.invariant id ∙ ap (λ (ns : List ℕ). is_among ns id) (take_all c.loop-id.id-index c.args.gone.now (omega (arith, c.loop-id-test.false)))

use Rattle.std.proofs.Common.{◌≡◌, ◌+◌, ◌++◌, ◌∷◌, [], ℕ, List, cond, nat_eq, take, ap, sym, ◌∙◌}
use Rattle.std.proofs.lemmas.List.{take_all}
use Rattle.tk_stream.specs.Tables.{is_among, item_with}
use Rattle.tk_stream.specs.Times.{times_id}
use Rattle.tk_stream.proofs.SlotLemmas.{taken_more}
use Rattle.tk_client.proofs.NotedLemmas.{among-next}
use Rattle.tk_metrics.proofs.LatestLemmas.{learned_next}
use Rattle.tk_metrics.proofs.latest.Latest.learn.Goals as goal

pub loop-id-preserved : goal.loop-id-preserved
loop-id-preserved c = λ other.
    let told : List ℕ = c.args.told.now in
    let i = c.loop-id.id-index in
    let one : ℕ = c.id-item.result in
    let from = item_with times_id other c.args.times.now in
    let was = item_with times_id other c.args.self.now.times in
    let more : take (i + 1) told ≡ take i told ++ one ∷ [] = taken_more i told one c.loop-id-test.true ∙ ap (λ x. take i told ++ x ∷ []) (sym c.id-item.is) in
    c.in_ok-learn_one.ensures other
    ∙ ap (λ o. cond (nat_eq other one) from o) (c.loop-id.invariant other)
    ∙ learned_next (is_among (take i told) other) (nat_eq other one) from was
    ∙ ap (λ b. cond b from was) (among-next (take i told) one other ∙ ap (λ ns. is_among ns other) (sym more))

pub returns : goal.returns
returns c = λ other.
    c.loop-id.invariant other
    ∙ ap (λ ns. cond (is_among ns other) (item_with times_id other c.args.times.now) (item_with times_id other c.args.self.now.times)) (take_all c.loop-id.id-index c.args.told.now c.loop-id-test.false)

use Rattle.std.proofs.Common.{◌≡◌, ℕ, List, [], ◌∷◌, ◌++◌, ◌+◌, None, false, cond, map, nat_eq, ap, sym, ◌∙◌, take, arith}
use Rattle.std.proofs.lemmas.List.{map-append, take_all}
use Rattle.tk_client.specs.Changes.{left_id}
use Rattle.tk_client.specs.declared.change.LeftTask.{LeftTask}
use Rattle.tk_stream.proofs.SlotLemmas.{taken_more}
use Rattle.tk_stream.specs.Tables.{is_among}
use Rattle.indexmap.specs.IndexMap.{get}
use Rattle.tk_odd.proofs.RowLemmas.{set_next}
use Rattle.tk_page.proofs.tracks.Tracks.forget_all.Goals as goal

pub loop-one-preserved : goal.loop-one-preserved
loop-one-preserved c =
    let left : List LeftTask = c.args.left.now in
    let i = c.loop-one.one-index in
    let one : LeftTask = c.one-item.result in
    let ids : List ℕ = map left_id (take i left) in
    let more : take (i + 1) left ≡ take i left ++ one ∷ [] = taken_more i left one c.loop-one-test.true ∙ ap (λ (x : LeftTask). take i left ++ x ∷ []) (sym c.one-item.is) in
    let next : map left_id (take (i + 1) left) ≡ ids ++ left_id one ∷ [] = ap (map left_id) more ∙ map-append left_id (take i left) (one ∷ []) in
    record {
      tasks = λ other.
          c.forget.ensures.tasks other
          ∙ ap (cond (nat_eq (left_id one) other) None) (c.loop-one.invariant.tasks other)
          ∙ set_next (λ (n : ℕ). None) (get nat_eq c.args.self.now.tasks other) ids (left_id one) other
          ∙ ap (λ (ns : List ℕ). cond (is_among ns other) None (get nat_eq c.args.self.now.tasks other)) (sym next);
      lasting = λ other.
          c.forget.ensures.lasting other
          ∙ ap (cond (nat_eq (left_id one) other) false) (c.loop-one.invariant.lasting other)
          ∙ set_next (λ (n : ℕ). false) (is_among c.args.self.now.lasting.keys other) ids (left_id one) other
          ∙ ap (λ (ns : List ℕ). cond (is_among ns other) false (is_among c.args.self.now.lasting.keys other)) (sym next);
    }

pub returns-clause-tasks : goal.returns-clause-tasks
returns-clause-tasks c = λ other.
    c.loop-one.invariant.tasks other
    ∙ ap (λ (xs : List LeftTask). cond (is_among (map left_id xs) other) None (get nat_eq c.args.self.now.tasks other)) (take_all c.loop-one.one-index c.args.left.now (omega (arith, c.loop-one-test.false)))

pub returns-clause-lasting : goal.returns-clause-lasting
returns-clause-lasting c = λ other.
    c.loop-one.invariant.lasting other
    ∙ ap (λ (xs : List LeftTask). cond (is_among (map left_id xs) other) false (is_among c.args.self.now.lasting.keys other)) (take_all c.loop-one.one-index c.args.left.now (omega (arith, c.loop-one-test.false)))

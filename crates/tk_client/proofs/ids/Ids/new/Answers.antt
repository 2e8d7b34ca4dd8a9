use Rattle.std.proofs.Common.{◌≡◌, ℕ, List, [], ◌∷◌, ◌++◌, true, false, cond, get_or, nat_eq, take, refl, ap, sym, ◌∙◌}
use Rattle.std.specs.List.{list_any}
use Rattle.tk_client.proofs.IdLemmas.{once-next, twice-here, was_there, was_away}
use Rattle.tk_client.proofs.ids.Ids.new.Goals as goal

pub returns-then-not-branch-clause-none : goal.returns-then-not-branch-clause-none
returns-then-not-branch-clause-none c =
    let ids : List ℕ = c.args.ids.now in
    let x : ℕ = get_or ids c.loop-id.id-index 0 in
    let there : list_any (λ m. nat_eq x m) (take c.loop-id.id-index ids) ≡ true =
    ap (list_any (λ m. nat_eq x m)) (sym c.loop-id.invariant.keys) ∙ was_there c.in_ok-insert.field-0 _ c.in_ok-insert.ensures.added c.if-not-branch.true in
    twice-here ids c.loop-id.id-index x c.loop-id-test.true refl there

pub loop-id-preserved : goal.loop-id-preserved
loop-id-preserved c =
    let ids : List ℕ = c.args.ids.now in
    let x : ℕ = get_or ids c.loop-id.id-index 0 in
    let away : list_any (λ m. nat_eq x m) c.loop-id.set.keys ≡ false = was_away c.in_ok-insert.field-0 _ c.in_ok-insert.ensures.added c.if-not-branch.false in
    let next = once-next ids c.loop-id.id-index x c.loop-id-test.true refl c.loop-id.invariant.once (ap (list_any (λ m. nat_eq x m)) (sym c.loop-id.invariant.keys) ∙ away) in
    record {
      keys = c.in_ok-insert.ensures.keys ∙ ap (λ b. cond b c.loop-id.set.keys (c.loop-id.set.keys ++ x ∷ [])) away ∙ ap (λ ks. ks ++ x ∷ []) c.loop-id.invariant.keys ∙ next.0;
      once = next.1;
    }

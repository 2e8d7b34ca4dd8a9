use Rattle.std.proofs.Common.{◌≡◌, ℕ, ap, sym, ◌∙◌, ◌++◌, ◌∷◌, [], take, map, length, min, arith}
use Rattle.std.proofs.lemmas.List.{take_min}
use Rattle.tk_odd.specs.declared.members.Member.{Member}
use Rattle.tk_odd.specs.declared.moved.Moved.{Moved}
use Rattle.tk_odd.proofs.LoopLemmas.{mapped_next, mapped_same}
use Rattle.tk_odd.proofs.MemberLemmas.{moved_shown}
use Rattle.tk_odd.proofs.members.moved_of.Goals.{in-Some+in_ok-push, in_default}
use Rattle.tk_odd.proofs.members.moved_of.Goals as goal

pub loop-place-preserved : goal.loop-place-preserved
loop-place-preserved c =
    let es = c.args.members.now.entries in
    let i = c.loop-place.place in
    let f : ℕ × Member → Moved = λ e. e.1.moved in
    elim c.match-get_index.branch [
      | in-Some+in_ok-push w ↦
          ap (λ v. v.items) w.list-is ∙ w.in_ok-push.ensures.items ∙ ap (λ ys. ys ++ w.in-Some.member.now.moved ∷ []) c.loop-place.invariant
          ∙ sym (mapped_next f es i _ (sym w.in-Some.ensures.entry))
      | in_default w ↦ ap (λ v. v.items) w.list-is ∙ c.loop-place.invariant ∙ sym (mapped_same f es i (sym w.in_default.ensures.entry))
    ]

pub returns-clause-moved : goal.returns-clause-moved
returns-clause-moved c =
    let es = c.args.members.now.entries in
    let f : ℕ × Member → Moved = λ e. e.1.moved in
    let end : c.loop-place.place ≡ min 2147483648 (length es) = omega (arith, c.len.ensures.len, c.min-place-end.ensures) in
    c.loop-place.invariant ∙ ap (λ k. map f (take k es)) end ∙ ap (map f) (take_min 2147483648 es) ∙ moved_shown 2147483648 es

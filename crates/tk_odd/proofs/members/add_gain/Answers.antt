use Rattle.std.proofs.Common.{◌≡◌, ap, ◌∙◌, nat_eq, Some, None}
use Rattle.std.specs.Map.{lookup}
use Rattle.indexmap.specs.IndexMap.{insert_entry}
use Rattle.tk_odd.specs.Gains.{plus}
use Rattle.tk_odd.specs.Inner.{shown}
use Rattle.tk_odd.specs.Members.{moved_by}
use Rattle.tk_odd.specs.declared.members.Member.{Member}
use Rattle.tk_odd.proofs.MemberLemmas.{inserted_new, inserted_sum}
use Rattle.tk_odd.proofs.members.add_gain.Goals.{in-Some, in-None}
use Rattle.tk_odd.proofs.members.add_gain.Goals as goal

pub returns : goal.returns
returns c =
    let t = c.args.task.now in
    let gain = c.args.gain in
    let es = c.args.members.now.entries in
    let v : Member = record { place = c.in_ok-place_of.field-0; moved = moved_by t c.match-get.sum } in
    let put : shown c.insert.new.self.entries ≡ shown (insert_entry nat_eq es t.info.id v) =
    ap shown c.in_ok-insert.ensures.entries ∙ ap (λ k. shown (insert_entry nat_eq es k v)) c.value-id.ensures.value in
    elim c.match-get.branch [
      | in-Some w ↦
          let there = w.in-Some.there.now in
          let found : Some there ≡ lookup (nat_eq t.info.id) es = w.in-Some.ensures.value ∙ ap (λ k. lookup (nat_eq k) es) c.value-id.ensures.value in
          let is : v.moved ≡ moved_by t (plus there.moved.gain gain) = ap (moved_by t) (w.sum-is ∙ w.with-sum.ensures) in
          put ∙ inserted_sum t gain v c.in_ok-place_of.ensures there es is found
      | in-None w ↦
          let none : None ≡ lookup (nat_eq t.info.id) es = w.in-None.ensures.value ∙ ap (λ k. lookup (nat_eq k) es) c.value-id.ensures.value in
          put ∙ inserted_new t gain v c.in_ok-place_of.ensures es (ap (moved_by t) w.sum-is) none
    ]

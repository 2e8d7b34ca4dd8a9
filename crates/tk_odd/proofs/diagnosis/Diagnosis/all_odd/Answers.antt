use Rattle.std.proofs.Common.{◌≡◌, ℕ, List, [], ◌++◌, ap, ap₂, ◌∙◌, map}
use Rattle.std.specs.List.{filter_map}
use Rattle.tk_odd.specs.Findings.{Placed, of_all, of_place, of_tasks, placed, running, sign_placed}
use Rattle.tk_odd.specs.declared.finding.OddKind.TheVariants.{LeftAlone, Overloaded}
use Rattle.tk_odd.proofs.diagnosis.Diagnosis.all_odd.Goals as goal

-- four lists, one put after the other
four_put : (a b c d e p q r s : List Placed) → a ≡ [] → b ≡ a ++ p → c ≡ b ++ q → d ≡ c ++ r → e ≡ d ++ s → e ≡ ((p ++ q) ++ r) ++ s
four_put a b c d e p q r s none first second third fourth =
    fourth
    ∙ ap (λ (x : List Placed). x ++ s) (third ∙ ap (λ (x : List Placed). x ++ r) (second ∙ ap (λ (x : List Placed). x ++ q) (first ∙ ap (λ (x : List Placed). x ++ p) none)))

pub returns : goal.returns
returns c =
    let self = c.args.self.now in
    let tables = c.args.tables.now in
    let long = self.limits.long in
    let there : map (λ v. v.items) c.deref-2.result.now ≡ running long tables = ap (map (λ v. v.items)) c.deref-2.ensures.value ∙ c.in_ok-running.ensures in
    let by_place = λ (last : ℕ) (places : List (List ℕ)). map placed c.new-list.result.items ++ filter_map (of_place long last places) self.places.held in
    let signs = c.in_ok-signs.ensures ∙ ap₂ (λ (now : ℕ) (passed : List ℕ). of_tasks self.limits now passed tables.tasks) c.now.ensures c.deref.ensures.value in
    four_put (map placed c.new-list.result.items) (map placed c.add_places.new.list.items) (map placed c.add_stretch.new.list.items) (map placed c.add_stretch-2.new.list.items)
    (map placed c.add_signs.new.list.items) _ _ _ _
    (ap (map placed) c.new-list.ensures.items)
    (c.in_ok-add_places.ensures ∙ ap₂ by_place c.moment-last.ensures there)
    (c.in_ok-add_stretch.ensures ∙ ap (λ (last : ℕ). map placed c.add_places.new.list.items ++ of_all LeftAlone self.alone last) c.moment-last.ensures)
    (c.in_ok-add_stretch-2.ensures ∙ ap (λ (last : ℕ). map placed c.add_stretch.new.list.items ++ of_all Overloaded self.overloaded last) c.moment-last.ensures)
    (c.in_ok-add_signs.ensures ∙ ap (λ xs. map placed c.add_stretch-2.new.list.items ++ map sign_placed xs) signs)

use Rattle.std.proofs.Common.{◌≡◌, None, Some, ◌≤◌, ap, ◌∙◌, length, subst}
use Rattle.std.specs.Map.{lookup}
use Rattle.std.specs.Prelude.{OnOk}
use Rattle.std.specs.Str.{bytes_eq}
use Rattle.tk_series.proofs.LimitedLemmas.{room_of, with_known, with_rest}
use Rattle.tk_series.proofs.limited.Limited.add.Goals as goal

pub returns-in-Some : goal.returns-in-Some
returns-in-Some g c =
    let s = c.args.self.now in
    let found : Some c.in-Some.there ≡ lookup (bytes_eq c.args.labels.items) s.first = c.in-Some.ensures ∙ ap (λ k. lookup (bytes_eq k) s.first) c.as_slice.ensures.value in
    subst (λ t. OnOk c.add_known.result (c.add_known.new.self ≡ t)) (with_known g.V.Added.plus c.args.labels.items c.args.value s c.in-Some.there found) c.add_known.ensures

pub returns-else-len-self : goal.returns-else-len-self
returns-else-len-self g c =
    let s = c.args.self.now in
    let none : None ≡ lookup (bytes_eq c.args.labels.items) s.first = c.in-None.ensures ∙ ap (λ k. lookup (bytes_eq k) s.first) c.as_slice.ensures.value in
    let full : s.room ≤ length s.first =
    subst (λ r. r ≤ length s.first) (ap room_of c.self.view_is) (subst (λ n. c.self.inside.room ≤ n) c.len.ensures.len c.if-len-self.false) in
    c.add_rest.ensures ∙ with_rest g.V.Added.plus c.args.labels.items c.args.value s none full

use Rattle.std.proofs.Common.{◌≡◌, IfOk, List, ℕ, subst}
use Rattle.tk_watch.specs.Odd.{seen_in}
use Rattle.tk_watch.proofs.KeyLemmas.{held_is, none_is}
use Rattle.tk_watch.proofs.session.text_of.Goals as goal

pub returns-in-Some : goal.returns-in-Some
returns-in-Some c = λ st s.
    subst (λ (t : List ℕ). IfOk c.text_of_held.result (λ text. text.items ≡ t)) (held_is c.args.screen.now st c.args.session.now c.in-Some.held s c.in-Some.is) c.text_of_held.ensures

pub returns-in-None : goal.returns-in-None
returns-in-None c = λ st s.
    subst (λ (t : List ℕ). IfOk c.text_of_course.result (λ text. text.items ≡ t)) (none_is c.args.screen.now st c.args.session.now s c.in-None.is)
    (c.text_of_course.ensures (seen_in st.bytes) s.seen)

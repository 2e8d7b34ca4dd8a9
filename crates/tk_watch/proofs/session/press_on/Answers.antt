use Rattle.std.proofs.Common.{◌≡◌, IfOk, subst}
use Rattle.tk_frame.specs.declared.keys.Asked.{Asked}
use Rattle.tk_watch.specs.Odd.{seen_in}
use Rattle.tk_watch.proofs.KeyLemmas.{held_pressed, none_pressed}
use Rattle.tk_watch.proofs.session.press_on.Goals as goal

pub returns-in-Some : goal.returns-in-Some
returns-in-Some c = λ st s.
    subst (λ (a : Asked). IfOk c.press_by.result (λ next. next ≡ a)) (held_pressed c.args.screen.now st c.args.session.now c.in-Some.held c.args.key s c.in-Some.is) c.press_by.ensures

pub returns-in-None : goal.returns-in-None
returns-in-None c = λ st s.
    subst (λ (a : Asked). IfOk c.press_at_course.result (λ next. next ≡ a)) (none_pressed c.args.screen.now st c.args.session.now c.args.key s c.in-None.is)
    (c.press_at_course.ensures (seen_in st.bytes) s.seen)

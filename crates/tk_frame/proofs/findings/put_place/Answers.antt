use Rattle.std.proofs.Common.{List, ℕ, OnOk, subst, sym, ◌∙◌}
use Rattle.std.specs.Prelude.{string_bytes}
use Rattle.tk_screen.specs.Texts.{Puts}
use Rattle.tk_screen.proofs.PutLemmas.{nothing}
use Rattle.tk_frame.proofs.FindingLemmas.{place_is, place_none}
use Rattle.tk_frame.proofs.findings.put_place.Goals as goal

pub returns-in-Ok : goal.returns-in-Ok
returns-in-Ok c =
    subst (λ (t : List ℕ). OnOk c.put_text.result (Puts (string_bytes c.args.out.now) (string_bytes c.put_text.new.out) t))
    (c.in-Ok.ensures.cases.0 ∙ sym (place_is c.args.place.now c.in-Ok.ensures.cases.1)) c.put_text.ensures

pub returns-in-Err : goal.returns-in-Err
returns-in-Err c =
    subst (λ (t : List ℕ). Puts (string_bytes c.args.out.now) (string_bytes c.args.out.now) t)
    (sym (place_none c.args.place.now c.in-Err.ensures.cases.0)) (nothing (string_bytes c.args.out.now))

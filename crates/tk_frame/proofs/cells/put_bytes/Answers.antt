use Rattle.std.proofs.Common.{List, ℕ, OnOk, subst, sym, ◌∙◌}
use Rattle.std.specs.Prelude.{string_bytes}
use Rattle.tk_screen.specs.Texts.{Puts}
use Rattle.tk_frame.specs.Lines.{word}
use Rattle.tk_frame.proofs.FindingLemmas.{place_is, place_none}
use Rattle.tk_frame.proofs.cells.put_bytes.Goals as goal

pub returns-in-Ok : goal.returns-in-Ok
returns-in-Ok c =
    subst (λ (t : List ℕ). OnOk c.put_word.result (Puts (string_bytes c.args.out.now) (string_bytes c.put_word.new.out) (word c.args.width t)))
    (c.in-Ok.ensures.cases.0 ∙ sym (place_is c.args.bytes.now c.in-Ok.ensures.cases.1)) c.put_word.ensures

pub returns-in-Err : goal.returns-in-Err
returns-in-Err c =
    subst (λ (t : List ℕ). OnOk c.put_word-in-Err.result (Puts (string_bytes c.args.out.now) (string_bytes c.put_word-in-Err.new.out) (word c.args.width t)))
    (sym (place_none c.args.bytes.now c.in-Err.ensures.cases.0)) c.put_word-in-Err.ensures

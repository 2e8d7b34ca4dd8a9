use Rattle.std.proofs.Common.{false, ap, sym, refl, ◌∙◌}
use Rattle.tk_base_tests.specs.Uses.{first_number, first_is_new}
use Rattle.tk_cell.proofs.RoleLemmas.{drawn_held, drawn_token, made_role}
use Rattle.tk_base_tests.proofs.tests.cells.overlap.two_guests.Goals as goal

pub split-other-requires-clause-held : goal.split-other-requires-clause-held
split-other-requires-clause-held g c = drawn_held _ _ _ _ _ c.call.ensures.entry 1 (ap first_number c.in-0.is)

pub invariant_of-two : goal.invariant_of-two
invariant_of-two g c =
    let given = c.split-other.ensures.given in
    let made = drawn_token _ _ _ _ _ c.call.ensures.entry 1 (ap first_number c.in-0.is) (λ opening calls call n is e. first_is_new calls n e) _ _ given in
    (ap (λ k. k.ledger) given ∙ (c.call.ensures.own ∙ (c.requires.own ∙ sym c.in-Ok.ensures)), made_role _ _ _ (record { flags = c.args.flags; waits = false }) made refl, made.going)

use Rattle.std.proofs.Common.{◌≡◌, List, ℕ, [], ◌∷◌, ◌++◌, map, None, Some, refl, ap, sym, ◌∙◌}
use Rattle.std.specs.Prelude.{fold, option_map}
use Rattle.std.proofs.lemmas.List.Sums.{fold-append}
use Rattle.tk_ids.specs.declared.attr.AttrSpec.{AttrSpec}
use Rattle.tk_script.specs.Attributes.{attr, attr_spec, and_word, attrs_by}
use Rattle.tk_script.specs.Pieces.{pieces_left}
use Rattle.tk_script.proofs.attributes.attributes_of.Goals as goal

none_stays : (words : List (List ℕ)) → fold and_word None words ≡ None
none_stays [] = refl
none_stays (word ∷ words) = none_stays words

-- a word that declares no attribute spoils all
spoilt : (before after : List (List ℕ)) (word : List ℕ) (attrs : List AttrSpec) → fold and_word (Some []) before ≡ Some attrs → attr word ≡ None → attrs_by (before ++ word ∷ after) ≡ None
spoilt before after word attrs declared none = rw (fold-append and_word (Some []) before (word ∷ after), declared, none, none_stays after) refl

pub returns-in_default : goal.returns-in_default
returns-in_default c =
    let before : List (List ℕ) = map (λ x. x.now) c.loop-word.yielded in
    let all : pieces_left c.args.words ≡ before ++ c.in-Some.word.now ∷ pieces_left c.next.new.self = c.loop-word.invariant.cut ∙ ap (λ p. before ++ p) c.in-Some.ensures.steps in
    let none : attr c.in-Some.word.now ≡ None = sym c.parts_of.ensures ∙ ap (option_map (λ a. attr_spec a.0.now a.1)) c.in_default.is in
    sym (ap attrs_by all ∙ spoilt before (pieces_left c.next.new.self) c.in-Some.word.now _ c.loop-word.invariant.declared none)

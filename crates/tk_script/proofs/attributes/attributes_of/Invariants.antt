use Rattle.std.proofs.Common.{◌≡◌, ◌++◌, [], map, Some}
use Rattle.std.specs.Prelude.{fold}
use Rattle.tk_script.specs.Attributes.{and_word}
use Rattle.tk_script.specs.Pieces.{pieces_left}
use Rattle.tk_script.proofs.attributes.attributes_of.Given as goal

-- the words so far, and the attributes that they declare
abbrev pub invariant-loop-word : goal.invariant-loop-word
invariant-loop-word l = record {
  cut : pieces_left l.words ≡ map (λ x. x.now) l.yielded ++ pieces_left l.word-iterator;
  declared : fold and_word (Some []) (map (λ x. x.now) l.yielded) ≡ Some l.attrs.items;
}

-- How a rule is told. Inner: no public clause cites this.
use Rattle.std.specs.Prelude.{ℕ, List, [], ◌∷◌, ◌++◌}
use Rattle.tk_explain.specs.Telling.{shown}

-- a text, in which a word of the line is shown
abbrev pub rule_text : List ℕ → List ℕ → List ℕ → List ℕ
rule_text before word after = (32 ∷ 32 ∷ []) ++ (before ++ (shown word ++ (after ++ 10 ∷ [])))

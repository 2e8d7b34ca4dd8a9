-- What is written of places, one after the other.
use Rattle.std.proofs.Common.{List, ◌++◌, ℕ, sym, subst}
use Rattle.tk_report.specs.Pieces.{Puts, spaced}
use Rattle.tk_report.specs.Report.{rest_of_line}
use Rattle.tk_report.proofs.PutLemmas.{after_words, both}

-- some words of a line, and the rest of it
pub words_put : {a b c : List ℕ} (first words : List (List ℕ)) → Puts a b (spaced first) → Puts b c (rest_of_line words) → Puts a c (rest_of_line (first ++ words))
words_put {a} {b} {c} first words g h = subst (Puts a c) (sym (after_words first words)) (both g h)

-- The sixteen words of a resource's row. Inner: no crate above cites it.
use Rattle.std.specs.Prelude.{ℕ, ◌+◌, if◌then◌else◌, List, [], ◌∷◌, ◌++◌, replicate, is_some}
use Rattle.tk_core.specs.Words.{word_of}
use Rattle.tk_core.specs.AttrWords.{attr_flags, attr_words, fit_words}
use Rattle.tk_core.specs.declared.resource.row.ResourceRow.{ResourceRow}

-- bit 0: `dropped` is present; then the attributes' bits
abbrev pub flags_of : ResourceRow → ℕ
flags_of row = (if is_some row.dropped then 1 else 0) + attr_flags row.attrs

-- the words, which are sixteen where there are at most six attributes. A row with a value that no word keeps has none
unfoldable pub words_of : ResourceRow → List ℕ
words_of row = if fit_words row.attrs then flags_of row ∷ row.created ∷ word_of row.dropped ∷ row.handles ∷ (attr_words row.attrs ++ replicate 6 0) else []

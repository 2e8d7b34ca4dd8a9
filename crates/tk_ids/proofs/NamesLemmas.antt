use Rattle.std.proofs.Common.{◌≡◌, ℕ, ◌<◌, rules, true, false, List, length, get_or, ◌∙◌, sym, arith}
use Rattle.std.proofs.lemmas.Bool.{true_from_ne_false, true≢false}
use Rattle.std.proofs.lemmas.Bool.Decides.{nat_tests}
use Rattle.std.proofs.lemmas.List.Folds.{list_all_at}
use Rattle.std.proofs.lemmas.Str.{IsUtf8-from_ascii}
use Rattle.std.proofs.lemmas.Str.Ascii.{IsAscii-from_reads}
use Rattle.std.specs.List.{list_all}
use Rattle.std.specs.Str.{IsAscii, IsUtf8}
use Rattle.tk_ids.specs.Names.{is_printable, is_name}

-- a printable byte is ASCII
printable-lt : (b : ℕ) → is_printable b ≡ true → b < 128
printable-lt b h = grind (arith, nat_tests)

-- so are printable bytes
printable-IsAscii : (bytes : List ℕ) → list_all is_printable bytes ≡ true → IsAscii bytes
printable-IsAscii bytes h =
    IsAscii-from_reads bytes (length bytes) (omega arith) (λ k within.
    printable-lt (get_or bytes k 0)
    (true_from_ne_false _ (λ is. true≢false (sym h ∙ list_all_at is_printable bytes k 0 within is))))

name-printable : (bytes : List ℕ) → is_name bytes ≡ true → list_all is_printable bytes ≡ true
name-printable bytes h = search rules

-- a name is UTF-8
pub is_name-utf8 : (bytes : List ℕ) → is_name bytes ≡ true → IsUtf8 bytes
is_name-utf8 bytes name = IsUtf8-from_ascii bytes (printable-IsAscii bytes (name-printable bytes name))

-- The words of a command: numbers, and kinds of tasks.
use Rattle.std.specs.Prelude.{ℕ, ◌^◌, ◌==◌, ℤ, pos, neg_ℤ, List, [], ◌∷◌, length, ◌&&◌, Bool, true, false, nat_lt, nat_le, if◌then◌else◌, Option, Some, None, option_map, option_and_then, codes}
use Rattle.std.specs.List.{list_all}
use Rattle.std.specs.Char.{is_ascii_digit}
use Rattle.std.specs.Str.{bytes_eq}
use Rattle.std.specs.Str.Parse.{digits_value}
use Rattle.tk_core.specs.Attributes.{is_i64}
use Rattle.tk_ids.specs.declared.spec.TaskKind.{TaskKind}
use Rattle.tk_ids.specs.declared.spec.TaskKind.TheVariants.{Spawn, Blocking}

-- a decimal of 1 to 20 digits, below 2^64
abbrev pub moment : List ℕ → Option ℕ
moment word =
    if nat_lt 0 (length word) && (nat_le (length word) 20 && (list_all is_ascii_digit word && nat_lt (digits_value 10 word) (2 ^ 64)))
    then Some (digits_value 10 word) else None

-- a number that 64 bits hold with its sign
abbrev pub if_i64 : ℤ → Option ℤ
if_i64 n = if is_i64 n then Some n else None

-- a number after a sign: `+` leaves it, and `-` turns it round
abbrev pub after_sign : ℕ → ℕ → Option ℤ
after_sign sign n = if sign == 43 then if_i64 (pos n) else (if sign == 45 then if_i64 (neg_ℤ (pos n)) else None)

-- a sign, and after it a decimal as of a moment: a number from -2^63 to 2^63 - 1
abbrev pub signed : List ℕ → Option ℤ
signed [] = None
signed (sign ∷ digits) = option_and_then (after_sign sign) (moment digits)

-- the kind of task that a word names
abbrev pub kind : List ℕ → Option TaskKind
kind word = if bytes_eq word (codes "spawn") then Some Spawn else (if bytes_eq word (codes "blocking") then Some Blocking else None)

-- whether a poll operation was ready or pending
abbrev pub readiness : List ℕ → Option Bool
readiness word = if bytes_eq word (codes "ready") then Some true else (if bytes_eq word (codes "pending") then Some false else None)

-- one word, which is a number
abbrev pub one_number : List (List ℕ) → Option ℕ
one_number (n ∷ []) = moment n
one_number _ = None

-- two words, which are numbers
abbrev pub two_numbers : List (List ℕ) → Option (ℕ × ℕ)
two_numbers (m ∷ n ∷ []) = option_and_then (λ a. option_map (λ b. (a, b)) (moment n)) (moment m)
two_numbers _ = None

-- five words, which are numbers
abbrev pub five_numbers : List (List ℕ) → Option (ℕ × ℕ × ℕ × ℕ × ℕ)
five_numbers (m ∷ n ∷ o ∷ p ∷ q ∷ []) =
    option_and_then (λ a. option_and_then (λ b. option_and_then (λ c. option_and_then (λ d. option_map (λ e. (a, b, c, d, e)) (moment q)) (moment p)) (moment o)) (moment n)) (moment m)
five_numbers _ = None
